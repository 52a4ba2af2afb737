-- A document and a script file written out are the tokens that they read.
use Rattle.std.proofs.Common.{◌≡◌, Bool, List, ◌∷◌, ◌++◌, Option, refl, ap, append_assoc}
use Rattle.qml_base.specs.declared.numbers.Place.{Place}
use Rattle.qml_syntax.specs.declared.token.TokenKind.{TokenKind}
use Rattle.qml_syntax.specs.declared.token.Token.{Token}
use Rattle.qml_syntax.specs.Tree.{Units, Close}
use Rattle.qml_syntax.specs.Ends.{One, a_token, Sees, seen}
use Rattle.qml_syntax.specs.Flat.{kinds_of, flat_close}
use Rattle.qml_syntax.proofs.FlatLemmas.{is_flat_stmt, is_flat_stmts}
use Rattle.qml_syntax.specs.Tree.{Names, Import, TypeName, Kind, Pars, Function, SignalPars, Object, Members, Member, Value, Objects, Document, Script}
use Rattle.qml_syntax.specs.declared.contextual.Adjective.{Adjective}
use Rattle.qml_syntax.specs.declared.contextual.Version.{Version}
use Rattle.qml_syntax.specs.Words.{Tail, ReadsEnd, e_semi, e_auto}
use Rattle.qml_syntax.specs.ReadsDocument.{ReadsDots, d_none, d_more, ReadsType, t_own, t_of, ReadsKind, k_var, k_name, k_list, ReadsVersion, v_none, v_version, v_number, ReadsQualifier, q_none, q_some, ReadsImport, im_module, im_text, ReadsImports, im_none, im_more, ReadsParKind, pk_none, pk_some, ReadsPars, p_none, p_last, p_more, ReadsFunction, f_function, ReadsSignalPars, g_none, g_last, g_more, ReadsBrackets, b_none, b_some, ReadsAdjective, a_ordinary, a_default, a_readonly, ReadsSemi, no_semi, a_semi, ReadsObject, o_object, ReadsMembers, ms_none, ms_more, ReadsMember, m_id, m_property, m_bare, m_alias, m_signal, m_method, m_given, m_group, m_child, ReadsValue, v_object, v_list, v_stmt, ReadsObjects, os_last, os_more, ReadsDocument, r_document, no_pragma, a_pragma, ReadsFunctions, fs_none, fs_more, ReadsScript, r_script}
use Rattle.qml_syntax.specs.Flat.{flat_dots, flat_type, flat_kind, flat_version, flat_qualifier, flat_import, flat_imports, flat_par_kind, flat_pars, flat_function, flat_functions, flat_signal_pars, flat_brackets, flat_adjective, flat_semi, flat_object, flat_members, flat_member, flat_value, flat_objects, flat_document, flat_script}

one_is : {kind : TokenKind} {p : Place} {a rest : List Token} → One kind p a rest → kinds_of a ≡ kind ∷ kinds_of rest
one_is (a_token {rest = rest} q) = ap (λ z. z ∷ kinds_of rest) q

sees_is : {kind : TokenKind} {a rest : List Token} → Sees kind a rest → kinds_of a ≡ kind ∷ kinds_of rest
sees_is (seen {rest = rest} q) = ap (λ z. z ∷ kinds_of rest) q

end_is : {l : Tail} {c : Close} {a rest : List Token} → ReadsEnd l c a rest → kinds_of a ≡ flat_close c ++ kinds_of rest
end_is (e_semi s) = sees_is s
end_is (e_auto h) = refl

dots_are : {ns : Names} {a rest : List Token} → ReadsDots ns a rest → kinds_of a ≡ flat_dots ns ++ kinds_of rest
dots_are d_none = refl
dots_are (d_more h0 h1 h2) = simp (append_assoc, sees_is h0, sees_is h1, dots_are h2)

type_is : {x : TypeName} {a rest : List Token} → ReadsType x a rest → kinds_of a ≡ flat_type x ++ kinds_of rest
type_is (t_own h0 u) = simp (append_assoc, one_is h0)
type_is (t_of h0 h1 h2 u) = simp (append_assoc, one_is h0, sees_is h1, sees_is h2)

kind_is : {q : Kind} {a rest : List Token} → ReadsKind q a rest → kinds_of a ≡ flat_kind q ++ kinds_of rest
kind_is (k_var h0) = simp (append_assoc, sees_is h0)
kind_is (k_name h0 h1) = simp (append_assoc, one_is h0, dots_are h1)
kind_is (k_list h0 h1 h2 h3) = simp (append_assoc, sees_is h0, sees_is h1, one_is h2, sees_is h3)

version_is : {v : Version} {a rest : List Token} → ReadsVersion v a rest → kinds_of a ≡ flat_version v ++ kinds_of rest
version_is v_none = refl
version_is (v_version h0) = sees_is h0
version_is (v_number h0) = sees_is h0

qualifier_is : {q : Option Units} {a rest : List Token} → ReadsQualifier q a rest → kinds_of a ≡ flat_qualifier q ++ kinds_of rest
qualifier_is q_none = refl
qualifier_is (q_some h0 h1) = simp (append_assoc, sees_is h0, sees_is h1)

import_is : {i : Import} {a rest : List Token} → ReadsImport i a rest → kinds_of a ≡ flat_import i ++ kinds_of rest
import_is (im_module h0 h1 h2 h3 h4 h5) = simp (append_assoc, sees_is h0, one_is h1, dots_are h2, version_is h3, qualifier_is h4, end_is h5)
import_is (im_text h0 h1 h2 f h3) = simp (append_assoc, sees_is h0, one_is h1, qualifier_is h2, end_is h3)

imports_are : {is : List Import} {a rest : List Token} → ReadsImports is a rest → kinds_of a ≡ flat_imports is ++ kinds_of rest
imports_are im_none = refl
imports_are (im_more h0 h1) = simp (append_assoc, import_is h0, imports_are h1)

par_kind_is : {q : Option Kind} {a rest : List Token} → ReadsParKind q a rest → kinds_of a ≡ flat_par_kind q ++ kinds_of rest
par_kind_is pk_none = refl
par_kind_is (pk_some h0 h1) = simp (append_assoc, sees_is h0, kind_is h1)

pars_are : {ps : Pars} {a rest : List Token} → ReadsPars ps a rest → kinds_of a ≡ flat_pars ps ++ kinds_of rest
pars_are p_none = refl
pars_are (p_last h0 h1) = simp (append_assoc, sees_is h0, par_kind_is h1)
pars_are (p_more h0 h1 h2 h3) = simp (append_assoc, sees_is h0, par_kind_is h1, sees_is h2, pars_are h3)

pub function_is : {f : Function} {a rest : List Token} → ReadsFunction f a rest → kinds_of a ≡ flat_function f ++ kinds_of rest
function_is (f_function h0 h1 h2 h3 h4 h5 h6 h7 h8) = simp (append_assoc, one_is h0, one_is h1, sees_is h2, pars_are h3, sees_is h4, par_kind_is h5, sees_is h6, is_flat_stmts h7, sees_is h8)

functions_are : {fs : List Function} {a rest : List Token} → ReadsFunctions fs a rest → kinds_of a ≡ flat_functions fs ++ kinds_of rest
functions_are fs_none = refl
functions_are (fs_more h0 h1) = simp (append_assoc, function_is h0, functions_are h1)

signal_pars_are : {ps : SignalPars} {a rest : List Token} → ReadsSignalPars ps a rest → kinds_of a ≡ flat_signal_pars ps ++ kinds_of rest
signal_pars_are g_none = refl
signal_pars_are (g_last h0 h1) = simp (append_assoc, kind_is h0, sees_is h1)
signal_pars_are (g_more h0 h1 h2 h3) = simp (append_assoc, kind_is h0, sees_is h1, sees_is h2, signal_pars_are h3)

brackets_are : {ps : Option SignalPars} {a rest : List Token} → ReadsBrackets ps a rest → kinds_of a ≡ flat_brackets ps ++ kinds_of rest
brackets_are b_none = refl
brackets_are (b_some h0 h1 h2) = simp (append_assoc, sees_is h0, signal_pars_are h1, sees_is h2)

adjective_is : {d : Adjective} {p : Place} {a rest : List Token} → ReadsAdjective d p a rest → kinds_of a ≡ flat_adjective d ++ kinds_of rest
adjective_is (a_ordinary h0) = one_is h0
adjective_is (a_default h0 h1) = simp (append_assoc, one_is h0, sees_is h1)
adjective_is (a_readonly h0 h1) = simp (append_assoc, one_is h0, sees_is h1)

semi_is : {s : Bool} {a rest : List Token} → ReadsSemi s a rest → kinds_of a ≡ flat_semi s ++ kinds_of rest
semi_is no_semi = refl
semi_is (a_semi h0) = sees_is h0

mutual
  pub object_is : {o : Object} {a rest : List Token} → ReadsObject o a rest → kinds_of a ≡ flat_object o ++ kinds_of rest
  object_is (o_object h0 h1 h2 h3) = simp (append_assoc, type_is h0, sees_is h1, members_are h2, sees_is h3)

  pub members_are : {ms : Members} {a rest : List Token} → ReadsMembers ms a rest → kinds_of a ≡ flat_members ms ++ kinds_of rest
  members_are ms_none = refl
  members_are (ms_more h0 h1 h2) = simp (append_assoc, member_is h0, semi_is h1, members_are h2)

  pub member_is : {x : Member} {a rest : List Token} → ReadsMember x a rest → kinds_of a ≡ flat_member x ++ kinds_of rest
  member_is (m_id h0 h1 h2 u h3) = simp (append_assoc, one_is h0, sees_is h1, one_is h2, end_is h3)
  member_is (m_property h0 h1 u h2 h3 h4) = simp (append_assoc, adjective_is h0, kind_is h1, one_is h2, sees_is h3, value_is h4)
  member_is (m_bare h0 v h1 u h2 h3) = simp (append_assoc, adjective_is h0, kind_is h1, one_is h2, end_is h3)
  member_is (m_alias h0 h1 h2 h3 h4 h5 u h6) = simp (append_assoc, adjective_is h0, sees_is h1, one_is h2, sees_is h3, one_is h4, dots_are h5, end_is h6)
  member_is (m_signal h0 h1 h2 h3) = simp (append_assoc, one_is h0, one_is h1, brackets_are h2, end_is h3)
  member_is (m_method h0) = function_is h0
  member_is (m_given h0 h1 u h2 h3) = simp (append_assoc, one_is h0, dots_are h1, sees_is h2, value_is h3)
  member_is (m_group h0 h1 u h2 h3 h4) = simp (append_assoc, one_is h0, dots_are h1, sees_is h2, members_are h3, sees_is h4)
  member_is (m_child h0) = object_is h0

  pub value_is : {v : Value} {a rest : List Token} → ReadsValue v a rest → kinds_of a ≡ flat_value v ++ kinds_of rest
  value_is (v_object h0) = object_is h0
  value_is (v_list h0 h1 h2) = simp (append_assoc, one_is h0, objects_are h1, sees_is h2)
  value_is (v_stmt h0) = is_flat_stmt h0

  pub objects_are : {os : Objects} {a rest : List Token} → ReadsObjects os a rest → kinds_of a ≡ flat_objects os ++ kinds_of rest
  objects_are (os_last h0) = object_is h0
  objects_are (os_more h0 h1 h2) = simp (append_assoc, object_is h0, sees_is h1, objects_are h2)

pub document_is : (d : Document) (a rest : List Token) → ReadsDocument d a rest → kinds_of a ≡ flat_document d ++ kinds_of rest
document_is d a rest (r_document h0 h1) = simp (append_assoc, imports_are h0, object_is h1)

pub script_is : (s : Script) (a rest : List Token) → ReadsScript s a rest → kinds_of a ≡ flat_script s ++ kinds_of rest
script_is s a rest (r_script no_pragma h0) = functions_are h0
script_is s a rest (r_script (a_pragma h0 h1 h2 l) h3) = simp (append_assoc, sees_is h0, sees_is h1, sees_is h2, functions_are h3)
