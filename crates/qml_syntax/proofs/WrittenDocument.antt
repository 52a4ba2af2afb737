-- Going over the nodes of a document or a script file from the last to the first writes it out.
use Rattle.std.proofs.Common.{◌≡◌, ℕ, Bool, true, false, List, [], ◌∷◌, ◌++◌, Option, Some, None, refl, sym, ap, ◌∙◌, append_assoc, length}
use Rattle.std.specs.Prelude.{reverse}
use Rattle.qml_base.specs.declared.numbers.Place.{Place}
use Rattle.qml_syntax.specs.declared.token.TokenKind.TheVariants as k
use Rattle.qml_syntax.specs.declared.mark.Mark.TheVariants as m
use Rattle.qml_syntax.specs.declared.word.Word.TheVariants as w
use Rattle.qml_syntax.specs.declared.contextual.Contextual.{Contextual}
use Rattle.qml_syntax.specs.declared.contextual.Contextual.TheVariants as c
use Rattle.qml_syntax.specs.declared.contextual.Adjective.TheVariants as adjective
use Rattle.qml_syntax.specs.declared.contextual.Version.TheVariants as version
use Rattle.qml_syntax.specs.declared.node.Node.TheVariants as node
use Rattle.qml_syntax.specs.declared.writing.Parts.TheVariants as part
use Rattle.qml_syntax.specs.declared.writing.Piece.TheVariants as piece
use Rattle.qml_syntax.specs.Tree.{Units, semi, auto, Names, Import, import_module, import_text, TypeName, own_type, type_of, Kind, kind_var, kind_name, kind_list, Pars, no_pars, a_par, Function, function, SignalPars, no_signal_pars, a_signal_par, Object, object, Members, no_members, a_member, Member, id, property, bare, alias, signal, method, given, group, child, Value, value_object, value_list, value_stmt, Objects, last_object, an_object, Document, document, Script, script, Whole, whole_expr, whole_stmt, whole_body, whole_document, whole_script}
use Rattle.qml_syntax.specs.Spelling.{contextual_name}
use Rattle.qml_syntax.specs.Nodes.{Table}
use Rattle.qml_syntax.specs.Listed.{listed_stmts, listed_dots, listed_type, listed_kind, listed_qualifier, listed_import, listed_imports, listed_par_kind, listed_pars, listed_function, listed_functions, listed_signal_pars, listed_object, listed_members, listed_member, listed_content, listed_objects, listed_document, listed_script, listed_whole}
use Rattle.std.proofs.lemmas.List.{append-nil, nil_from_length}
use Rattle.qml_syntax.specs.Flat.{Kinds, comma_if, flat_stmt, flat_stmts, flat_dots, flat_type, flat_kind, flat_qualifier, flat_import, flat_imports, flat_par_kind, flat_pars, flat_function, flat_functions, flat_signal_pars, flat_object, flat_members, flat_member, flat_value, flat_objects, flat_document, flat_script, flat, flat_whole}
use Rattle.qml_syntax.specs.WalkFlat.{Pieces, one, items, steps, rows, kind_behind, flat_from, State, next_of}
use Rattle.qml_syntax.proofs.WalkFlatLemmas.{mark_next, word_next, then_kinds, stmt_written, stmts_written, written}

-- ---- a token in front is written, whatever comes then

contextual_next : (s : Table) (x : Contextual) (st : Pieces) (acc : Kinds) → flat_from s (piece.Contextual x ∷ st, acc) ≡ flat_from s (st, k.Name (contextual_name x) ∷ acc)
contextual_next [] x st acc = refl
contextual_next (n ∷ s) x st acc = refl

version_next : (s : Table) (st : Pieces) (acc : Kinds) → flat_from s (piece.Version ∷ st, acc) ≡ flat_from s (st, k.Version ∷ acc)
version_next [] st acc = refl
version_next (n ∷ s) st acc = refl

number_next : (s : Table) (x : ℕ) (st : Pieces) (acc : Kinds) → flat_from s (piece.Number x ∷ st, acc) ≡ flat_from s (st, k.Number x ∷ acc)
number_next [] x st acc = refl
number_next (n ∷ s) x st acc = refl

-- ---- names, kinds and imports

dots_written : (ns : Names) (s : Table) (st : Pieces) (acc : Kinds) → flat_from (listed_dots ns s) (steps ∷ st, acc) ≡ flat_from s (steps ∷ st, flat_dots ns ++ acc)
dots_written [] s st acc = refl
dots_written (n ∷ ns) s st acc = dots_written ns (node.Dot n ∷ s) st acc ∙ mark_next s m.Dot (steps ∷ st) (k.Name n ∷ (flat_dots ns ++ acc))

path_written : (ns : Names) (n : Units) (p : Place) (s : Table) (st : Pieces) (acc : Kinds) → flat_from (listed_dots ns (node.First n p ∷ s)) (steps ∷ st, acc) ≡ flat_from s (st, k.Name n ∷ (flat_dots ns ++ acc))
path_written ns n p s st acc = dots_written ns (node.First n p ∷ s) st acc

type_written : (x : TypeName) (s : Table) (st : Pieces) (acc : Kinds) → flat_from (listed_type x s) (steps ∷ st, acc) ≡ flat_from s (st, flat_type x ++ acc)
type_written (own_type n p) s st acc = refl
type_written (type_of q p n) s st acc = mark_next (node.First q p ∷ s) m.Dot (steps ∷ st) (k.Name n ∷ acc)

kind_written : (q : Kind) (s : Table) (st : Pieces) (acc : Kinds) → flat_from (listed_kind q s) (one ∷ st, acc) ≡ flat_from s (st, flat_kind q ++ acc)
kind_written kind_var s st acc = word_next s w.Var st acc
kind_written (kind_name n p ns) s st acc = path_written ns n p s st acc
kind_written (kind_list n p) s st acc = mark_next s m.Less (piece.Contextual c.List ∷ st) (k.Name n ∷ k.Mark m.Greater ∷ acc) ∙ contextual_next s c.List st (k.Mark m.Less ∷ k.Name n ∷ k.Mark m.Greater ∷ acc)

as_kind : (q : Kind) (s : Table) (st : Pieces) (acc : Kinds) → flat_from (listed_kind q s) (kind_behind ∷ st, acc) ≡ flat_from (listed_kind q s) (one ∷ piece.Mark m.Colon ∷ st, acc)
as_kind kind_var s st acc = refl
as_kind (kind_name n p ns) s st acc = refl
as_kind (kind_list n p) s st acc = refl

par_kind_written : (q : Option Kind) (s : Table) (st : Pieces) (acc : Kinds) → flat_from (listed_par_kind q s) (kind_behind ∷ st, acc) ≡ flat_from s (st, flat_par_kind q ++ acc)
par_kind_written None s st acc = refl
par_kind_written (Some q) s st acc = as_kind q s st acc ∙ kind_written q s (piece.Mark m.Colon ∷ st) acc ∙ mark_next s m.Colon st (flat_kind q ++ acc)

qualifier_written : (q : Option Units) (s : Table) (st : Pieces) (acc : Kinds) → flat_from (listed_qualifier q s) (one ∷ st, acc) ≡ flat_from s (st, flat_qualifier q ++ acc)
qualifier_written None s st acc = refl
qualifier_written (Some n) s st acc = contextual_next s c.As st (k.Name n ∷ acc)

import_written : (i : Import) (s : Table) (st : Pieces) (acc : Kinds) → flat_from (listed_import i s) (one ∷ st, acc) ≡ flat_from s (st, flat_import i ++ acc)
import_written (import_module n p ns version.Absent q semi) s st acc = mark_next (listed_qualifier q (listed_dots ns (node.First n p ∷ s))) m.Semicolon (one ∷ steps ∷ piece.Word w.Import ∷ st) acc ∙ qualifier_written q (listed_dots ns (node.First n p ∷ s)) (steps ∷ piece.Word w.Import ∷ st) (k.Mark m.Semicolon ∷ acc) ∙ path_written ns n p s (piece.Word w.Import ∷ st) (flat_qualifier q ++ (k.Mark m.Semicolon ∷ acc)) ∙ word_next s w.Import st ((k.Name n ∷ flat_dots ns) ++ (flat_qualifier q ++ (k.Mark m.Semicolon ∷ acc))) ∙ then_kinds s st (simp append_assoc)
import_written (import_module n p ns version.Absent q auto) s st acc = qualifier_written q (listed_dots ns (node.First n p ∷ s)) (steps ∷ piece.Word w.Import ∷ st) acc ∙ path_written ns n p s (piece.Word w.Import ∷ st) (flat_qualifier q ++ acc) ∙ word_next s w.Import st ((k.Name n ∷ flat_dots ns) ++ (flat_qualifier q ++ acc)) ∙ then_kinds s st (simp append_assoc)
import_written (import_module n p ns version.Full q semi) s st acc = mark_next (listed_qualifier q (listed_dots ns (node.First n p ∷ s))) m.Semicolon (one ∷ piece.Version ∷ steps ∷ piece.Word w.Import ∷ st) acc ∙ qualifier_written q (listed_dots ns (node.First n p ∷ s)) (piece.Version ∷ steps ∷ piece.Word w.Import ∷ st) (k.Mark m.Semicolon ∷ acc) ∙ version_next (listed_dots ns (node.First n p ∷ s)) (steps ∷ piece.Word w.Import ∷ st) (flat_qualifier q ++ (k.Mark m.Semicolon ∷ acc)) ∙ path_written ns n p s (piece.Word w.Import ∷ st) (k.Version ∷ (flat_qualifier q ++ (k.Mark m.Semicolon ∷ acc))) ∙ word_next s w.Import st ((k.Name n ∷ flat_dots ns) ++ (k.Version ∷ (flat_qualifier q ++ (k.Mark m.Semicolon ∷ acc)))) ∙ then_kinds s st (simp append_assoc)
import_written (import_module n p ns version.Full q auto) s st acc = qualifier_written q (listed_dots ns (node.First n p ∷ s)) (piece.Version ∷ steps ∷ piece.Word w.Import ∷ st) acc ∙ version_next (listed_dots ns (node.First n p ∷ s)) (steps ∷ piece.Word w.Import ∷ st) (flat_qualifier q ++ acc) ∙ path_written ns n p s (piece.Word w.Import ∷ st) (k.Version ∷ (flat_qualifier q ++ acc)) ∙ word_next s w.Import st ((k.Name n ∷ flat_dots ns) ++ (k.Version ∷ (flat_qualifier q ++ acc))) ∙ then_kinds s st (simp append_assoc)
import_written (import_module n p ns (version.Number v) q semi) s st acc = mark_next (listed_qualifier q (listed_dots ns (node.First n p ∷ s))) m.Semicolon (one ∷ piece.Number v ∷ steps ∷ piece.Word w.Import ∷ st) acc ∙ qualifier_written q (listed_dots ns (node.First n p ∷ s)) (piece.Number v ∷ steps ∷ piece.Word w.Import ∷ st) (k.Mark m.Semicolon ∷ acc) ∙ number_next (listed_dots ns (node.First n p ∷ s)) v (steps ∷ piece.Word w.Import ∷ st) (flat_qualifier q ++ (k.Mark m.Semicolon ∷ acc)) ∙ path_written ns n p s (piece.Word w.Import ∷ st) (k.Number v ∷ (flat_qualifier q ++ (k.Mark m.Semicolon ∷ acc))) ∙ word_next s w.Import st ((k.Name n ∷ flat_dots ns) ++ (k.Number v ∷ (flat_qualifier q ++ (k.Mark m.Semicolon ∷ acc)))) ∙ then_kinds s st (simp append_assoc)
import_written (import_module n p ns (version.Number v) q auto) s st acc = qualifier_written q (listed_dots ns (node.First n p ∷ s)) (piece.Number v ∷ steps ∷ piece.Word w.Import ∷ st) acc ∙ number_next (listed_dots ns (node.First n p ∷ s)) v (steps ∷ piece.Word w.Import ∷ st) (flat_qualifier q ++ acc) ∙ path_written ns n p s (piece.Word w.Import ∷ st) (k.Number v ∷ (flat_qualifier q ++ acc)) ∙ word_next s w.Import st ((k.Name n ∷ flat_dots ns) ++ (k.Number v ∷ (flat_qualifier q ++ acc))) ∙ then_kinds s st (simp append_assoc)
import_written (import_text n p q semi) s st acc = mark_next (listed_qualifier q (node.File n p ∷ s)) m.Semicolon (one ∷ one ∷ piece.Word w.Import ∷ st) acc ∙ qualifier_written q (node.File n p ∷ s) (one ∷ piece.Word w.Import ∷ st) (k.Mark m.Semicolon ∷ acc) ∙ word_next s w.Import st (k.Text n ∷ (flat_qualifier q ++ (k.Mark m.Semicolon ∷ acc))) ∙ then_kinds s st (simp append_assoc)
import_written (import_text n p q auto) s st acc = qualifier_written q (node.File n p ∷ s) (one ∷ piece.Word w.Import ∷ st) (acc) ∙ word_next s w.Import st (k.Text n ∷ (flat_qualifier q ++ (acc))) ∙ then_kinds s st (simp append_assoc)

as_import : (i : Import) (s : Table) (st : Pieces) (acc : Kinds) → flat_from (listed_import i s) (rows ∷ st, acc) ≡ flat_from (listed_import i s) (one ∷ rows ∷ st, acc)
as_import (import_module n p ns v q c) s st acc = refl
as_import (import_text n p q c) s st acc = refl

imports_written : (is : List Import) (s : Table) (st : Pieces) (acc : Kinds) → flat_from (listed_imports is s) (rows ∷ st, acc) ≡ flat_from s (rows ∷ st, flat_imports is ++ acc)
imports_written [] s st acc = refl
imports_written (i ∷ is) s st acc = imports_written is (listed_import i s) st acc ∙ as_import i s st (flat_imports is ++ acc) ∙ import_written i s (rows ∷ st) (flat_imports is ++ acc) ∙ then_kinds s (rows ∷ st) (simp append_assoc)

-- ---- functions and signals

abbrev some_pars : Pars → Bool
some_pars no_pars = false
some_pars (a_par n q ps) = true

pars_written : (ps : Pars) (s : Table) (st : Pieces) (acc : Kinds) → flat_from (listed_pars ps s) (items ∷ st, acc) ≡ flat_from s (piece.Parts (part.Items (some_pars ps)) ∷ st, flat_pars ps ++ acc)
pars_written no_pars s st acc = refl
pars_written (a_par n q no_pars) s st acc = par_kind_written q (node.ParameterName n ∷ s) (one ∷ piece.Parts (part.Items true) ∷ st) acc ∙ then_kinds s (piece.Parts (part.Items true) ∷ st) (simp append_assoc)
pars_written (a_par n q (a_par i r ps)) s st acc = pars_written (a_par i r ps) (node.Parameter ∷ listed_par_kind q (node.ParameterName n ∷ s)) st acc ∙ par_kind_written q (node.ParameterName n ∷ s) (one ∷ piece.Parts (part.Items true) ∷ st) (k.Mark m.Comma ∷ (flat_pars (a_par i r ps) ++ acc)) ∙ then_kinds s (piece.Parts (part.Items true) ∷ st) (simp append_assoc)

abbrev some_signal_pars : SignalPars → Bool
some_signal_pars no_signal_pars = false
some_signal_pars (a_signal_par q n ps) = true

signal_pars_written : (ps : SignalPars) (s : Table) (st : Pieces) (acc : Kinds) → flat_from (listed_signal_pars ps s) (items ∷ st, acc) ≡ flat_from s (piece.Parts (part.Items (some_signal_pars ps)) ∷ st, flat_signal_pars ps ++ acc)
signal_pars_written no_signal_pars s st acc = refl
signal_pars_written (a_signal_par q n no_signal_pars) s st acc = kind_written q s (piece.Parts (part.Items true) ∷ st) (k.Name n ∷ acc) ∙ then_kinds s (piece.Parts (part.Items true) ∷ st) (simp append_assoc)
signal_pars_written (a_signal_par q n (a_signal_par r i ps)) s st acc = signal_pars_written (a_signal_par r i ps) (node.SignalParameter n ∷ listed_kind q s) st acc ∙ kind_written q s (piece.Parts (part.Items true) ∷ st) (k.Name n ∷ k.Mark m.Comma ∷ (flat_signal_pars (a_signal_par r i ps) ++ acc)) ∙ then_kinds s (piece.Parts (part.Items true) ∷ st) (simp append_assoc)

function_written : (f : Function) (s : Table) (st : Pieces) (acc : Kinds) → flat_from (listed_function f s) (one ∷ st, acc) ≡ flat_from s (st, flat_function f ++ acc)
function_written (function p n r ps q ss) s st acc = mark_next (node.Body ∷ listed_stmts ss (node.Mark ∷ listed_par_kind q (listed_pars ps (node.Mark ∷ node.First n r ∷ s)))) m.RightBrace (one ∷ piece.Mark m.LeftBrace ∷ kind_behind ∷ piece.Mark m.RightParen ∷ items ∷ piece.Mark m.LeftParen ∷ one ∷ piece.Word w.Function ∷ st) acc ∙ stmts_written ss (node.Mark ∷ listed_par_kind q (listed_pars ps (node.Mark ∷ node.First n r ∷ s))) (piece.Mark m.LeftBrace ∷ kind_behind ∷ piece.Mark m.RightParen ∷ items ∷ piece.Mark m.LeftParen ∷ one ∷ piece.Word w.Function ∷ st) (k.Mark m.RightBrace ∷ acc) ∙ mark_next (listed_par_kind q (listed_pars ps (node.Mark ∷ node.First n r ∷ s))) m.LeftBrace (kind_behind ∷ piece.Mark m.RightParen ∷ items ∷ piece.Mark m.LeftParen ∷ one ∷ piece.Word w.Function ∷ st) (flat_stmts ss ++ (k.Mark m.RightBrace ∷ acc)) ∙ par_kind_written q (listed_pars ps (node.Mark ∷ node.First n r ∷ s)) (piece.Mark m.RightParen ∷ items ∷ piece.Mark m.LeftParen ∷ one ∷ piece.Word w.Function ∷ st) (k.Mark m.LeftBrace ∷ (flat_stmts ss ++ (k.Mark m.RightBrace ∷ acc))) ∙ mark_next (listed_pars ps (node.Mark ∷ node.First n r ∷ s)) m.RightParen (items ∷ piece.Mark m.LeftParen ∷ one ∷ piece.Word w.Function ∷ st) (flat_par_kind q ++ (k.Mark m.LeftBrace ∷ (flat_stmts ss ++ (k.Mark m.RightBrace ∷ acc)))) ∙ pars_written ps (node.Mark ∷ node.First n r ∷ s) (piece.Mark m.LeftParen ∷ one ∷ piece.Word w.Function ∷ st) (k.Mark m.RightParen ∷ (flat_par_kind q ++ (k.Mark m.LeftBrace ∷ (flat_stmts ss ++ (k.Mark m.RightBrace ∷ acc))))) ∙ mark_next (node.First n r ∷ s) m.LeftParen (one ∷ piece.Word w.Function ∷ st) (flat_pars ps ++ (k.Mark m.RightParen ∷ (flat_par_kind q ++ (k.Mark m.LeftBrace ∷ (flat_stmts ss ++ (k.Mark m.RightBrace ∷ acc)))))) ∙ word_next s w.Function st (k.Name n ∷ (k.Mark m.LeftParen ∷ (flat_pars ps ++ (k.Mark m.RightParen ∷ (flat_par_kind q ++ (k.Mark m.LeftBrace ∷ (flat_stmts ss ++ (k.Mark m.RightBrace ∷ acc)))))))) ∙ then_kinds s st (simp append_assoc)

functions_written : (fs : List Function) (s : Table) (st : Pieces) (acc : Kinds) → flat_from (listed_functions fs s) (rows ∷ st, acc) ≡ flat_from s (rows ∷ st, flat_functions fs ++ acc)
functions_written [] s st acc = refl
functions_written (function p n r ps q ss ∷ fs) s st acc = functions_written fs (listed_function (function p n r ps q ss) s) st acc ∙ function_written (function p n r ps q ss) s (rows ∷ st) (flat_functions fs ++ acc) ∙ then_kinds s (rows ∷ st) (simp append_assoc)

-- ---- objects

as_member : (x : Member) (s : Table) (st : Pieces) (acc : Kinds) → flat_from (listed_member x s) (rows ∷ st, acc) ≡ flat_from (listed_member x s) (one ∷ rows ∷ st, acc)
as_member (signal p n r None c) s st acc = refl
as_member (signal p n r (Some ps) c) s st acc = refl
as_member _ s st acc = refl

as_object : (o : Object) (c : Bool) (s : Table) (st : Pieces) (acc : Kinds) → flat_from (listed_object o s) (piece.Parts (part.Items c) ∷ st, acc) ≡ flat_from (listed_object o s) (one ∷ piece.Parts (part.Items true) ∷ st, comma_if c ++ acc)
as_object (object x ms) true s st acc = refl
as_object (object x ms) false s st acc = refl

mutual
  object_written : (o : Object) (s : Table) (st : Pieces) (acc : Kinds) → flat_from (listed_object o s) (one ∷ st, acc) ≡ flat_from s (st, flat_object o ++ acc)
  object_written (object x ms) s st acc = mark_next (listed_members ms (node.Mark ∷ listed_type x s)) m.RightBrace (rows ∷ piece.Mark m.LeftBrace ∷ steps ∷ st) acc ∙ members_written ms (node.Mark ∷ listed_type x s) (piece.Mark m.LeftBrace ∷ steps ∷ st) (k.Mark m.RightBrace ∷ acc) ∙ mark_next (listed_type x s) m.LeftBrace (steps ∷ st) (flat_members ms ++ (k.Mark m.RightBrace ∷ acc)) ∙ type_written x s st (k.Mark m.LeftBrace ∷ (flat_members ms ++ (k.Mark m.RightBrace ∷ acc))) ∙ then_kinds s st (simp append_assoc)

  members_written : (ms : Members) (s : Table) (st : Pieces) (acc : Kinds) → flat_from (listed_members ms s) (rows ∷ st, acc) ≡ flat_from s (rows ∷ st, flat_members ms ++ acc)
  members_written no_members s st acc = refl
  members_written (a_member x false ms) s st acc = members_written ms (listed_member x s) st acc ∙ as_member x s st (flat_members ms ++ acc) ∙ member_written x s (rows ∷ st) (flat_members ms ++ acc) ∙ then_kinds s (rows ∷ st) (simp append_assoc)
  members_written (a_member x true ms) s st acc = members_written ms (node.Semi ∷ listed_member x s) st acc ∙ mark_next (listed_member x s) m.Semicolon (one ∷ rows ∷ st) (flat_members ms ++ acc) ∙ member_written x s (rows ∷ st) (k.Mark m.Semicolon ∷ (flat_members ms ++ acc)) ∙ then_kinds s (rows ∷ st) (simp append_assoc)

  member_written : (x : Member) (s : Table) (st : Pieces) (acc : Kinds) → flat_from (listed_member x s) (one ∷ st, acc) ≡ flat_from s (st, flat_member x ++ acc)
  member_written (id p n r semi) s st acc = mark_next (node.First n r ∷ s) m.Semicolon (one ∷ piece.Mark m.Colon ∷ piece.Contextual c.Id ∷ st) acc ∙ mark_next s m.Colon (piece.Contextual c.Id ∷ st) (k.Name n ∷ (k.Mark m.Semicolon ∷ acc)) ∙ contextual_next s c.Id st (k.Mark m.Colon ∷ (k.Name n ∷ (k.Mark m.Semicolon ∷ acc)))
  member_written (id p n r auto) s st acc = mark_next s m.Colon (piece.Contextual c.Id ∷ st) (k.Name n ∷ acc) ∙ contextual_next s c.Id st (k.Mark m.Colon ∷ (k.Name n ∷ acc))
  member_written (property p adjective.Ordinary q n r v) s st acc = content_written v (node.First n r ∷ listed_kind q s) (piece.Mark m.Colon ∷ one ∷ one ∷ piece.Contextual c.Property ∷ st) acc ∙ mark_next (node.First n r ∷ listed_kind q s) m.Colon (one ∷ one ∷ piece.Contextual c.Property ∷ st) (flat_value v ++ acc) ∙ kind_written q s (piece.Contextual c.Property ∷ st) (k.Name n ∷ (k.Mark m.Colon ∷ (flat_value v ++ acc))) ∙ contextual_next s c.Property st (flat_kind q ++ (k.Name n ∷ (k.Mark m.Colon ∷ (flat_value v ++ acc)))) ∙ then_kinds s st (simp append_assoc)
  member_written (property p adjective.Default q n r v) s st acc = content_written v (node.First n r ∷ listed_kind q s) (piece.Mark m.Colon ∷ one ∷ one ∷ piece.Contextual c.Property ∷ piece.Word w.Default ∷ st) acc ∙ mark_next (node.First n r ∷ listed_kind q s) m.Colon (one ∷ one ∷ piece.Contextual c.Property ∷ piece.Word w.Default ∷ st) (flat_value v ++ acc) ∙ kind_written q s (piece.Contextual c.Property ∷ piece.Word w.Default ∷ st) (k.Name n ∷ (k.Mark m.Colon ∷ (flat_value v ++ acc))) ∙ contextual_next s c.Property (piece.Word w.Default ∷ st) (flat_kind q ++ (k.Name n ∷ (k.Mark m.Colon ∷ (flat_value v ++ acc)))) ∙ word_next s w.Default st (k.Name (contextual_name c.Property) ∷ (flat_kind q ++ (k.Name n ∷ (k.Mark m.Colon ∷ (flat_value v ++ acc))))) ∙ then_kinds s st (simp append_assoc)
  member_written (property p adjective.ReadOnly q n r v) s st acc = content_written v (node.First n r ∷ listed_kind q s) (piece.Mark m.Colon ∷ one ∷ one ∷ piece.Contextual c.Property ∷ piece.Contextual c.ReadOnly ∷ st) acc ∙ mark_next (node.First n r ∷ listed_kind q s) m.Colon (one ∷ one ∷ piece.Contextual c.Property ∷ piece.Contextual c.ReadOnly ∷ st) (flat_value v ++ acc) ∙ kind_written q s (piece.Contextual c.Property ∷ piece.Contextual c.ReadOnly ∷ st) (k.Name n ∷ (k.Mark m.Colon ∷ (flat_value v ++ acc))) ∙ contextual_next s c.Property (piece.Contextual c.ReadOnly ∷ st) (flat_kind q ++ (k.Name n ∷ (k.Mark m.Colon ∷ (flat_value v ++ acc)))) ∙ contextual_next s c.ReadOnly st (k.Name (contextual_name c.Property) ∷ (flat_kind q ++ (k.Name n ∷ (k.Mark m.Colon ∷ (flat_value v ++ acc))))) ∙ then_kinds s st (simp append_assoc)
  member_written (bare p adjective.Ordinary q n r semi) s st acc = mark_next (node.First n r ∷ listed_kind q s) m.Semicolon (one ∷ one ∷ piece.Contextual c.Property ∷ st) acc ∙ kind_written q s (piece.Contextual c.Property ∷ st) (k.Name n ∷ (k.Mark m.Semicolon ∷ acc)) ∙ contextual_next s c.Property st (flat_kind q ++ (k.Name n ∷ (k.Mark m.Semicolon ∷ acc))) ∙ then_kinds s st (simp append_assoc)
  member_written (bare p adjective.Ordinary q n r auto) s st acc = kind_written q s (piece.Contextual c.Property ∷ st) (k.Name n ∷ acc) ∙ contextual_next s c.Property st (flat_kind q ++ (k.Name n ∷ acc)) ∙ then_kinds s st (simp append_assoc)
  member_written (bare p adjective.Default q n r semi) s st acc = mark_next (node.First n r ∷ listed_kind q s) m.Semicolon (one ∷ one ∷ piece.Contextual c.Property ∷ piece.Word w.Default ∷ st) acc ∙ kind_written q s (piece.Contextual c.Property ∷ piece.Word w.Default ∷ st) (k.Name n ∷ (k.Mark m.Semicolon ∷ acc)) ∙ contextual_next s c.Property (piece.Word w.Default ∷ st) (flat_kind q ++ (k.Name n ∷ (k.Mark m.Semicolon ∷ acc))) ∙ word_next s w.Default st (k.Name (contextual_name c.Property) ∷ (flat_kind q ++ (k.Name n ∷ (k.Mark m.Semicolon ∷ acc)))) ∙ then_kinds s st (simp append_assoc)
  member_written (bare p adjective.Default q n r auto) s st acc = kind_written q s (piece.Contextual c.Property ∷ piece.Word w.Default ∷ st) (k.Name n ∷ acc) ∙ contextual_next s c.Property (piece.Word w.Default ∷ st) (flat_kind q ++ (k.Name n ∷ acc)) ∙ word_next s w.Default st (k.Name (contextual_name c.Property) ∷ (flat_kind q ++ (k.Name n ∷ acc))) ∙ then_kinds s st (simp append_assoc)
  member_written (bare p adjective.ReadOnly q n r semi) s st acc = mark_next (node.First n r ∷ listed_kind q s) m.Semicolon (one ∷ one ∷ piece.Contextual c.Property ∷ piece.Contextual c.ReadOnly ∷ st) acc ∙ kind_written q s (piece.Contextual c.Property ∷ piece.Contextual c.ReadOnly ∷ st) (k.Name n ∷ (k.Mark m.Semicolon ∷ acc)) ∙ contextual_next s c.Property (piece.Contextual c.ReadOnly ∷ st) (flat_kind q ++ (k.Name n ∷ (k.Mark m.Semicolon ∷ acc))) ∙ contextual_next s c.ReadOnly st (k.Name (contextual_name c.Property) ∷ (flat_kind q ++ (k.Name n ∷ (k.Mark m.Semicolon ∷ acc)))) ∙ then_kinds s st (simp append_assoc)
  member_written (bare p adjective.ReadOnly q n r auto) s st acc = kind_written q s (piece.Contextual c.Property ∷ piece.Contextual c.ReadOnly ∷ st) (k.Name n ∷ acc) ∙ contextual_next s c.Property (piece.Contextual c.ReadOnly ∷ st) (flat_kind q ++ (k.Name n ∷ acc)) ∙ contextual_next s c.ReadOnly st (k.Name (contextual_name c.Property) ∷ (flat_kind q ++ (k.Name n ∷ acc))) ∙ then_kinds s st (simp append_assoc)
  member_written (alias p true n r t y ns semi) s st acc = mark_next (listed_dots ns (node.First t y ∷ node.First n r ∷ s)) m.Semicolon (steps ∷ piece.Mark m.Colon ∷ one ∷ piece.Contextual c.Alias ∷ piece.Contextual c.Property ∷ piece.Word w.Default ∷ st) acc ∙ path_written ns t y (node.First n r ∷ s) (piece.Mark m.Colon ∷ one ∷ piece.Contextual c.Alias ∷ piece.Contextual c.Property ∷ piece.Word w.Default ∷ st) (k.Mark m.Semicolon ∷ acc) ∙ mark_next (node.First n r ∷ s) m.Colon (one ∷ piece.Contextual c.Alias ∷ piece.Contextual c.Property ∷ piece.Word w.Default ∷ st) ((k.Name t ∷ flat_dots ns) ++ (k.Mark m.Semicolon ∷ acc)) ∙ contextual_next s c.Alias (piece.Contextual c.Property ∷ piece.Word w.Default ∷ st) (k.Name n ∷ (k.Mark m.Colon ∷ ((k.Name t ∷ flat_dots ns) ++ (k.Mark m.Semicolon ∷ acc)))) ∙ contextual_next s c.Property (piece.Word w.Default ∷ st) (k.Name (contextual_name c.Alias) ∷ (k.Name n ∷ (k.Mark m.Colon ∷ ((k.Name t ∷ flat_dots ns) ++ (k.Mark m.Semicolon ∷ acc))))) ∙ word_next s w.Default st (k.Name (contextual_name c.Property) ∷ (k.Name (contextual_name c.Alias) ∷ (k.Name n ∷ (k.Mark m.Colon ∷ ((k.Name t ∷ flat_dots ns) ++ (k.Mark m.Semicolon ∷ acc)))))) ∙ then_kinds s st (simp append_assoc)
  member_written (alias p true n r t y ns auto) s st acc = path_written ns t y (node.First n r ∷ s) (piece.Mark m.Colon ∷ one ∷ piece.Contextual c.Alias ∷ piece.Contextual c.Property ∷ piece.Word w.Default ∷ st) acc ∙ mark_next (node.First n r ∷ s) m.Colon (one ∷ piece.Contextual c.Alias ∷ piece.Contextual c.Property ∷ piece.Word w.Default ∷ st) ((k.Name t ∷ flat_dots ns) ++ acc) ∙ contextual_next s c.Alias (piece.Contextual c.Property ∷ piece.Word w.Default ∷ st) (k.Name n ∷ (k.Mark m.Colon ∷ ((k.Name t ∷ flat_dots ns) ++ acc))) ∙ contextual_next s c.Property (piece.Word w.Default ∷ st) (k.Name (contextual_name c.Alias) ∷ (k.Name n ∷ (k.Mark m.Colon ∷ ((k.Name t ∷ flat_dots ns) ++ acc)))) ∙ word_next s w.Default st (k.Name (contextual_name c.Property) ∷ (k.Name (contextual_name c.Alias) ∷ (k.Name n ∷ (k.Mark m.Colon ∷ ((k.Name t ∷ flat_dots ns) ++ acc))))) ∙ then_kinds s st (simp append_assoc)
  member_written (alias p false n r t y ns semi) s st acc = mark_next (listed_dots ns (node.First t y ∷ node.First n r ∷ s)) m.Semicolon (steps ∷ piece.Mark m.Colon ∷ one ∷ piece.Contextual c.Alias ∷ piece.Contextual c.Property ∷ st) acc ∙ path_written ns t y (node.First n r ∷ s) (piece.Mark m.Colon ∷ one ∷ piece.Contextual c.Alias ∷ piece.Contextual c.Property ∷ st) (k.Mark m.Semicolon ∷ acc) ∙ mark_next (node.First n r ∷ s) m.Colon (one ∷ piece.Contextual c.Alias ∷ piece.Contextual c.Property ∷ st) ((k.Name t ∷ flat_dots ns) ++ (k.Mark m.Semicolon ∷ acc)) ∙ contextual_next s c.Alias (piece.Contextual c.Property ∷ st) (k.Name n ∷ (k.Mark m.Colon ∷ ((k.Name t ∷ flat_dots ns) ++ (k.Mark m.Semicolon ∷ acc)))) ∙ contextual_next s c.Property st (k.Name (contextual_name c.Alias) ∷ (k.Name n ∷ (k.Mark m.Colon ∷ ((k.Name t ∷ flat_dots ns) ++ (k.Mark m.Semicolon ∷ acc))))) ∙ then_kinds s st (simp append_assoc)
  member_written (alias p false n r t y ns auto) s st acc = path_written ns t y (node.First n r ∷ s) (piece.Mark m.Colon ∷ one ∷ piece.Contextual c.Alias ∷ piece.Contextual c.Property ∷ st) acc ∙ mark_next (node.First n r ∷ s) m.Colon (one ∷ piece.Contextual c.Alias ∷ piece.Contextual c.Property ∷ st) ((k.Name t ∷ flat_dots ns) ++ acc) ∙ contextual_next s c.Alias (piece.Contextual c.Property ∷ st) (k.Name n ∷ (k.Mark m.Colon ∷ ((k.Name t ∷ flat_dots ns) ++ acc))) ∙ contextual_next s c.Property st (k.Name (contextual_name c.Alias) ∷ (k.Name n ∷ (k.Mark m.Colon ∷ ((k.Name t ∷ flat_dots ns) ++ acc)))) ∙ then_kinds s st (simp append_assoc)
  member_written (signal p n r None semi) s st acc = mark_next (node.First n r ∷ s) m.Semicolon (one ∷ piece.Contextual c.Signal ∷ st) acc ∙ contextual_next s c.Signal st (k.Name n ∷ (k.Mark m.Semicolon ∷ acc))
  member_written (signal p n r None auto) s st acc = contextual_next s c.Signal st (k.Name n ∷ acc)
  member_written (signal p n r (Some ps) semi) s st acc = mark_next (listed_signal_pars ps (node.Mark ∷ node.First n r ∷ s)) m.Semicolon (piece.Mark m.RightParen ∷ items ∷ piece.Mark m.LeftParen ∷ one ∷ piece.Contextual c.Signal ∷ st) acc ∙ mark_next (listed_signal_pars ps (node.Mark ∷ node.First n r ∷ s)) m.RightParen (items ∷ piece.Mark m.LeftParen ∷ one ∷ piece.Contextual c.Signal ∷ st) (k.Mark m.Semicolon ∷ acc) ∙ signal_pars_written ps (node.Mark ∷ node.First n r ∷ s) (piece.Mark m.LeftParen ∷ one ∷ piece.Contextual c.Signal ∷ st) (k.Mark m.RightParen ∷ (k.Mark m.Semicolon ∷ acc)) ∙ mark_next (node.First n r ∷ s) m.LeftParen (one ∷ piece.Contextual c.Signal ∷ st) (flat_signal_pars ps ++ (k.Mark m.RightParen ∷ (k.Mark m.Semicolon ∷ acc))) ∙ contextual_next s c.Signal st (k.Name n ∷ (k.Mark m.LeftParen ∷ (flat_signal_pars ps ++ (k.Mark m.RightParen ∷ (k.Mark m.Semicolon ∷ acc))))) ∙ then_kinds s st (simp append_assoc)
  member_written (signal p n r (Some ps) auto) s st acc = mark_next (listed_signal_pars ps (node.Mark ∷ node.First n r ∷ s)) m.RightParen (items ∷ piece.Mark m.LeftParen ∷ one ∷ piece.Contextual c.Signal ∷ st) acc ∙ signal_pars_written ps (node.Mark ∷ node.First n r ∷ s) (piece.Mark m.LeftParen ∷ one ∷ piece.Contextual c.Signal ∷ st) (k.Mark m.RightParen ∷ acc) ∙ mark_next (node.First n r ∷ s) m.LeftParen (one ∷ piece.Contextual c.Signal ∷ st) (flat_signal_pars ps ++ (k.Mark m.RightParen ∷ acc)) ∙ contextual_next s c.Signal st (k.Name n ∷ (k.Mark m.LeftParen ∷ (flat_signal_pars ps ++ (k.Mark m.RightParen ∷ acc)))) ∙ then_kinds s st (simp append_assoc)
  member_written (method f) s st acc = function_written f s st acc
  member_written (given n p ns v) s st acc = content_written v (listed_dots ns (node.First n p ∷ s)) (piece.Mark m.Colon ∷ steps ∷ st) acc ∙ mark_next (listed_dots ns (node.First n p ∷ s)) m.Colon (steps ∷ st) (flat_value v ++ acc) ∙ path_written ns n p s st (k.Mark m.Colon ∷ (flat_value v ++ acc)) ∙ then_kinds s st (simp append_assoc)
  member_written (group n p ns ms) s st acc = mark_next (listed_members ms (node.Mark ∷ listed_dots ns (node.First n p ∷ s))) m.RightBrace (rows ∷ piece.Mark m.LeftBrace ∷ steps ∷ st) acc ∙ members_written ms (node.Mark ∷ listed_dots ns (node.First n p ∷ s)) (piece.Mark m.LeftBrace ∷ steps ∷ st) (k.Mark m.RightBrace ∷ acc) ∙ mark_next (listed_dots ns (node.First n p ∷ s)) m.LeftBrace (steps ∷ st) (flat_members ms ++ (k.Mark m.RightBrace ∷ acc)) ∙ path_written ns n p s st (k.Mark m.LeftBrace ∷ (flat_members ms ++ (k.Mark m.RightBrace ∷ acc))) ∙ then_kinds s st (simp append_assoc)
  member_written (child o) s st acc = object_written o s st acc

  content_written : (v : Value) (s : Table) (st : Pieces) (acc : Kinds) → flat_from (listed_content v s) (one ∷ st, acc) ≡ flat_from s (st, flat_value v ++ acc)
  content_written (value_object o) s st acc = object_written o s st acc
  content_written (value_list p os) s st acc = mark_next (listed_objects os (node.Mark ∷ s)) m.RightBracket (items ∷ piece.Mark m.LeftBracket ∷ st) acc ∙ objects_written os (node.Mark ∷ s) (piece.Mark m.LeftBracket ∷ st) (k.Mark m.RightBracket ∷ acc) ∙ mark_next s m.LeftBracket st (flat_objects os ++ (k.Mark m.RightBracket ∷ acc)) ∙ then_kinds s st (simp append_assoc)
  content_written (value_stmt d) s st acc = stmt_written d s st acc

  objects_written : (os : Objects) (s : Table) (st : Pieces) (acc : Kinds) → flat_from (listed_objects os s) (items ∷ st, acc) ≡ flat_from s (piece.Parts (part.Items true) ∷ st, flat_objects os ++ acc)
  objects_written (last_object o) s st acc = as_object o false s st acc ∙ object_written o s (piece.Parts (part.Items true) ∷ st) acc
  objects_written (an_object o os) s st acc = objects_written os (listed_object o s) st acc ∙ as_object o true s st (flat_objects os ++ acc) ∙ object_written o s (piece.Parts (part.Items true) ∷ st) (k.Mark m.Comma ∷ (flat_objects os ++ acc)) ∙ then_kinds s (piece.Parts (part.Items true) ∷ st) (simp append_assoc)

document_written : (d : Document) → flat_from (listed_document d) (one ∷ [], []) ≡ flat_document d
document_written (document is o) = object_written o (listed_imports is (node.Mark ∷ [])) (rows ∷ []) [] ∙ imports_written is (node.Mark ∷ []) [] (flat_object o ++ []) ∙ simp (append_assoc, append-nil)

script_written : (x : Script) → flat_from (listed_script x) (one ∷ [], []) ≡ flat_script x
script_written (script true fs) = functions_written fs (node.Mark ∷ []) (piece.Contextual c.Library ∷ piece.Contextual c.Pragma ∷ piece.Mark m.Dot ∷ []) [] ∙ simp append-nil
script_written (script false fs) = functions_written fs (node.Mark ∷ []) [] [] ∙ simp append-nil

-- what is written of the nodes of a whole
pub whole_written : (x : Whole) → flat_from (listed_whole x) (one ∷ [], []) ≡ flat_whole x
whole_written (whole_expr e) = written e [] [] [] ∙ append-nil (flat e)
whole_written (whole_stmt d) = stmt_written d [] [] [] ∙ append-nil (flat_stmt d)
whole_written (whole_body ss) = stmts_written ss (node.Mark ∷ []) [] [] ∙ append-nil (flat_stmts ss)
whole_written (whole_document d) = document_written d
whole_written (whole_script s) = script_written s

-- where no node is left
pub all_written : (left nodes : Table) (state : State) (kinds : Kinds) (x : Whole) → length left ≡ 0 → flat_from (reverse left) state ≡ flat_from nodes (one ∷ [], []) → kinds ≡ (next_of state.0 state.1).2 → nodes ≡ listed_whole x → kinds ≡ flat_whole x
all_written left nodes state kinds x e f g h =
    g
    ∙ sym (ap (λ (z : Table). flat_from (reverse z) state) (nil_from_length left e))
    ∙ f
    ∙ ap (λ (z : Table). flat_from z (one ∷ [], [])) h
    ∙ whole_written x
