-- Each token that is read is a token of what is open.
use Rattle.std.proofs.Common.{◌≡◌, suc, ◌≤◌, Bool, true, false, not, ◌&&◌, List, [], ◌∷◌, ◌++◌, length, Option, Some, None, refl, sym, ap, ◌∙◌, subst, inl, inr, codes, append_assoc, arith}
use Rattle.std.specs.Prelude.{if◌then◌else◌, nat_lt}
use Rattle.std.specs.Str.{bytes_eq}
use Rattle.std.proofs.lemmas.Bool.{leb-true}
use Rattle.qml_syntax.specs.Levels.{Reached}
use Rattle.qml_base.specs.declared.numbers.Place.{Place}
use Rattle.qml_syntax.specs.declared.token.TokenKind.{TokenKind}
use Rattle.qml_syntax.specs.declared.token.TokenKind.TheVariants as k
use Rattle.qml_syntax.specs.declared.mark.Mark.TheVariants as m
use Rattle.qml_syntax.specs.declared.word.Word.TheVariants as w
use Rattle.qml_syntax.specs.declared.token.Token.{Token}
use Rattle.qml_syntax.specs.Tree.{Units, Close, semi, auto, name, member, Stmts}
use Rattle.qml_syntax.specs.Ends.{One, a_token, Sees, seen}
use Rattle.qml_syntax.specs.Reads.{r_name, ReadsStep, p_member, ReadsStmts}
use Rattle.js_machine.specs.Machine.{is_brace, is_semi, step, finish, Whole, whole_stmt, whole_body, a_statement, a_body}
use Rattle.js_machine.proofs.Tokens.{both_true}
use Rattle.js_machine.proofs.Exact.{Ran, moves, begun}
use Rattle.js_machine.specs.Frames.{in_one, in_list, in_expr, in_items, State, have, begin}
use Rattle.js_machine.proofs.Opened.{oe_none, rb_none, rb_more}
use Rattle.js_machine.proofs.Left.{l_one, l_expr, l_items, StateReads}
use Rattle.qml_machine.proofs.StmtEnds.{ends_reads}
use Rattle.qml_syntax.specs.Tree.{Function, function, Names, Import, TypeName, own_type, type_of, Kind, kind_var, kind_name, kind_list, no_pars, SignalPars, no_signal_pars, Object, object, no_members, Member, id, bare, alias, signal, value_list, value_stmt, last_object}
use Rattle.qml_syntax.specs.declared.contextual.Adjective.{Adjective}
use Rattle.qml_syntax.specs.declared.contextual.Adjective.TheVariants as adjective
use Rattle.qml_syntax.specs.declared.contextual.Version.TheVariants as version
use Rattle.qml_syntax.specs.Words.{is_as, is_type, is_id, is_type_path, is_id_path, may_be_bare, is_alias, adjective_of, at_most_two, Tail, whole, before_value, before_version, before_as, tail_of_target, tail_of_signal, ReadsEnd, e_semi, e_auto}
use Rattle.qml_syntax.specs.ReadsDocument.{ReadsDots, d_none, d_more, ReadsType, t_own, t_of, ReadsKind, k_var, k_name, k_list, v_none, v_version, v_number, ReadsQualifier, q_none, q_some, im_module, im_text, ReadsParKind, pk_none, pk_some, p_none, p_last, ReadsFunction, f_function, g_none, g_last, ReadsBrackets, b_none, b_some, ReadsAdjective, a_ordinary, a_default, a_readonly, no_semi, a_semi, ReadsObject, o_object, ms_none, ReadsMember, m_id, m_bare, m_alias, m_signal, m_method, m_group, m_child, v_object, v_list, v_stmt, os_last, no_pragma, a_pragma}
use Rattle.qml_machine.specs.Open.{onto, members_onto, objects_onto, pars_onto, Par, SignalPar, signal_pars_onto, Holder, at_root, as_child, as_value, in_objects, Inside, in_object, in_group, Target, Home, in_members, in_script, Head, head, Kinded, of_declared, of_signal_par, of_par, of_result, Source, of_module, of_text, import_of, member_of, inside_of, grown, Reading, imports, at_import, module_named, sourced, at_qualifier, qualified, object_named, object_dotted, typed, members, done, path, at_id, kind_named, kind_dotted, kinded, at_kind, at_element, element_named, of_path, of_property, property_named, alias_named, signal_par_named, function_closed, at_par, par_named, body, value, target, target_dotted, at_target, signal_named, signal_opened, signal_closed, function_named, function_opened, objects, at_object, module_dotted, path_dotted, id_named, at_property, rooted, at_function, script_begun, at_pragma, at_library, pragma_read, functions}
use Rattle.qml_machine.specs.DocumentMachine.{on_end, start, opened, held, closed, on_members, on_done, on_imports, on_import_end, on_sourced, on_module, on_import, needs_qualifier, on_object_named, on_path_brace, on_path_name, on_path_var, on_path, word_of, is_default, on_kinded, on_kind, on_kind_named, homed, function_of, on_body_end, on_body_stuck, is_left_brace, type_read, on_type_read, on_stmt_end, on_value_stuck, on_objects, is_colon, is_left_paren, is_dot, is_greater, on_mark, on_property_named, on_target, on_target_end, on_signal_end, on_signal_opened, on_signal_par, on_function_opened, on_par, on_function_closed, on_functions, read_step, may_end, Entry, a_document}
use Rattle.qml_machine.proofs.Backs.{OpenDots, od_none, od_more, dots_closed, OpenImports, oi_more, OpenFunctions, of_none, of_more, om_none, members_closed, oo_none, oo_more, objects_closed, op_none, op_more, pars_closed, og_none, og_more, signal_pars_closed}
use Rattle.qml_machine.proofs.LeftOpen.{LeftHolder, lh_root, lh_child, lh_value, lh_objects, LeftInside, li_object, li_group, LeftTarget, lt_path, lt_property, LeftHome, lo_members, lo_script, ld_head, LeftOpened, le_opened, LeftClosed, lc_closed, LeftSignal, lg_signal, LeftKinded, lk_declared, lk_signal, lk_par, lk_result, LeftModule, lm_module, LeftSource, ls_module, ls_text, tail_of_source, LeftAlias, la_alias, SignalParsTo, ObjectsTo, ReadingReads, grown_reads, member_reads}
use Rattle.qml_machine.proofs.Tells.{some_reading, same_name, name_tells, mark_tells, if_tells, either_tells, brace_tells, semi_tells, left_brace_tells, colon_tells, paren_tells, greater_tells, dot_tells, as_tells, word_tells, stops_tells, end_tells}
use Rattle.qml_machine.specs.declared.state.FirstWord.{FirstWord}
use Rattle.qml_machine.specs.declared.state.FirstWord.TheVariants as word

pub moved : (y : Entry) (x next : Reading) (s rest : List Token) → x ≡ next → ReadingReads y x s rest → ReadingReads y next s rest
moved y x next s rest q r = let P : Reading → Type 0 = λ z. ReadingReads y z s rest in subst P q r

pub to : (y : Entry) (x next : Reading) (s rest : List Token) → Some x ≡ Some next → ReadingReads y x s rest → ReadingReads y next s rest
to y x next s rest q r = moved y x next s rest (some_reading q) r

-- ---- objects and members

pub held_reads : (y : Entry) (h : Holder) (o : Object) (s a rest : List Token) → LeftHolder y h s a → ReadsObject o a rest → ReadingReads y (held h o) s rest
held_reads y (at_root is) o s a rest (lh_root q i) r = (a, q, i, r)
held_reads y (as_child i) o s a rest (lh_child l) r = (a, l, m_child r)
held_reads y (as_value g) o s a rest (lh_value l) r = let b = member_reads y g l (v_object r) in (b.0, b.1, b.2)
held_reads y (in_objects g p back) o s z rest (lh_objects {a = a} {b = b} l one oo) r = (a, b, l, one, (z, oo, r))

pub closed_reads : (y : Entry) (i : Inside) (t : Token) (s rest : List Token) → LeftInside y i s (t ∷ rest) → t.what ≡ k.Mark m.RightBrace → ReadingReads y (closed i) s rest
closed_reads y (in_object h x back) t s rest (li_object {a = a} l ty see o) q = held_reads y h (object x (members_onto back no_members)) s a rest l (o_object ty see (members_closed o ms_none) (seen q))
closed_reads y (in_group i n p ns back) t s rest (li_group {a = a} l one ds h see o) q = (a, l, m_group one ds h see (members_closed o ms_none) (seen q))

members_kind : (y : Entry) (i : Inside) (t : Token) (x : TokenKind) (s rest : List Token) (next : Reading) → LeftInside y i s (t ∷ rest) → t.what ≡ x → on_members i t.place x ≡ Some next → ReadingReads y next s rest
members_kind y i t (k.Mark m.RightBrace) s rest next l q h = to y (closed i) next s rest h (closed_reads y i t s rest l q)
members_kind y i t (k.Word w.Function) s rest next l q h = to y _ next s rest h (t ∷ rest, lo_members l, a_token q)
members_kind y i t (k.Word w.Default) s rest next l q h = to y _ next s rest h (t ∷ rest, l, λ b see. a_default (a_token q) see)
members_kind y i t (k.Name n) s rest next l q h = to y _ next s rest h (t ∷ rest, rest, l, a_token q, od_none)
members_kind y i t _ s rest next l q h = cc

pub members_step : (y : Entry) (i : Inside) (t : Token) (s rest : List Token) (next : Reading) → LeftInside y i s (t ∷ rest) → on_members i t.place t.what ≡ Some next → ReadingReads y next s rest
members_step y i t s rest next l h = members_kind y i t t.what s rest next l refl h

pub done_step : (y : Entry) (i : Inside) (x : Member) (t : Token) (s a rest : List Token) (next : Reading) → LeftInside y i s a → ReadsMember x a (t ∷ rest) → on_done i x t.place t.what ≡ Some next → ReadingReads y next s rest
done_step y i x t s a rest next l r h = elim (either_tells (is_semi t.what) (Some (members (grown i x true))) (on_members (grown i x false) t.place t.what) next h) [
  | inl q ↦ to y (members (grown i x true)) next s rest q.1 (grown_reads y l r (a_semi (seen (semi_tells t.what q.0))))
  | inr q ↦ members_step y (grown i x false) t s rest next (grown_reads y l r no_semi) q.1
]

-- a member that ends by a `;`, or before the token
pub ended_step : (y : Entry) (l : Tail) (i : Inside) (make : Close → Member) (t : Token) (s a rest : List Token) (next : Reading) → LeftInside y i s a → ((c : Close) (z : List Token) → ReadsEnd l c (t ∷ rest) z → ReadsMember (make c) a z) → on_end l t (done i (make semi)) (on_done i (make auto) t.place t.what) ≡ Some next → ReadingReads y next s rest
ended_step y l i make t s a rest next left r h = elim (end_tells l t (done i (make semi)) (on_done i (make auto) t.place t.what) next h) [
  | inl q ↦ moved y (done i (make semi)) next s rest q.1 (a, left, r semi rest (e_semi (seen q.0)))
  | inr q ↦ done_step y i (make auto) t s a rest next left (r auto (t ∷ rest) (e_auto (stops_tells l t rest q.0))) q.1
]

-- ---- imports

imports_kind : (y : Entry) (is : List Import) (t : Token) (x : TokenKind) (s rest : List Token) (next : Reading) → y ≡ a_document → OpenImports is s (t ∷ rest) → t.what ≡ x → on_imports is t.place x ≡ Some next → ReadingReads y next s rest
imports_kind y is t (k.Word w.Import) s rest next e o q h = to y _ next s rest h (t ∷ rest, e, o, seen q)
imports_kind y is t (k.Name n) s rest next e o q h = to y _ next s rest h (t ∷ rest, lh_root e o, a_token q)
imports_kind y is t _ s rest next e o q h = cc

pub imports_step : (y : Entry) (is : List Import) (t : Token) (s rest : List Token) (next : Reading) → y ≡ a_document → OpenImports is s (t ∷ rest) → on_imports is t.place t.what ≡ Some next → ReadingReads y next s rest
imports_step y is t s rest next e o h = imports_kind y is t t.what s rest next e o refl h

pub import_plain : (y : Entry) (is : List Import) (x : Source) (c : Close) (s a rest : List Token) → LeftSource y is x s a → needs_qualifier x ≡ false → ReadsEnd (tail_of_source x) c a rest → (y ≡ a_document) × OpenImports (import_of x None c ∷ is) s rest
import_plain y is (of_module n p ns v) c s a rest (ls_module e o im nm ds u) f z = (e, oi_more o (im_module im nm ds u q_none z))
import_plain y is (of_text n p) c s a rest (ls_text e o im tx) f z = (e, oi_more o (im_text im tx q_none (ap not f) z))

pub import_as : (y : Entry) (is : List Import) (x : Source) (r : Units) (c : Close) (s a b rest : List Token) → LeftSource y is x s a → ReadsQualifier (Some r) a b → ReadsEnd whole c b rest → (y ≡ a_document) × OpenImports (import_of x (Some r) c ∷ is) s rest
import_as y is (of_module n p ns v) r c s a b rest (ls_module e o im nm ds u) qu z = (e, oi_more o (im_module im nm ds u qu z))
import_as y is (of_text n p) r c s a b rest (ls_text e o im tx) qu z = (e, oi_more o (im_text im tx qu refl z))

-- an import that ends by a `;`, or before the token
pub import_step : (y : Entry) (l : Tail) (is : List Import) (x : Source) (q : Option Units) (t : Token) (s rest : List Token) (next : Reading) → ((c : Close) (z : List Token) → ReadsEnd l c (t ∷ rest) z → (y ≡ a_document) × OpenImports (import_of x q c ∷ is) s z) → on_import_end l is x q t ≡ Some next → ReadingReads y next s rest
import_step y l is x q t s rest next f h = elim (end_tells l t (imports (import_of x q semi ∷ is)) (on_imports (import_of x q auto ∷ is) t.place t.what) next h) [
  | inl z ↦ moved y (imports (import_of x q semi ∷ is)) next s rest z.1 (f semi rest (e_semi (seen z.0)))
  | inr z ↦ let g = f auto (t ∷ rest) (e_auto (stops_tells l t rest z.0)) in imports_step y (import_of x q auto ∷ is) t s rest next g.0 g.1 z.1
]

pub sourced_step : (y : Entry) (l : Tail) (is : List Import) (x : Source) (t : Token) (s rest : List Token) (next : Reading) → LeftSource y is x s (t ∷ rest) → l ≡ tail_of_source x → on_sourced l is x t ≡ Some next → ReadingReads y next s rest
sourced_step y l is x t s rest next left e h = elim (either_tells (is_as t.what) (Some (at_qualifier is x)) (if needs_qualifier x then None else on_import_end l is x None t) next h) [
  | inl q ↦ to y (at_qualifier is x) next s rest q.1 (t ∷ rest, left, seen (as_tells t.what q.0))
  | inr q ↦ elim (either_tells (needs_qualifier x) None (on_import_end l is x None t) next q.1) [
    | inl z ↦ absurd (let f : None ≡ Some next = z.1 in cc)
    | inr z ↦ import_step y l is x None t s rest next (λ c r w. let P : Tail → Type 0 = λ v. ReadsEnd v c (t ∷ rest) r in import_plain y is x c s (t ∷ rest) r left z.0 (subst P e w)) z.1
  ]
]

module_kind : (y : Entry) (is : List Import) (n : Units) (p : Place) (back : List Units) (t : Token) (x : TokenKind) (s rest : List Token) (next : Reading) → LeftModule y is n p back s (t ∷ rest) → t.what ≡ x → on_module is n p back t x ≡ Some next → ReadingReads y next s rest
module_kind y is n p back t (k.Mark m.Dot) s rest next l q h = to y _ next s rest h (t ∷ rest, l, seen q)
module_kind y is n p back t k.Version s rest next (lm_module e o im nm ds) q h = to y _ next s rest h (ls_module e o im nm (dots_closed ds d_none) (v_version (seen q)), refl)
module_kind y is n p back t (k.Number v) s rest next (lm_module e o im nm ds) q h = to y _ next s rest h (ls_module e o im nm (dots_closed ds d_none) (v_number (seen q)), refl)
module_kind y is n p back t _ s rest next (lm_module e o im nm ds) q h = sourced_step y before_version is (of_module n p (onto back []) version.Absent) t s rest next (ls_module e o im nm (dots_closed ds d_none) v_none) refl h

import_kind : (y : Entry) (is : List Import) (t : Token) (x : TokenKind) (s a rest : List Token) (next : Reading) → y ≡ a_document → OpenImports is s a → Sees (k.Word w.Import) a (t ∷ rest) → t.what ≡ x → on_import is t.place x ≡ Some next → ReadingReads y next s rest
import_kind y is t (k.Name n) s a rest next e o im q h = to y _ next s rest h (lm_module e o im (a_token q) od_none)
import_kind y is t (k.Text n) s a rest next e o im q h = to y _ next s rest h (ls_text e o im (a_token q), refl)
import_kind y is t _ s a rest next e o im q h = cc

-- ---- names of types

named_kind : (y : Entry) (h : Holder) (n : Units) (p : Place) (t : Token) (x : TokenKind) (s a rest : List Token) (next : Reading) → LeftHolder y h s a → One (k.Name n) p a (t ∷ rest) → t.what ≡ x → on_object_named h n p x ≡ Some next → ReadingReads y next s rest
named_kind y h n p t (k.Mark m.Dot) s a rest next l one q e = to y _ next s rest e (a, t ∷ rest, l, one, seen q)
named_kind y h n p t (k.Mark m.LeftBrace) s a rest next l one q e =
    let z = if_tells (is_type n) (Some (opened h (own_type n p))) next e in
    to y (opened h (own_type n p)) next s rest z.1 (li_object l (t_own one z.0) (seen q) om_none)
named_kind y h n p t _ s a rest next l one q e = cc

-- ---- paths

start_reads : (y : Entry) (g : Target) (s rest : List Token) → LeftTarget y g s rest → ReadingReads y (start g) s rest
start_reads y g s rest l = ([], l, begun a_statement)

longer_path : (n x : Units) (back tail : List Units) → is_id_path n (onto back (x ∷ tail)) ≡ false
longer_path n x [] tail = refl
longer_path n x (z ∷ back) tail = longer_path n z back (x ∷ tail)

path_brace : (y : Entry) (b : Bool) (i : Inside) (n : Units) (p : Place) (ns : Names) (t : Token) (s a c rest : List Token) → is_type_path n ns ≡ b → LeftInside y i s a → One (k.Name n) p a c → ReadsDots ns c (t ∷ rest) → t.what ≡ k.Mark m.LeftBrace → ReadingReads y (on_path_brace b i n p ns) s rest
path_brace y true i n p [] t s a c rest q l one d_none e = li_object (lh_child l) (t_own one q) (seen e) om_none
path_brace y true i n p (x ∷ []) t s a c rest q l one (d_more dot nm d_none) e = li_object (lh_child l) (t_of one dot nm q) (seen e) om_none
path_brace y true i n p (x ∷ z ∷ ns) t s a c rest q l one ds e = li_group l one ds refl (seen e) om_none
path_brace y false i n p ns t s a c rest q l one ds e = li_group l one ds q (seen e) om_none

word_moved : (n z : Units) (p : Place) (a rest : List Token) → n ≡ z → One (k.Name n) p a rest → One (k.Name z) p a rest
word_moved n z p a rest q r = let P : Units → Type 0 = λ v. One (k.Name v) p a rest in subst P q r

seen_moved : (n z : Units) (a rest : List Token) → n ≡ z → Sees (k.Name n) a rest → Sees (k.Name z) a rest
seen_moved n z a rest q r = let P : Units → Type 0 = λ v. Sees (k.Name v) a rest in subst P q r

path_name : (y : Entry) (v : FirstWord) (i : Inside) (n x : Units) (p : Place) (t : Token) (s a rest : List Token) (next : Reading) → word_of n ≡ v → LeftInside y i s a → One (k.Name n) p a (t ∷ rest) → t.what ≡ k.Name x → on_path_name v i p x t.place ≡ Some next → ReadingReads y next s rest
path_name y word.Property i n x p t s a rest next q l one e h = to y _ next s rest h (t ∷ rest, rest, lk_declared l (a_ordinary (word_moved n (codes "property") p a (t ∷ rest) (word_tells n word.Property q) one)), a_token e, od_none)
path_name y word.ReadOnly i n x p t s a rest next q l one e h =
    let z = if_tells (bytes_eq x (codes "property")) (Some (at_kind (of_declared i p adjective.ReadOnly))) next h in
    to y (at_kind (of_declared i p adjective.ReadOnly)) next s rest z.1 (lk_declared l (a_readonly (word_moved n (codes "readonly") p a (t ∷ rest) (word_tells n word.ReadOnly q) one) (seen (e ∙ ap (λ v. k.Name v) (same_name x (codes "property") z.0)))))
path_name y word.Signal i n x p t s a rest next q l one e h = to y _ next s rest h (lg_signal l (word_moved n (codes "signal") p a (t ∷ rest) (word_tells n word.Signal q) one) (a_token e))
path_name y word.Other i n x p t s a rest next q l one e h = cc

path_var : (y : Entry) (v : FirstWord) (i : Inside) (n : Units) (p : Place) (t : Token) (s a rest : List Token) (next : Reading) → word_of n ≡ v → LeftInside y i s a → One (k.Name n) p a (t ∷ rest) → t.what ≡ k.Word w.Var → on_path_var v i p ≡ Some next → ReadingReads y next s rest
path_var y word.Property i n p t s a rest next q l one e h = to y _ next s rest h (t ∷ rest, lk_declared l (a_ordinary (word_moved n (codes "property") p a (t ∷ rest) (word_tells n word.Property q) one)), k_var (seen e), refl)
path_var y _ i n p t s a rest next q l one e h = cc

path_colon : (y : Entry) (i : Inside) (n : Units) (p : Place) (t : Token) (s a rest : List Token) (next : Reading) → LeftInside y i s a → One (k.Name n) p a (t ∷ rest) → t.what ≡ k.Mark m.Colon → (if bytes_eq n (codes "id") then Some (at_id i p) else Some (start (of_path i n p []))) ≡ Some next → ReadingReads y next s rest
path_colon y i n p t s a rest next l one e h = elim (either_tells (bytes_eq n (codes "id")) (Some (at_id i p)) (Some (start (of_path i n p []))) next h) [
  | inl q ↦ to y (at_id i p) next s rest q.1 (a, t ∷ rest, l, word_moved n (codes "id") p a (t ∷ rest) (same_name n (codes "id") q.0) one, seen e)
  | inr q ↦ to y (start (of_path i n p [])) next s rest q.1 (start_reads y (of_path i n p []) s rest (lt_path l one d_none q.0 (seen e)))
]

path_kind : (y : Entry) (i : Inside) (n : Units) (p : Place) (back : List Units) (t : Token) (x : TokenKind) (s a c rest : List Token) (next : Reading) → LeftInside y i s a → One (k.Name n) p a c → OpenDots back c (t ∷ rest) → t.what ≡ x → on_path i n p back t.place x ≡ Some next → ReadingReads y next s rest
path_kind y i n p [] t (k.Mark m.Dot) s a c rest next l one o e h = to y _ next s rest h (a, c, t ∷ rest, l, one, o, seen e)
path_kind y i n p (z ∷ back) t (k.Mark m.Dot) s a c rest next l one o e h = to y _ next s rest h (a, c, t ∷ rest, l, one, o, seen e)
path_kind y i n p [] t (k.Mark m.Colon) s a c rest next l one od_none e h = path_colon y i n p t s a rest next l one e h
path_kind y i n p (z ∷ back) t (k.Mark m.Colon) s a c rest next l one o e h = to y (start (of_path i n p (onto (z ∷ back) []))) next s rest h (start_reads y (of_path i n p (onto (z ∷ back) [])) s rest (lt_path l one (dots_closed o d_none) (longer_path n z back []) (seen e)))
path_kind y i n p [] t (k.Mark m.LeftBrace) s a c rest next l one o e h = to y _ next s rest h (path_brace y (is_type_path n []) i n p [] t s a c rest refl l one (dots_closed o d_none) e)
path_kind y i n p (z ∷ back) t (k.Mark m.LeftBrace) s a c rest next l one o e h = to y _ next s rest h (path_brace y (is_type_path n (onto (z ∷ back) [])) i n p (onto (z ∷ back) []) t s a c rest refl l one (dots_closed o d_none) e)
path_kind y i n p [] t (k.Name x) s a c rest next l one od_none e h = path_name y (word_of n) i n x p t s a rest next refl l one e h
path_kind y i n p [] t (k.Word w.Var) s a c rest next l one od_none e h = path_var y (word_of n) i n p t s a rest next refl l one e h
path_kind y i n p _ t _ s a c rest next l one o e h = cc

-- ---- kinds

default_adjective : (d : Adjective) (q : Kind) (p : Place) (a rest : List Token) → is_alias d q ≡ true → ReadsAdjective d p a rest → ReadsAdjective (adjective_of (is_default d)) p a rest
default_adjective adjective.Ordinary q p a rest h r = r
default_adjective adjective.Default q p a rest h r = r
default_adjective adjective.ReadOnly q p a rest h r = cc

alias_word : (d : Adjective) (q : Kind) (a rest : List Token) → is_alias d q ≡ true → ReadsKind q a rest → Sees (k.Name (codes "alias")) a rest
alias_word adjective.Ordinary (kind_name n p []) a rest h (k_name (a_token e) d_none) = seen (e ∙ ap (λ v. k.Name v) (same_name n (codes "alias") h))
alias_word adjective.Default (kind_name n p []) a rest h (k_name (a_token e) d_none) = seen (e ∙ ap (λ v. k.Name v) (same_name n (codes "alias") h))
alias_word _ _ a rest h r = cc

declared_kind : (y : Entry) (i : Inside) (p : Place) (d : Adjective) (q : Kind) (n : Units) (t : Token) (s a rest : List Token) (next : Reading) → LeftKinded y (of_declared i p d) s a → ReadsKind q a (t ∷ rest) → t.what ≡ k.Name n → (if is_alias d q then Some (alias_named i p (is_default d) n t.place) else Some (property_named i p d q n t.place)) ≡ Some next → ReadingReads y next s rest
declared_kind y i p d q n t s b rest next (lk_declared {a = a} l ad) r e h = elim (either_tells (is_alias d q) (Some (alias_named i p (is_default d) n t.place)) (Some (property_named i p d q n t.place)) next h) [
  | inl z ↦ to y (alias_named i p (is_default d) n t.place) next s rest z.1 (la_alias l (default_adjective d q p a b z.0 ad) (alias_word d q b (t ∷ rest) z.0 r) (a_token e))
  | inr z ↦ to y (property_named i p d q n t.place) next s rest z.1 (a, b, t ∷ rest, l, ad, r, z.0, a_token e)
]

kinded_kind : (y : Entry) (c : Kinded) (q : Kind) (t : Token) (x : TokenKind) (s a rest : List Token) (next : Reading) → LeftKinded y c s a → ReadsKind q a (t ∷ rest) → t.what ≡ x → on_kinded c q t.place x ≡ Some next → ReadingReads y next s rest
kinded_kind y (of_declared i p d) q t (k.Name n) s a rest next l r e h = declared_kind y i p d q n t s a rest next l r e h
kinded_kind y (of_signal_par i p n z back) q t (k.Name x) s a rest next (lk_signal {a = b} {b = c} l see o) r e h = to y (signal_par_named i p n z ((q, x) ∷ back)) next s rest h (b, c, l, see, (a, t ∷ rest, o, r, seen e))
kinded_kind y (of_par hd back n) q t (k.Mark m.Comma) s a rest next (lk_par (le_opened l see o) nm colon) r e h = to y (at_par hd ((n, Some q) ∷ back)) next s rest h (le_opened l see (op_more o nm (pk_some colon r) (seen e)))
kinded_kind y (of_par hd back n) q t (k.Mark m.RightParen) s a rest next (lk_par (le_opened l see o) nm colon) r e h = to y (function_closed hd ((n, Some q) ∷ back)) next s rest h (lc_closed l see (pars_closed o (p_last nm (pk_some colon r))) (seen e))
kinded_kind y (of_result hd back) q t (k.Mark m.LeftBrace) s a rest next (lk_result {a = b} l colon) r e h = to y (body hd back (Some q) (begin (in_list [] ∷ []))) next s rest h (b, t ∷ rest, [], l, pk_some colon r, seen e, begun a_body)
kinded_kind y _ q t _ s a rest next l r e h = cc

kind_kind : (y : Entry) (c : Kinded) (t : Token) (x : TokenKind) (s rest : List Token) (next : Reading) → LeftKinded y c s (t ∷ rest) → t.what ≡ x → on_kind c t.place x ≡ Some next → ReadingReads y next s rest
kind_kind y c t (k.Name n) s rest next l e h = to y (kind_named c n t.place []) next s rest h (t ∷ rest, rest, l, a_token e, od_none)
kind_kind y c t (k.Word w.Var) s rest next l e h = to y (kinded c kind_var) next s rest h (t ∷ rest, l, k_var (seen e), refl)
kind_kind y c t _ s rest next l e h = cc

one_seen : {x : TokenKind} {p : Place} {a rest : List Token} → One x p a rest → Sees x a rest
one_seen (a_token e) = seen e

kind_named_kind : (y : Entry) (c : Kinded) (n : Units) (p : Place) (back : List Units) (t : Token) (x : TokenKind) (s a b rest : List Token) (next : Reading) → LeftKinded y c s a → One (k.Name n) p a b → OpenDots back b (t ∷ rest) → t.what ≡ x → on_kind_named c n p back t.place x ≡ Some next → ReadingReads y next s rest
kind_named_kind y c n p [] t (k.Mark m.Dot) s a b rest next l one o e h = to y (kind_dotted c n p []) next s rest h (a, b, t ∷ rest, l, one, o, seen e)
kind_named_kind y c n p (z ∷ back) t (k.Mark m.Dot) s a b rest next l one o e h = to y (kind_dotted c n p (z ∷ back)) next s rest h (a, b, t ∷ rest, l, one, o, seen e)
kind_named_kind y c n p [] t (k.Mark m.Less) s a b rest next l one od_none e h =
    let z = if_tells (bytes_eq n (codes "list")) (Some (at_element c)) next h in
    to y (at_element c) next s rest z.1 (a, t ∷ rest, l, seen_moved n (codes "list") a (t ∷ rest) (same_name n (codes "list") z.0) (one_seen one), seen e)
kind_named_kind y c n p [] t x s a b rest next l one o e h = kinded_kind y c (kind_name n p []) t x s a rest next l (k_name one (dots_closed o d_none)) e h
kind_named_kind y c n p (z ∷ back) t x s a b rest next l one o e h = kinded_kind y c (kind_name n p (onto (z ∷ back) [])) t x s a rest next l (k_name one (dots_closed o d_none)) e h

-- ---- functions

homed_reads : (y : Entry) (home : Home) (f : Function) (s a rest : List Token) → LeftHome y home s a → ReadsFunction f a rest → ReadingReads y (homed home f) s rest
homed_reads y (in_members i) f s a rest (lo_members l) r = (a, l, m_method r)
homed_reads y (in_script b fs) f s a rest (lo_script e pr o) r = lo_script e pr (of_more o r)

function_reads : (y : Entry) (h : Head) (back : List Par) (q : Option Kind) (ss : Stmts) (s a b c d rest : List Token) → LeftClosed y h back s a → ReadsParKind q a b → Sees (k.Mark m.LeftBrace) b c → ReadsStmts false ss c d → Sees (k.Mark m.RightBrace) d rest → ReadingReads y (function_of h back q ss) s rest
function_reads y (head home p n r) back q ss s a b c d rest (lc_closed (ld_head {a = z} l fn nm) see ps close) pk open_brace body_reads close_brace = homed_reads y home (function p n r (pars_onto back no_pars) q ss) s z rest l (f_function fn nm see ps close pk open_brace body_reads close_brace)

longer_front : (x : TokenKind) (front : List Token) (t : Token) (b rest : List Token) → Sees x b (front ++ t ∷ rest) → Sees x b ((front ++ t ∷ []) ++ rest)
longer_front x front t b rest h = rw append_assoc h

body_end : (y : Entry) (h : Head) (back : List Par) (q : Option Kind) (x : State) (t : Token) (o : Option Whole) (s a b front rest : List Token) (next : Reading) → finish x ≡ o → LeftClosed y h back s a → ReadsParKind q a b → Sees (k.Mark m.LeftBrace) b (front ++ t ∷ rest) → Ran a_body front x → t.what ≡ k.Mark m.RightBrace → on_body_end h back q o ≡ Some next → ReadingReads y next s rest
body_end y h back q x t (Some (whole_body ss)) s a b front rest next f l pk see ran e g =
    to y (function_of h back q ss) next s rest g (function_reads y h back q ss s a b (front ++ t ∷ rest) (t ∷ rest) rest l pk see (ends_reads a_body x (front ++ t ∷ rest) t rest (whole_body ss) (ran.reads (t ∷ rest)) f e (λ z. let u : k.Mark m.RightBrace ≡ k.Word w.Else = sym e ∙ z in cc)) (seen e))
body_end y h back q x t _ s a b front rest next f l pk see ran e g = cc

body_stuck : (y : Entry) (h : Head) (back : List Par) (q : Option Kind) (x : State) (t : Token) (o : Option State) (s a b front rest : List Token) (next : Reading) → step x t ≡ o → LeftClosed y h back s a → ReadsParKind q a b → Sees (k.Mark m.LeftBrace) b (front ++ t ∷ rest) → Ran a_body front x → on_body_stuck h back q x t o ≡ Some next → ReadingReads y next s rest
body_stuck y h back q x t (Some z) s a b front rest next e l pk see ran g = to y (body h back q z) next s rest g (a, b, front ++ t ∷ [], l, pk, longer_front (k.Mark m.LeftBrace) front t b rest see, moves a_body front x t z ran e)
body_stuck y h back q x t None s a b front rest next e l pk see ran g =
    let z = if_tells (is_brace t.what) (on_body_end h back q (finish x)) next g in
    body_end y h back q x t (finish x) s a b front rest next refl l pk see ran (brace_tells t.what z.0) z.1

-- ---- values

pair_tells : (b : Bool) (x o : Holder × TypeName) → (if b then Some x else None) ≡ Some o → (b ≡ true) × (x ≡ o)
pair_tells true x o h = (refl, cc)
pair_tells false x o h = cc

pair_reads : (y : Entry) (h : Holder) (x : TypeName) (o : Holder × TypeName) (s a rest : List Token) → (h, x) ≡ o → LeftHolder y h s a → ReadsType x a rest → (c : List Token) × LeftHolder y o.0 s c × ReadsType o.1 c rest
pair_reads y h x o s a rest q l r = let P : Holder × TypeName → Type 0 = λ z. (c : List Token) × LeftHolder y z.0 s c × ReadsType z.1 c rest in subst P q (a, l, r)

member_seen : {r : Reached} {n : Units} {p : Place} {a rest : List Token} → ReadsStep r (member n p) a rest → (b : List Token) × Sees (k.Mark m.Dot) a b × Sees (k.Name n) b rest
member_seen (p_member {b = b} dot nm) = (b, dot, one_seen nm)

pub type_reads : (y : Entry) (g : Target) (x : State) (s front rest : List Token) (o : Holder × TypeName) → StateReads a_statement x front rest → LeftTarget y g s front → type_read g x ≡ Some o → (a : List Token) × LeftHolder y o.0 s a × ReadsType o.1 a rest
type_reads y g (have (name n p) [] (in_expr ∷ in_one ∷ [])) s front rest o (a, l_expr (l_one q) d lacks, rb_none (r_name one), tk, pr) left h =
    let z = pair_tells (is_type n) (as_value g, own_type n p) o h in
    pair_reads y (as_value g) (own_type n p) o s front rest z.1 (lh_value left) (t_own one z.0)
type_reads y g (have (name v p) (member n r ∷ []) (in_expr ∷ in_one ∷ [])) s front rest o (a, l_expr (l_one q) d lacks, rb_more (rb_none (r_name one)) tight st, tk, pr) left h =
    let z = pair_tells (is_type n) (as_value g, type_of v p n) o h in
    pair_reads y (as_value g) (type_of v p n) o s front rest z.1 (lh_value left) (t_of one (member_seen st).1 (member_seen st).2 z.0)
type_reads y g (have (name n p) [] (in_items u [] ∷ in_expr ∷ in_one ∷ [])) s front rest o (a, l_items (l_expr (l_one q) d lacks) tk0 br oe_none, rb_none (r_name one), tk, pr) left h =
    let z = pair_tells (is_type n) (in_objects g u [], own_type n p) o h in
    pair_reads y (in_objects g u []) (own_type n p) o s a rest z.1 (lh_objects left br oo_none) (t_own one z.0)
type_reads y g (have (name v p) (member n r ∷ []) (in_items u [] ∷ in_expr ∷ in_one ∷ [])) s front rest o (a, l_items (l_expr (l_one q) d lacks) tk0 br oe_none, rb_more (rb_none (r_name one)) tight st, tk, pr) left h =
    let z = pair_tells (is_type n) (in_objects g u [], type_of v p n) o h in
    pair_reads y (in_objects g u []) (type_of v p n) o s a rest z.1 (lh_objects left br oo_none) (t_of one (member_seen st).1 (member_seen st).2 z.0)
type_reads y g _ s front rest o r left h = cc

type_end : (y : Entry) (g : Target) (x : State) (t : Token) (o : Option (Holder × TypeName)) (s front rest : List Token) (next : Reading) → type_read g x ≡ o → LeftTarget y g s (front ++ t ∷ rest) → Ran a_statement front x → t.what ≡ k.Mark m.LeftBrace → on_type_read o ≡ Some next → ReadingReads y next s rest
type_end y g x t (Some o) s front rest next e l ran q h =
    let z = type_reads y g x s (front ++ t ∷ rest) (t ∷ rest) o (ran.reads (t ∷ rest)) l e in
    to y (opened o.0 o.1) next s rest h (li_object z.1 z.2 (seen q) om_none)
type_end y g x t None s front rest next e l ran q h = cc

stmt_end : (y : Entry) (g : Target) (x : State) (t : Token) (o : Option Whole) (s front rest : List Token) (next : Reading) → finish x ≡ o → LeftTarget y g s (front ++ t ∷ rest) → Ran a_statement front x → on_stmt_end g t o ≡ Some next → ReadingReads y next s rest
stmt_end y g x t (Some (whole_stmt d)) s front rest next f l ran h =
    let z = if_tells (may_end d t) (on_done (inside_of g) (member_of g (value_stmt d)) t.place t.what) next h in
    let no_else : t.what ≡ k.Word w.Else → ⊥ = (λ q. let u : on_done (inside_of g) (member_of g (value_stmt d)) t.place (k.Word w.Else) ≡ Some next = ap (on_done (inside_of g) (member_of g (value_stmt d)) t.place) (sym q) ∙ z.1 in cc) in
    let r = ends_reads a_statement x (front ++ t ∷ rest) t rest (whole_stmt d) (ran.reads (t ∷ rest)) f z.0 no_else in
    let b = member_reads y g l (v_stmt r) in
    done_step y (inside_of g) (member_of g (value_stmt d)) t s b.0 rest next b.1 b.2 z.1
stmt_end y g x t _ s front rest next f l ran h = cc

longer_left : (y : Entry) (g : Target) (s front : List Token) (t : Token) (rest : List Token) → LeftTarget y g s (front ++ t ∷ rest) → LeftTarget y g s ((front ++ t ∷ []) ++ rest)
longer_left y g s front t rest h = rw append_assoc h

value_stuck : (y : Entry) (g : Target) (x : State) (t : Token) (o : Option State) (s front rest : List Token) (next : Reading) → step x t ≡ o → LeftTarget y g s (front ++ t ∷ rest) → Ran a_statement front x → on_value_stuck g x t o ≡ Some next → ReadingReads y next s rest
value_stuck y g x t (Some z) s front rest next e l ran h = to y (value g z) next s rest h (front ++ t ∷ [], longer_left y g s front t rest l, moves a_statement front x t z ran e)
value_stuck y g x t None s front rest next e l ran h = elim (either_tells (is_left_brace t.what) (on_type_read (type_read g x)) (on_stmt_end g t (finish x)) next h) [
  | inl q ↦ type_end y g x t (type_read g x) s front rest next refl l ran (left_brace_tells t.what q.0) q.1
  | inr q ↦ stmt_end y g x t (finish x) s front rest next refl l ran q.1
]

objects_kind : (y : Entry) (g : Target) (p : Place) (back : List Object) (t : Token) (x : TokenKind) (s a b rest : List Token) (next : Reading) → LeftTarget y g s a → One (k.Mark m.LeftBracket) p a b → ObjectsTo back b (t ∷ rest) → t.what ≡ x → on_objects g p back x ≡ Some next → ReadingReads y next s rest
objects_kind y g p [] t x s a b rest next l one o e h = absurd o
objects_kind y g p (z ∷ back) t (k.Mark m.Comma) s a b rest next l one (c, o, r) e h = to y (at_object (in_objects g p (z ∷ back))) next s rest h (lh_objects l one (oo_more o r (seen e)))
objects_kind y g p (z ∷ back) t (k.Mark m.RightBracket) s a b rest next l one (c, o, r) e h =
    let v = member_reads y g l (v_list one (objects_closed o (os_last r)) (seen e)) in
    to y (done (inside_of g) (member_of g (value_list p (objects_onto back (last_object z))))) next s rest h (v.0, v.1, v.2)
objects_kind y g p (z ∷ back) t _ s a b rest next l one o e h = cc

-- ---- the rest of members

property_step : (y : Entry) (i : Inside) (p : Place) (d : Adjective) (q : Kind) (n : Units) (r : Place) (t : Token) (s a b c rest : List Token) (next : Reading) → LeftInside y i s a → ReadsAdjective d p a b → ReadsKind q b c → is_alias d q ≡ false → One (k.Name n) r c (t ∷ rest) → on_property_named i p d q n r t ≡ Some next → ReadingReads y next s rest
property_step y i p d q n r t s a b c rest next l ad kd al one h =
    let so = on_end before_value t (done i (bare p d q n r semi)) (on_done i (bare p d q n r auto) t.place t.what) in
    elim (either_tells (is_colon t.what) (Some (start (of_property i p d q n r))) (if may_be_bare d then so else None) next h) [
      | inl z ↦ to y (start (of_property i p d q n r)) next s rest z.1 (start_reads y (of_property i p d q n r) s rest (lt_property l ad kd al one (seen (colon_tells t.what z.0))))
      | inr z ↦ let u = if_tells (may_be_bare d) so next z.1 in ended_step y before_value i (λ v. bare p d q n r v) t s a rest next l (λ v w e. m_bare ad u.0 kd al one e) u.1
    ]

signal_end : (y : Entry) (i : Inside) (p : Place) (n : Units) (r : Place) (ps : Option SignalPars) (t : Token) (s a rest : List Token) (next : Reading) → LeftSignal y i p n r s a → ReadsBrackets ps a (t ∷ rest) → on_signal_end i p n r ps t ≡ Some next → ReadingReads y next s rest
signal_end y i p n r ps t s z rest next (lg_signal {a = a} l wd nm) b h = ended_step y (tail_of_signal ps) i (λ v. signal p n r ps v) t s a rest next l (λ v w e. m_signal wd nm b e) h

signal_step : (y : Entry) (i : Inside) (p : Place) (n : Units) (r : Place) (t : Token) (s rest : List Token) (next : Reading) → LeftSignal y i p n r s (t ∷ rest) → (if is_left_paren t.what then Some (signal_opened i p n r) else on_signal_end i p n r None t) ≡ Some next → ReadingReads y next s rest
signal_step y i p n r t s rest next l h = elim (either_tells (is_left_paren t.what) (Some (signal_opened i p n r)) (on_signal_end i p n r None t) next h) [
  | inl z ↦ to y (signal_opened i p n r) next s rest z.1 (t ∷ rest, l, seen (paren_tells t.what z.0))
  | inr z ↦ signal_end y i p n r None t s (t ∷ rest) rest next l b_none z.1
]

signal_opened_kind : (y : Entry) (i : Inside) (p : Place) (n : Units) (r : Place) (t : Token) (x : TokenKind) (s a rest : List Token) (next : Reading) → LeftSignal y i p n r s a → Sees (k.Mark m.LeftParen) a (t ∷ rest) → t.what ≡ x → on_signal_opened i p n r t.place x ≡ Some next → ReadingReads y next s rest
signal_opened_kind y i p n r t (k.Mark m.RightParen) s a rest next l see e h = to y (signal_closed i p n r no_signal_pars) next s rest h (a, t ∷ rest, t ∷ rest, l, see, g_none, seen e)
signal_opened_kind y i p n r t x s a rest next l see e h = kind_kind y (of_signal_par i p n r []) t x s rest next (lk_signal l see og_none) e h

signal_par_kind : (y : Entry) (i : Inside) (p : Place) (n : Units) (r : Place) (back : List SignalPar) (t : Token) (x : TokenKind) (s a b rest : List Token) (next : Reading) → LeftSignal y i p n r s a → Sees (k.Mark m.LeftParen) a b → SignalParsTo back b (t ∷ rest) → t.what ≡ x → on_signal_par i p n r back x ≡ Some next → ReadingReads y next s rest
signal_par_kind y i p n r [] t x s a b rest next l see o e h = absurd o
signal_par_kind y i p n r (v ∷ back) t (k.Mark m.Comma) s a b rest next l see (c, d, o, kd, nm) e h = to y (at_kind (of_signal_par i p n r (v ∷ back))) next s rest h (lk_signal l see (og_more o kd nm (seen e)))
signal_par_kind y i p n r (v ∷ back) t (k.Mark m.RightParen) s a b rest next l see (c, d, o, kd, nm) e h = to y (signal_closed i p n r (signal_pars_onto (v ∷ back) no_signal_pars)) next s rest h (a, b, t ∷ rest, l, see, signal_pars_closed o (g_last kd nm), seen e)
signal_par_kind y i p n r (v ∷ back) t _ s a b rest next l see o e h = cc

function_opened_kind : (y : Entry) (h : Head) (t : Token) (x : TokenKind) (s rest : List Token) (next : Reading) → LeftOpened y h [] s (t ∷ rest) → t.what ≡ x → on_function_opened h x ≡ Some next → ReadingReads y next s rest
function_opened_kind y h t (k.Mark m.RightParen) s rest next (le_opened l see op_none) e g = to y (function_closed h []) next s rest g (lc_closed l see p_none (seen e))
function_opened_kind y h t (k.Name n) s rest next l e g = to y (par_named h [] n) next s rest g (t ∷ rest, l, seen e)
function_opened_kind y h t _ s rest next l e g = cc

par_kind : (y : Entry) (h : Head) (back : List Par) (n : Units) (t : Token) (x : TokenKind) (s a rest : List Token) (next : Reading) → LeftOpened y h back s a → Sees (k.Name n) a (t ∷ rest) → t.what ≡ x → on_par h back n x ≡ Some next → ReadingReads y next s rest
par_kind y h back n t (k.Mark m.Colon) s a rest next l nm e g = to y (at_kind (of_par h back n)) next s rest g (lk_par l nm (seen e))
par_kind y h back n t (k.Mark m.Comma) s a rest next (le_opened l see o) nm e g = to y (at_par h ((n, None) ∷ back)) next s rest g (le_opened l see (op_more o nm pk_none (seen e)))
par_kind y h back n t (k.Mark m.RightParen) s a rest next (le_opened l see o) nm e g = to y (function_closed h ((n, None) ∷ back)) next s rest g (lc_closed l see (pars_closed o (p_last nm pk_none)) (seen e))
par_kind y h back n t _ s a rest next l nm e g = cc

function_closed_kind : (y : Entry) (h : Head) (back : List Par) (t : Token) (x : TokenKind) (s rest : List Token) (next : Reading) → LeftClosed y h back s (t ∷ rest) → t.what ≡ x → on_function_closed h back x ≡ Some next → ReadingReads y next s rest
function_closed_kind y h back t (k.Mark m.Colon) s rest next l e g = to y (at_kind (of_result h back)) next s rest g (lk_result l (seen e))
function_closed_kind y h back t (k.Mark m.LeftBrace) s rest next l e g = to y (body h back None (begin (in_list [] ∷ []))) next s rest g (t ∷ rest, t ∷ rest, [], l, pk_none, seen e, begun a_body)
function_closed_kind y h back t _ s rest next l e g = cc

functions_kind : (y : Entry) (b : Bool) (fs : List Function) (t : Token) (x : TokenKind) (s rest : List Token) (next : Reading) → LeftHome y (in_script b fs) s (t ∷ rest) → t.what ≡ x → on_functions b fs t.place x ≡ Some next → ReadingReads y next s rest
functions_kind y b fs t (k.Word w.Function) s rest next l e g = to y (at_function (in_script b fs) t.place) next s rest g (t ∷ rest, l, a_token e)
functions_kind y b fs t _ s rest next l e g = cc

two_more : (back : List Units) → nat_lt (length back) 2 ≡ true → at_most_two ([] ∷ back) ≡ true
two_more [] h = refl
two_more (x ∷ []) h = refl
two_more (x ∷ z ∷ back) h = cc

onto_two : (back : List Units) → at_most_two back ≡ true → at_most_two (onto back []) ≡ true
onto_two [] h = refl
onto_two (x ∷ []) h = refl
onto_two (x ∷ z ∷ []) h = refl
onto_two (x ∷ z ∷ u ∷ back) h = let g : suc (suc (suc (length back))) ≤ 2 = leb-true (suc (suc (suc (length back)))) 2 h in absurd (omega arith)

target_step : (y : Entry) (i : Inside) (p : Place) (d : Bool) (n : Units) (r : Place) (x : Units) (z : Place) (back : List Units) (t : Token) (s a b c rest : List Token) (next : Reading) → LeftAlias y i p d n r s a → Sees (k.Mark m.Colon) a b → One (k.Name x) z b c → OpenDots back c (t ∷ rest) → at_most_two back ≡ true → on_target i p d n r x z back t ≡ Some next → ReadingReads y next s rest
target_step y i p d n r x z back t s v b c rest next (la_alias {a = a} l ad al nm) colon one o two h = elim (either_tells (is_dot t.what && nat_lt (length back) 2) (Some (target_dotted i p d n r x z back)) (on_target_end i p d n r x z (onto back []) t) next h) [
  | inl q ↦ let u = both_true (is_dot t.what) (nat_lt (length back) 2) q.0 in to y (target_dotted i p d n r x z back) next s rest q.1 (v, b, c, t ∷ rest, la_alias l ad al nm, colon, one, o, two_more back u.1, seen (dot_tells t.what u.0))
  | inr q ↦ ended_step y (tail_of_target (onto back [])) i (λ v. alias p d n r x z (onto back []) v) t s a rest next l (λ v w e. m_alias ad al nm colon one (dots_closed o d_none) (onto_two back two) e) q.1
]

two_more_again : (x : Units) (back : List Units) → at_most_two ([] ∷ back) ≡ true → at_most_two (x ∷ back) ≡ true
two_more_again x back h = h

-- ---- each token

pub step_reads : (y : Entry) (x : Reading) (s rest : List Token) (t : Token) (next : Reading) → ReadingReads y x s (t ∷ rest) → read_step x t ≡ Some next → ReadingReads y next s rest
step_reads y (imports is) s rest t next (e, o) h = imports_step y is t s rest next e o h
step_reads y (at_import is) s rest t next (a, e, o, im) h = import_kind y is t t.what s a rest next e o im refl h
step_reads y (module_named is n p back) s rest t next l h = module_kind y is n p back t t.what s rest next l refl h
step_reads y (module_dotted is n p back) s rest t next (a, lm_module e o im nm ds, dot) h = let z = name_tells t.what (λ x. Some (module_named is n p (x ∷ back))) next h in to y (module_named is n p (z.0 ∷ back)) next s rest z.2 (lm_module e o im nm (od_more ds dot (seen z.1)))
step_reads y (sourced is x) s rest t next (l, e) h = sourced_step y before_as is x t s rest next l (sym e) h
step_reads y (at_qualifier is x) s rest t next (a, l, see) h = let z = name_tells t.what (λ n. Some (qualified is x n)) next h in to y (qualified is x z.0) next s rest z.2 (a, t ∷ rest, l, see, seen z.1)
step_reads y (qualified is x n) s rest t next (a, b, l, see, nm) h = import_step y whole is x (Some n) t s rest next (λ c r e. import_as y is x n c s a (t ∷ rest) r l (q_some see nm) e) h
step_reads y (at_object o) s rest t next l h = let z = name_tells t.what (λ n. Some (object_named o n t.place)) next h in to y (object_named o z.0 t.place) next s rest z.2 (t ∷ rest, l, a_token z.1)
step_reads y (object_named o n p) s rest t next (a, l, one) h = named_kind y o n p t t.what s a rest next l one refl h
step_reads y (object_dotted o q p) s rest t next (a, b, l, one, dot) h =
    let z = name_tells t.what (λ n. on_mark (is_type n) (typed o (type_of q p n))) next h in
    let u = mark_tells (is_type z.0) (typed o (type_of q p z.0)) next z.2 in
    moved y (typed o (type_of q p z.0)) next s rest u.1 (a, l, t_of one dot (seen z.1) u.0)
step_reads y (typed o x) s rest t next (a, l, ty) h = let u = mark_tells (is_left_brace t.what) (opened o x) next h in moved y (opened o x) next s rest u.1 (li_object l ty (seen (left_brace_tells t.what u.0)) om_none)
step_reads y (rooted is o) s rest t next l h = cc
step_reads y (members i) s rest t next l h = members_step y i t s rest next l h
step_reads y (done i x) s rest t next (a, l, r) h = done_step y i x t s a rest next l r h
step_reads y (path i n p back) s rest t next (a, b, l, one, o) h = path_kind y i n p back t t.what s a b rest next l one o refl h
step_reads y (path_dotted i n p back) s rest t next (a, b, c, l, one, o, dot) h = let z = name_tells t.what (λ x. Some (path i n p (x ∷ back))) next h in to y (path i n p (z.0 ∷ back)) next s rest z.2 (a, b, l, one, od_more o dot (seen z.1))
step_reads y (at_id i p) s rest t next (a, b, l, wd, colon) h =
    let z = name_tells t.what (λ n. on_mark (is_id n) (id_named i p n t.place)) next h in
    let u = mark_tells (is_id z.0) (id_named i p z.0 t.place) next z.2 in
    moved y (id_named i p z.0 t.place) next s rest u.1 (a, b, t ∷ rest, l, wd, colon, a_token z.1, u.0)
step_reads y (id_named i p n r) s rest t next (a, b, c, l, wd, colon, one, is) h = ended_step y whole i (λ v. id p n r v) t s a rest next l (λ v w e. m_id wd colon one is e) h
step_reads y (at_property i p d) s rest t next (a, l, f) h =
    let z = name_tells t.what (λ n. on_mark (bytes_eq n (codes "property")) (at_kind (of_declared i p d))) next h in
    let u = mark_tells (bytes_eq z.0 (codes "property")) (at_kind (of_declared i p d)) next z.2 in
    moved y (at_kind (of_declared i p d)) next s rest u.1 (lk_declared l (f rest (seen (z.1 ∙ ap (λ v. k.Name v) (same_name z.0 (codes "property") u.0)))))
step_reads y (at_kind c) s rest t next l h = kind_kind y c t t.what s rest next l refl h
step_reads y (kind_named c n p back) s rest t next (a, b, l, one, o) h = kind_named_kind y c n p back t t.what s a b rest next l one o refl h
step_reads y (kind_dotted c n p back) s rest t next (a, b, d, l, one, o, dot) h = let z = name_tells t.what (λ x. Some (kind_named c n p (x ∷ back))) next h in to y (kind_named c n p (z.0 ∷ back)) next s rest z.2 (a, b, l, one, od_more o dot (seen z.1))
step_reads y (at_element c) s rest t next (a, b, l, wd, less) h = let z = name_tells t.what (λ n. Some (element_named c n t.place)) next h in to y (element_named c z.0 t.place) next s rest z.2 (a, b, t ∷ rest, l, wd, less, a_token z.1)
step_reads y (element_named c n p) s rest t next (a, b, d, l, wd, less, one) h = let u = mark_tells (is_greater t.what) (kinded c (kind_list n p)) next h in moved y (kinded c (kind_list n p)) next s rest u.1 (a, l, k_list wd less one (seen (greater_tells t.what u.0)), refl)
step_reads y (kinded c q) s rest t next (a, l, r, z) h = kinded_kind y c q t t.what s a rest next l r refl h
step_reads y (property_named i p d q n r) s rest t next (a, b, c, l, ad, kd, al, one) h = property_step y i p d q n r t s a b c rest next l ad kd al one h
step_reads y (alias_named i p d n r) s rest t next l h = let u = mark_tells (is_colon t.what) (at_target i p d n r) next h in moved y (at_target i p d n r) next s rest u.1 (t ∷ rest, l, seen (colon_tells t.what u.0))
step_reads y (at_target i p d n r) s rest t next (a, l, colon) h = let z = name_tells t.what (λ x. Some (target i p d n r x t.place [])) next h in to y (target i p d n r z.0 t.place []) next s rest z.2 (a, t ∷ rest, rest, l, colon, a_token z.1, od_none, refl)
step_reads y (target i p d n r x v back) s rest t next (a, b, c, l, colon, one, o, two) h = target_step y i p d n r x v back t s a b c rest next l colon one o two h
step_reads y (target_dotted i p d n r x v back) s rest t next (a, b, c, e, l, colon, one, o, two, dot) h = let z = name_tells t.what (λ u. Some (target i p d n r x v (u ∷ back))) next h in to y (target i p d n r x v (z.0 ∷ back)) next s rest z.2 (a, b, c, l, colon, one, od_more o dot (seen z.1), two)
step_reads y (signal_named i p n r) s rest t next l h = signal_step y i p n r t s rest next l h
step_reads y (signal_opened i p n r) s rest t next (a, l, see) h = signal_opened_kind y i p n r t t.what s a rest next l see refl h
step_reads y (signal_par_named i p n r back) s rest t next (a, b, l, see, o) h = signal_par_kind y i p n r back t t.what s a b rest next l see o refl h
step_reads y (signal_closed i p n r ps) s rest t next (a, b, c, l, see, o, close) h = signal_end y i p n r (Some ps) t s a rest next l (b_some see o close) h
step_reads y (at_function home p) s rest t next (a, l, fn) h = let z = name_tells t.what (λ n. Some (function_named (head home p n t.place))) next h in to y (function_named (head home p z.0 t.place)) next s rest z.2 (ld_head l fn (a_token z.1))
step_reads y (function_named hd) s rest t next l h = let u = mark_tells (is_left_paren t.what) (function_opened hd) next h in moved y (function_opened hd) next s rest u.1 (le_opened l (seen (paren_tells t.what u.0)) op_none)
step_reads y (function_opened hd) s rest t next l h = function_opened_kind y hd t t.what s rest next l refl h
step_reads y (at_par hd back) s rest t next l h = let z = name_tells t.what (λ n. Some (par_named hd back n)) next h in to y (par_named hd back z.0) next s rest z.2 (t ∷ rest, l, seen z.1)
step_reads y (par_named hd back n) s rest t next (a, l, nm) h = par_kind y hd back n t t.what s a rest next l nm refl h
step_reads y (function_closed hd back) s rest t next l h = function_closed_kind y hd back t t.what s rest next l refl h
step_reads y (body hd back q x) s rest t next (a, b, front, l, pk, see, ran) h = body_stuck y hd back q x t (step x t) s a b front rest next refl l pk see ran h
step_reads y (value g x) s rest t next (front, l, ran) h = value_stuck y g x t (step x t) s front rest next refl l ran h
step_reads y (objects g p back) s rest t next (a, b, l, one, o) h = objects_kind y g p back t t.what s a b rest next l one o refl h
step_reads y script_begun s rest t next (e, q) h = elim (either_tells (is_dot t.what) (Some at_pragma) (on_functions false [] t.place t.what) next h) [
  | inl z ↦ to y at_pragma next s rest z.1 (e, let P : List Token → Type 0 = λ v. Sees (k.Mark m.Dot) v rest in subst P (sym q) (seen (dot_tells t.what z.0)))
  | inr z ↦ functions_kind y false [] t t.what s rest next (lo_script e no_pragma (let P : List Token → Type 0 = λ v. OpenFunctions [] s v in subst P q of_none)) refl z.1
]
step_reads y at_pragma s rest t next (e, dot) h =
    let z = name_tells t.what (λ n. on_mark (bytes_eq n (codes "pragma")) at_library) next h in
    let u = mark_tells (bytes_eq z.0 (codes "pragma")) at_library next z.2 in
    moved y at_library next s rest u.1 (t ∷ rest, e, dot, seen (z.1 ∙ ap (λ v. k.Name v) (same_name z.0 (codes "pragma") u.0)))
step_reads y at_library s rest t next (a, e, dot, wd) h =
    let z = name_tells t.what (λ n. on_mark (bytes_eq n (codes "library")) pragma_read) next h in
    let u = mark_tells (bytes_eq z.0 (codes "library")) pragma_read next z.2 in
    moved y pragma_read next s rest u.1 (a, t ∷ rest, e, dot, wd, seen (z.1 ∙ ap (λ v. k.Name v) (same_name z.0 (codes "library") u.0)))
step_reads y pragma_read s rest t next (a, b, e, dot, wd, lib) h =
    let u = if_tells t.after_line (on_functions true [] t.place t.what) next h in
    functions_kind y true [] t t.what s rest next (lo_script e (a_pragma dot wd lib u.0) of_none) refl u.1
step_reads y (functions b fs) s rest t next l h = functions_kind y b fs t t.what s rest next l refl h
