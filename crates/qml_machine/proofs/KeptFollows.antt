-- The states of the machine of documents as they are kept move as the machine does.
use Rattle.std.proofs.Common.{◌≡◌, suc, ◌≤◌, arith, Bool, true, false, ◌&&◌, List, [], ◌∷◌, ◌++◌, length, Option, Some, None, refl, sym, ap, ◌∙◌, subst, codes, inl, inr, ◌⊎◌}
use Rattle.std.specs.Prelude.{if◌then◌else◌}
use Rattle.std.specs.Str.{bytes_eq}
use Rattle.qml_base.specs.declared.numbers.Place.{Place}
use Rattle.qml_syntax.specs.declared.token.TokenKind.{TokenKind}
use Rattle.qml_syntax.specs.declared.token.TokenKind.TheVariants as k
use Rattle.qml_syntax.specs.declared.mark.Mark.TheVariants as m
use Rattle.qml_syntax.specs.declared.word.Word.TheVariants as w
use Rattle.qml_syntax.specs.declared.token.Token.{Token}
use Rattle.qml_syntax.specs.Tree.{Units, Close, semi, auto}
use Rattle.js_machine.specs.Machine.{is_brace, is_semi, step, finish}
use Rattle.qml_syntax.specs.Tree.{Names, Import, TypeName, own_type, type_of, Kind, kind_var, kind_name, kind_list, Pars, no_pars, Function, SignalPars, no_signal_pars, Object, object, Members, no_members, Member, id, bare, alias, signal, child, Value, value_object, value_list, value_stmt, last_object, Objects}
use Rattle.qml_syntax.specs.declared.contextual.Adjective.{Adjective}
use Rattle.qml_syntax.specs.declared.contextual.Adjective.TheVariants as adjective
use Rattle.qml_syntax.specs.declared.contextual.Version.TheVariants as version
use Rattle.qml_syntax.specs.Words.{before_as, before_brackets, is_alias, at_most_two, before_value, before_dot, is_type, is_type_path, is_id, may_be_bare, Tail, whole, before_version, is_as}
use Rattle.qml_machine.specs.Open.{onto, members_onto, objects_onto, Par, pars_onto, SignalPar, signal_pars_onto, Holder, at_root, as_child, as_value, in_objects, Inside, in_object, in_group, Target, of_path, of_property, Home, in_members, in_script, Head, head, Kinded, of_declared, of_signal_par, of_par, of_result, Source, import_of, member_of, inside_of, grown, Reading, imports, at_import, module_named, module_dotted, sourced, at_qualifier, qualified, at_object, object_named, object_dotted, typed, path_dotted, at_id, id_named, at_property, at_kind, kind_named, kind_dotted, at_element, element_named, kinded, at_target, target, signal_named, signal_opened, signal_par_named, signal_closed, at_function, function_named, function_opened, at_par, par_named, function_closed, body, value, script_begun, at_pragma, at_library, pragma_read, functions, alias_named, property_named, target_dotted, members, done, path, rooted, objects}
use Rattle.qml_machine.specs.Open as open_specs
use Rattle.qml_machine.specs.DocumentMachine.{stops, on_end, held, closed, opened, on_members, on_done, on_name, on_mark, start, on_imports, on_import_end, on_sourced, on_module, on_import, needs_qualifier, on_object_named, on_path, on_path_name, on_path_var, on_path_brace, on_signal_opened, on_signal_par, on_function_opened, on_par, on_function_closed, on_functions, on_objects, word_of, is_default, is_colon, is_dot, on_kinded, on_kind, on_kind_named, on_property_named, on_target, on_target_end, on_type_read, type_read, on_stmt_end, on_value_stuck, on_body_end, on_body_stuck, function_of, is_left_brace, is_left_paren, is_greater, may_end, on_signal_end, Entry, read_step}
use Rattle.qml_machine.proofs.LeftOpen.{ReadingReads, ObjectsTo, is_named}
use Rattle.std.proofs.lemmas.Bool.{leb-true}
use Rattle.qml_syntax.specs.Listed.{listed_qualifier, listed_import, listed_dots, listed_type, listed_kind, listed_members, listed_member, listed_semi, listed_object, listed_objects, listed_content, listed_pars, listed_par_kind, listed_signal_pars}
use Rattle.qml_machine.specs.DocumentTape.{dots_row, members_row, objects_row, pars_row, signal_pars_row, holder_frames, inside_frames, target_frames, holder_rows, inside_rows, target_rows, kept_value, kept_body, count_of, imported_of, source_rows, type_path, path_word, path_id, lone, whose_of, kinded_frames, kinded_rows, head_rows, head_frames, head_place, imports_row, functions_row, Kept, kept, kept_of}
use Rattle.std.proofs.lemmas.List.{append-nil}
use Rattle.std.specs.Prelude.{option_map}
use Rattle.qml_syntax.specs.Tree.{Signs, Links, signed, no_signs, a_sign, chain, no_links, a_link, choose, no_choices, a_choice, assign, no_targets, a_target, Expr, Step, name, member, element, call, binding, Stmt, Stmts, whole_stmt, whole_body, whole_expr, Whole}
use Rattle.qml_syntax.specs.Listed.{listed_whole}
use Rattle.js_machine.specs.Frames.{in_one, in_expr, in_items, State, begin, at_first, need, have, at_jump, expects, breaks, continues}
use Rattle.js_machine.specs.Machine as js
use Rattle.js_machine.specs.Machine.{a_statement, a_body, go, is_else}
use Rattle.js_machine.specs.Answer.{ReadsWhole, IsAnswer}
use Rattle.js_machine.specs.Kept.{Ends, kept_whole}
use Rattle.js_machine.specs.Tape.{tape_of, frames_code, frames_nodes, steps_row, exprs_row}
use Rattle.qml_syntax.specs.Listed.{listed, listed_links, last_sign, listed_signs}
use Rattle.qml_syntax.specs.declared.operators.Prefix.{Prefix}
use Rattle.qml_syntax.specs.declared.operators.Operator.{Operator}
use Rattle.qml_syntax.specs.Nodes.{Table}
use Rattle.qml_syntax.specs.declared.node.Node.TheVariants as node
use Rattle.js_machine.proofs.Left.{StateReads}
use Rattle.js_machine.specs.Frames as js_frames
use Rattle.js_machine.proofs.Exact.{Ran}
use Rattle.js_machine.proofs.Exact as js_exact_proofs
use Rattle.js_machine.proofs.KeptExact.{go_same}
use Rattle.js_machine.proofs.Moving.{move_follows}
use Rattle.js_machine.proofs.Follows as js_follows
use Rattle.js_machine.proofs.Tokens.{true_or_false, else_is}
use Rattle.qml_machine.proofs.EndsLemmas.{ends_by_state}
use Rattle.qml_machine.specs.Ends.{state_ends}
use Rattle.qml_machine.specs.DocumentMoves.{ends_tape, value_done, keep_stmt, keep_names, keep_firsts, keep_behind, keep_type, keep_value, keep_body, keep_body_end, keep_function, keep_end, keep_name, keep_mark, keep_valued, keep_held, keep_closed, keep_opened, keep_members, keep_done, keep_member, keep_imports, keep_import_end, keep_sourced, keep_module, keep_import, import_row, needs, keep_object_named, keep_path_name, keep_path_var, keep_path, next_count, next_types, keep_signal_opened, keep_signal_par, keep_function_opened, keep_par, keep_function_closed, keep_functions, keep_objects, begun_value, begun_body, may_alias, popped, keep_kinded, keep_kind, keep_kind_named, keep_property, keep_target, keep}
use Rattle.qml_machine.specs.declared.state.FirstWord.{FirstWord}
use Rattle.qml_machine.specs.declared.state.FirstWord.TheVariants as word
use Rattle.qml_machine.specs.declared.state.Frame.TheVariants as frame
use Rattle.qml_machine.specs.declared.state.Imported.TheVariants as imported
use Rattle.qml_machine.specs.declared.state.Now.TheVariants as state
use Rattle.qml_syntax.specs.Listed.{end_of}
use Rattle.qml_machine.specs.declared.state.ImportNow.TheVariants as import_now
use Rattle.qml_machine.specs.declared.state.ObjectNow.TheVariants as object_now
use Rattle.qml_machine.specs.declared.state.MemberNow.TheVariants as member_now
use Rattle.qml_machine.specs.declared.state.FunctionNow.TheVariants as function_now
use Rattle.qml_machine.specs.declared.state.ScriptNow.TheVariants as script_now
use Rattle.qml_syntax.proofs.ListedLemmas.{over_stmt, over_stmts}
use Rattle.qml_syntax.specs.Listed.{listed_stmts}
use Rattle.qml_syntax.specs.Tree.{whole_document, whole_script}

abbrev pub lifted : Option Reading → Option Kept
lifted None = None
lifted (Some x) = Some (kept_of x)

-- ---- rows of what is read so far are those of the whole

pub dots_same : (back : List Units) (ns : Names) (s : Table) → listed_dots (onto back ns) s ≡ listed_dots ns (dots_row back s)
dots_same [] ns s = refl
dots_same (x ∷ back) ns s = dots_same back (x ∷ ns) s

pub members_same : (back : List open_specs.MarkedMember) (ms : Members) (s : Table) → listed_members (members_onto back ms) s ≡ listed_members ms (members_row back s)
members_same [] ms s = refl
members_same (x ∷ back) ms s = members_same back _ s

pub objects_same : (back : List Object) (os : Objects) (s : Table) → listed_objects (objects_onto back os) s ≡ listed_objects os (objects_row back s)
objects_same [] os s = refl
objects_same (x ∷ back) os s = objects_same back _ s

pub pars_same : (back : List Par) (ps : Pars) (s : Table) → listed_pars (pars_onto back ps) s ≡ listed_pars ps (pars_row back s)
pars_same [] ps s = refl
pars_same (x ∷ back) ps s = pars_same back _ s

pub signal_pars_same : (back : List SignalPar) (ps : SignalPars) (s : Table) → listed_signal_pars (signal_pars_onto back ps) s ≡ listed_signal_pars ps (signal_pars_row back s)
signal_pars_same [] ps s = refl
signal_pars_same (x ∷ back) ps s = signal_pars_same back _ s

-- ---- tests

pub lift_if : (b : Bool) (x : Reading) → lifted (if b then Some x else None) ≡ (if b then Some (kept_of x) else None)
lift_if true x = refl
lift_if false x = refl

pub lift_either : (b : Bool) (x y : Option Reading) (u v : Option Kept) → u ≡ lifted x → v ≡ lifted y → (if b then u else v) ≡ lifted (if b then x else y)
lift_either true x y u v p q = p
lift_either false x y u v p q = q

pub lift_mark : (b : Bool) (x : Reading) → keep_mark b (kept_of x) ≡ lifted (on_mark b x)
lift_mark true x = refl
lift_mark false x = refl

pub lift_name : (x : TokenKind) (f : Units → Option Kept) (g : Units → Option Reading) → ((n : Units) → f n ≡ lifted (g n)) → keep_name x f ≡ lifted (on_name x g)
lift_name (k.Name n) f g h = h n
lift_name _ f g h = refl

pub lift_end : (l : Tail) (t : Token) (x : Reading) (y : Option Reading) (u : Kept) (v : Option Kept) → u ≡ kept_of x → v ≡ lifted y → keep_end l t u v ≡ lifted (on_end l t x y)
lift_end l t x y u v p q = lift_either (is_semi t.what) (Some x) (if stops l t then y else None) (Some u) (if stops l t then v else None) (ap (λ z. Some z) p) (lift_either (stops l t) y None v None q refl)

-- ---- objects and members

pub valued_same : (g : Target) (v : Value) (s : Table) → s ≡ listed_content v (target_rows g) → keep_valued s (target_frames g) ≡ kept_of (done (inside_of g) (member_of g v))
valued_same (of_path i n p ns) v s h = ap (λ z. kept (node.Given ∷ z) (inside_frames i) (state.Member member_now.Done)) h
valued_same (of_property i p d q n r) v s h = ap (λ z. kept (node.Property p d ∷ z) (inside_frames i) (state.Member member_now.Done)) h

child_same : (i : Inside) (o : Object) (s : Table) → s ≡ listed_object o (inside_rows i) → keep_held s (inside_frames i) ≡ kept_of (done i (child o))
child_same (in_object h x back) o s e = ap (λ z. kept (node.Child ∷ z) (frame.Object ∷ holder_frames h) (state.Member member_now.Done)) e
child_same (in_group i n p ns back) o s e = ap (λ z. kept (node.Child ∷ z) (frame.Group ∷ inside_frames i) (state.Member member_now.Done)) e

value_held : (g : Target) (o : Object) (s : Table) → s ≡ listed_object o (target_rows g) → keep_held s (target_frames g) ≡ kept_of (done (inside_of g) (member_of g (value_object o)))
value_held (of_path i n p ns) o s e = valued_same (of_path i n p ns) (value_object o) s e
value_held (of_property i p d q n r) o s e = valued_same (of_property i p d q n r) (value_object o) s e

pub held_same : (h : Holder) (o : Object) (s : Table) → s ≡ listed_object o (holder_rows h) → keep_held s (holder_frames h) ≡ kept_of (held h o)
held_same (at_root is) o s e = ap (λ z. kept z (frame.Root ∷ []) (state.Object object_now.Rooted)) e
held_same (as_child i) o s e = child_same i o s e
held_same (as_value g) o s e = value_held g o s e
held_same (in_objects g p back) o s e = ap (λ z. kept z (frame.List p ∷ target_frames g) (state.Object object_now.Objects)) e

pub closed_same : (i : Inside) → keep_closed (inside_rows i) (inside_frames i) ≡ kept_of (closed i)
closed_same (in_object h x back) = held_same h (object x (members_onto back no_members)) (node.Object ∷ members_row back (node.Mark ∷ listed_type x (holder_rows h))) (ap (λ z. node.Object ∷ z) (sym (members_same back no_members (node.Mark ∷ listed_type x (holder_rows h)))))
closed_same (in_group i n p ns back) = ap (λ z. kept (node.Group ∷ z) (inside_frames i) (state.Member member_now.Done)) (sym (members_same back no_members (node.Mark ∷ listed_dots ns (node.First n p ∷ inside_rows i))))

pub grown_rows : (i : Inside) (x : Member) (b : Bool) → inside_rows (grown i x b) ≡ listed_semi b (listed_member x (inside_rows i))
grown_rows (in_object h z back) x b = refl
grown_rows (in_group i n p ns back) x b = refl

pub grown_frames : (i : Inside) (x : Member) (b : Bool) → inside_frames (grown i x b) ≡ inside_frames i
grown_frames (in_object h z back) x b = refl
grown_frames (in_group i n p ns back) x b = refl

pub members_follow : (i : Inside) (p : Place) (x : TokenKind) → keep_members (inside_rows i) (inside_frames i) p x ≡ lifted (on_members i p x)
members_follow i p (k.Mark m.RightBrace) = ap (λ z. Some z) (closed_same i)
members_follow i p (k.Name n) = refl
members_follow i p (k.Word w.Function) = refl
members_follow i p (k.Word w.Default) = refl
members_follow i p _ = refl

pub done_follow : (i : Inside) (x : Member) (p : Place) (kind : TokenKind) → keep_done (listed_member x (inside_rows i)) (inside_frames i) p kind ≡ lifted (on_done i x p kind)
done_follow i x p kind = lift_either (is_semi kind) (Some (members (grown i x true))) (on_members (grown i x false) p kind) (Some (kept (listed_semi true (listed_member x (inside_rows i))) (inside_frames i) (state.Member member_now.Members))) (keep_members (listed_member x (inside_rows i)) (inside_frames i) p kind)
    (ap (λ z. Some (kept z (inside_frames i) (state.Member member_now.Members))) (sym (grown_rows i x true)) ∙ ap (λ z. Some (kept (inside_rows (grown i x true)) z (state.Member member_now.Members))) (sym (grown_frames i x true)))
    (ap (λ z. keep_members z (inside_frames i) p kind) (sym (grown_rows i x false)) ∙ ap (λ z. keep_members (inside_rows (grown i x false)) z p kind) (sym (grown_frames i x false)) ∙ members_follow (grown i x false) p kind)

member_follow : (l : Tail) (i : Inside) (make : Close → Member) (t : Token) → keep_member l (λ c. listed_member (make c) (inside_rows i)) (inside_frames i) t ≡ lifted (on_end l t (done i (make semi)) (on_done i (make auto) t.place t.what))
member_follow l i make t = lift_end l t (done i (make semi)) (on_done i (make auto) t.place t.what) (kept (listed_member (make semi) (inside_rows i)) (inside_frames i) (state.Member member_now.Done)) (keep_done (listed_member (make auto) (inside_rows i)) (inside_frames i) t.place t.what) refl (done_follow i (make auto) t.place t.what)

-- ---- imports

imports_follow : (is : List Import) (p : Place) (x : TokenKind) → keep_imports (imports_row is (node.Mark ∷ [])) (frame.Root ∷ []) p x ≡ lifted (on_imports is p x)
imports_follow is p (k.Word w.Import) = refl
imports_follow is p (k.Name n) = refl
imports_follow is p _ = refl

import_rows : (x : Source) (q : Option Units) (c : Close) (s : Table) → import_row (imported_of x) c (listed_qualifier q (source_rows x s)) ≡ listed_import (import_of x q c) s
import_rows (open_specs.of_module n p ns v) q c s = refl
import_rows (open_specs.of_text n p) q c s = refl

import_end_follow : (l : Tail) (is : List Import) (x : Source) (q : Option Units) (t : Token) → keep_import_end l (imported_of x) (listed_qualifier q (source_rows x (imports_row is (node.Mark ∷ [])))) (frame.Root ∷ []) t ≡ lifted (on_import_end l is x q t)
import_end_follow l is x q t = lift_end l t (imports (import_of x q semi ∷ is)) (on_imports (import_of x q auto ∷ is) t.place t.what) _ _
    (ap (λ z. kept z (frame.Root ∷ []) (state.Import import_now.Imports)) (import_rows x q semi (imports_row is (node.Mark ∷ []))))
    (ap (λ z. keep_imports z (frame.Root ∷ []) t.place t.what) (import_rows x q auto (imports_row is (node.Mark ∷ []))) ∙ imports_follow (import_of x q auto ∷ is) t.place t.what)

needs_same : (x : Source) → needs (imported_of x) ≡ needs_qualifier x
needs_same (open_specs.of_module n p ns v) = refl
needs_same (open_specs.of_text n p) = refl

sourced_follow : (l : Tail) (is : List Import) (x : Source) (t : Token) → keep_sourced l (imported_of x) (source_rows x (imports_row is (node.Mark ∷ []))) (frame.Root ∷ []) t ≡ lifted (on_sourced l is x t)
sourced_follow l is x t =
    let e = keep_import_end l (imported_of x) (node.Plain ∷ source_rows x (imports_row is (node.Mark ∷ []))) (frame.Root ∷ []) t in
    let here = kept (source_rows x (imports_row is (node.Mark ∷ []))) (frame.Root ∷ []) (state.Import (import_now.AtQualifier (imported_of x))) in
    ap (λ (v : Bool). if is_as t.what then Some here else (if v then None else e)) (needs_same x) ∙
    lift_either (is_as t.what) (Some (at_qualifier is x)) (if needs_qualifier x then None else on_import_end l is x None t) (Some here) (if needs_qualifier x then None else e) refl (lift_either (needs_qualifier x) None (on_import_end l is x None t) None e refl (import_end_follow l is x None t))

module_rows : (n : Units) (p : Place) (back : List Units) (v : _) (s : Table) → dots_row back (node.First n p ∷ s) ≡ source_rows (open_specs.of_module n p (onto back []) v) s
module_rows n p back v s = sym (dots_same back [] (node.First n p ∷ s))

module_follow : (is : List Import) (n : Units) (p : Place) (back : List Units) (t : Token) (x : TokenKind) → keep_module (dots_row back (node.First n p ∷ imports_row is (node.Mark ∷ []))) (frame.Root ∷ []) t x ≡ lifted (on_module is n p back t x)
module_follow is n p back t (k.Mark m.Dot) = refl
module_follow is n p back t k.Version = ap (λ z. Some (kept z (frame.Root ∷ []) (state.Import (import_now.Sourced (imported.Module version.Full))))) (module_rows n p back version.Full (imports_row is (node.Mark ∷ [])))
module_follow is n p back t (k.Number v) = ap (λ z. Some (kept z (frame.Root ∷ []) (state.Import (import_now.Sourced (imported.Module (version.Number v)))))) (module_rows n p back (version.Number v) (imports_row is (node.Mark ∷ [])))
module_follow is n p back t _ = ap (λ z. keep_sourced before_version (imported.Module version.Absent) z (frame.Root ∷ []) t) (module_rows n p back version.Absent (imports_row is (node.Mark ∷ []))) ∙ sourced_follow before_version is (open_specs.of_module n p (onto back []) version.Absent) t

import_follow : (is : List Import) (p : Place) (x : TokenKind) → keep_import (imports_row is (node.Mark ∷ [])) (frame.Root ∷ []) p x ≡ lifted (on_import is p x)
import_follow is p (k.Name n) = refl
import_follow is p (k.Text n) = refl
import_follow is p _ = refl

-- ---- names of types, and paths

named_follow : (h : Holder) (n : Units) (p : Place) (x : TokenKind) → keep_object_named (is_type n) (node.First n p ∷ holder_rows h) (holder_frames h) x ≡ lifted (on_object_named h n p x)
named_follow h n p (k.Mark m.Dot) = refl
named_follow h n p (k.Mark m.LeftBrace) = sym (lift_if (is_type n) (opened h (own_type n p)))
named_follow h n p _ = refl

path_name_follow : (v : FirstWord) (i : Inside) (n : Units) (p : Place) (x : Units) (r : Place) → keep_path_name v (node.First n p ∷ inside_rows i) (inside_frames i) p x r ≡ lifted (on_path_name v i p x r)
path_name_follow word.Property i n p x r = refl
path_name_follow word.ReadOnly i n p x r = sym (lift_if (bytes_eq x (codes "property")) (at_kind (of_declared i p adjective.ReadOnly)))
path_name_follow word.Signal i n p x r = refl
path_name_follow word.Other i n p x r = refl

path_var_follow : (v : FirstWord) (i : Inside) (n : Units) (p : Place) → keep_path_var v (node.First n p ∷ inside_rows i) (inside_frames i) p ≡ lifted (on_path_var v i p)
path_var_follow word.Property i n p = refl
path_var_follow _ i n p = refl

path_type_follow : (b : Bool) (i : Inside) (n : Units) (p : Place) (back : List Units) → type_path n back ≡ b → is_type_path n (onto back []) ≡ b → (if b then Some (keep_opened (dots_row back (node.First n p ∷ inside_rows i)) (inside_frames i)) else Some (kept (node.Mark ∷ dots_row back (node.First n p ∷ inside_rows i)) (frame.Group ∷ inside_frames i) (state.Member member_now.Members))) ≡ lifted (Some (on_path_brace b i n p (onto back [])))
path_type_follow true i n p [] h g = refl
path_type_follow true i n p (x ∷ []) h g = refl
path_type_follow true i n p (x ∷ y ∷ back) h g = cc
path_type_follow false i n p back h g = ap (λ z. Some (kept (node.Mark ∷ z) (frame.Group ∷ inside_frames i) (state.Member member_now.Members))) (sym (dots_same back [] (node.First n p ∷ inside_rows i)))

longer : (n x y : Units) (back tail : List Units) → is_type_path n (onto back (x ∷ y ∷ tail)) ≡ false
longer n x y [] tail = refl
longer n x y (z ∷ back) tail = longer n z x back (y ∷ tail)

types_same : (n : Units) (back : List Units) → is_type_path n (onto back []) ≡ type_path n back
types_same n [] = refl
types_same n (x ∷ []) = refl
types_same n (x ∷ y ∷ back) = longer n y x back []

path_follow : (i : Inside) (n : Units) (p : Place) (back : List Units) (r : Place) (x : TokenKind) → keep_path (dots_row back (node.First n p ∷ inside_rows i)) (inside_frames i) p (count_of back) (path_word n back) (path_id n back) (type_path n back) r x ≡ lifted (on_path i n p back r x)
path_follow i n p [] r (k.Mark m.Dot) = refl
path_follow i n p (z ∷ back) r (k.Mark m.Dot) = refl
path_follow i n p [] r (k.Mark m.Colon) = lift_either (bytes_eq n (codes "id")) (Some (at_id i p)) (Some (start (of_path i n p []))) (Some (kept (inside_rows i) (inside_frames i) (state.Member (member_now.AtId p)))) (Some (kept_value (node.First n p ∷ inside_rows i) (frame.Path ∷ inside_frames i) begun_value)) refl refl
path_follow i n p (z ∷ back) r (k.Mark m.Colon) = ap (λ y. Some (kept_value y (frame.Path ∷ inside_frames i) begun_value)) (sym (dots_same (z ∷ back) [] (node.First n p ∷ inside_rows i)))
path_follow i n p [] r (k.Mark m.LeftBrace) = path_type_follow (type_path n []) i n p [] refl (types_same n [])
path_follow i n p (z ∷ back) r (k.Mark m.LeftBrace) = path_type_follow (type_path n (z ∷ back)) i n p (z ∷ back) refl (types_same n (z ∷ back)) ∙ ap (λ b. lifted (Some (on_path_brace b i n p (onto (z ∷ back) [])))) (sym (types_same n (z ∷ back)))
path_follow i n p [] r (k.Name x) = path_name_follow (word_of n) i n p x r
path_follow i n p [] r (k.Word w.Var) = path_var_follow (word_of n) i n p
path_follow i n p [] r _ = refl
path_follow i n p (z ∷ []) r _ = refl
path_follow i n p (z ∷ y ∷ back) r _ = refl

dotted_count : (back : List Units) (x : Units) → next_count (count_of back) ≡ count_of (x ∷ back)
dotted_count [] x = refl
dotted_count (y ∷ []) x = refl
dotted_count (y ∷ z ∷ back) x = refl

dotted_types : (n : Units) (back : List Units) (x : Units) → next_types (count_of back) x ≡ type_path n (x ∷ back)
dotted_types n [] x = refl
dotted_types n (y ∷ []) x = refl
dotted_types n (y ∷ z ∷ back) x = refl

-- ---- functions and signals

signal_opened_follow : (i : Inside) (p : Place) (n : Units) (r z : Place) (x : TokenKind) → keep_signal_opened (node.Mark ∷ node.First n r ∷ inside_rows i) (inside_frames i) p z x ≡ lifted (on_signal_opened i p n r z x)
signal_opened_follow i p n r z (k.Mark m.RightParen) = refl
signal_opened_follow i p n r z (k.Name x) = refl
signal_opened_follow i p n r z (k.Word w.Var) = refl
signal_opened_follow i p n r z _ = refl

signal_par_follow : (i : Inside) (p : Place) (n : Units) (r : Place) (back : List SignalPar) (x : TokenKind) → keep_signal_par (signal_pars_row back (node.Mark ∷ node.First n r ∷ inside_rows i)) (inside_frames i) p x ≡ lifted (on_signal_par i p n r back x)
signal_par_follow i p n r back (k.Mark m.Comma) = refl
signal_par_follow i p n r back (k.Mark m.RightParen) = ap (λ z. Some (kept z (inside_frames i) (state.Function (function_now.SignalClosed p)))) (sym (signal_pars_same back no_signal_pars (node.Mark ∷ node.First n r ∷ inside_rows i)))
signal_par_follow i p n r back _ = refl

function_opened_follow : (h : Head) (x : TokenKind) → keep_function_opened (node.Mark ∷ head_rows h) (head_frames h) (head_place h) x ≡ lifted (on_function_opened h x)
function_opened_follow h (k.Mark m.RightParen) = refl
function_opened_follow h (k.Name x) = refl
function_opened_follow h _ = refl

par_follow : (h : Head) (back : List Par) (n : Units) (x : TokenKind) → keep_par (node.ParameterName n ∷ pars_row back (node.Mark ∷ head_rows h)) (head_frames h) (head_place h) x ≡ lifted (on_par h back n x)
par_follow h back n (k.Mark m.Colon) = refl
par_follow h back n (k.Mark m.Comma) = refl
par_follow h back n (k.Mark m.RightParen) = refl
par_follow h back n _ = refl

function_closed_follow : (h : Head) (back : List Par) (x : TokenKind) → keep_function_closed (pars_row back (node.Mark ∷ head_rows h)) (head_frames h) (head_place h) x ≡ lifted (on_function_closed h back x)
function_closed_follow h back (k.Mark m.Colon) = refl
function_closed_follow h back (k.Mark m.LeftBrace) = refl
function_closed_follow h back _ = refl

functions_follow : (b : Bool) (fs : List Function) (p : Place) (x : TokenKind) → keep_functions (functions_row fs (node.Mark ∷ [])) (frame.Script b ∷ []) p x ≡ lifted (on_functions b fs p x)
functions_follow b fs p (k.Word w.Function) = refl
functions_follow b fs p _ = refl

objects_follow : (g : Target) (p : Place) (back : List Object) (x : TokenKind) → (back ≡ [] → ⊥) → keep_objects (objects_row back (node.Mark ∷ target_rows g)) (frame.List p ∷ target_frames g) x ≡ lifted (on_objects g p back x)
objects_follow g p [] x h = absurd (h refl)
objects_follow g p (o ∷ back) (k.Mark m.Comma) h = refl
objects_follow g p (o ∷ back) (k.Mark m.RightBracket) h = ap (λ z. Some z) (valued_same g (value_list p (objects_onto back (last_object o))) (node.ObjectList p ∷ objects_row (o ∷ back) (node.Mark ∷ target_rows g)) (ap (λ z. node.ObjectList p ∷ z) (sym (objects_same back (last_object o) (node.Mark ∷ target_rows g)))))
objects_follow g p (o ∷ back) _ h = refl

-- ---- kinds

no_alias : (d : Adjective) (n x : Units) (p : Place) (back tail : List Units) → is_alias d (kind_name n p (onto back (x ∷ tail))) ≡ false
no_alias adjective.ReadOnly n x p back tail = refl
no_alias adjective.Ordinary n x p [] tail = refl
no_alias adjective.Default n x p [] tail = refl
no_alias adjective.Ordinary n x p (z ∷ back) tail = no_alias adjective.Ordinary n z p back (x ∷ tail)
no_alias adjective.Default n x p (z ∷ back) tail = no_alias adjective.Default n z p back (x ∷ tail)

alias_same : (d : Adjective) (n : Units) (p : Place) (back : List Units) → is_alias d (kind_name n p (onto back [])) ≡ (may_alias d && lone n back (codes "alias"))
alias_same adjective.ReadOnly n p back = refl
alias_same adjective.Ordinary n p [] = refl
alias_same adjective.Default n p [] = refl
alias_same adjective.Ordinary n p (x ∷ back) = no_alias adjective.Ordinary n x p back []
alias_same adjective.Default n p (x ∷ back) = no_alias adjective.Default n x p back []

declared_follow : (i : Inside) (p : Place) (d : Adjective) (n : Units) (r : Place) (back : List Units) (y : Units) (z : Place) (b : Bool) → lone n back (codes "alias") ≡ b → (if may_alias d && b then Some (kept (node.First y z ∷ popped (dots_row back (node.First n r ∷ inside_rows i))) (inside_frames i) (state.Member (member_now.AliasNamed p (is_default d)))) else Some (kept (node.First y z ∷ node.KindName ∷ dots_row back (node.First n r ∷ inside_rows i)) (inside_frames i) (state.Member (member_now.PropertyNamed p d)))) ≡ lifted (if may_alias d && b then Some (alias_named i p (is_default d) y z) else Some (property_named i p d (kind_name n r (onto back [])) y z))
declared_follow i p adjective.ReadOnly n r back y z b h = ap (λ v. Some (kept (node.First y z ∷ node.KindName ∷ v) (inside_frames i) (state.Member (member_now.PropertyNamed p adjective.ReadOnly)))) (sym (dots_same back [] (node.First n r ∷ inside_rows i)))
declared_follow i p adjective.Ordinary n r [] y z true h = refl
declared_follow i p adjective.Default n r [] y z true h = refl
declared_follow i p adjective.Ordinary n r (x ∷ back) y z true h = cc
declared_follow i p adjective.Default n r (x ∷ back) y z true h = cc
declared_follow i p adjective.Ordinary n r back y z false h = ap (λ v. Some (kept (node.First y z ∷ node.KindName ∷ v) (inside_frames i) (state.Member (member_now.PropertyNamed p adjective.Ordinary)))) (sym (dots_same back [] (node.First n r ∷ inside_rows i)))
declared_follow i p adjective.Default n r back y z false h = ap (λ v. Some (kept (node.First y z ∷ node.KindName ∷ v) (inside_frames i) (state.Member (member_now.PropertyNamed p adjective.Default)))) (sym (dots_same back [] (node.First n r ∷ inside_rows i)))

named_kind_follow : (c : Kinded) (n : Units) (p : Place) (back : List Units) (r : Place) (x : TokenKind) → keep_kinded (whose_of c) (lone n back (codes "alias")) (node.KindName ∷ dots_row back (node.First n p ∷ kinded_rows c)) (dots_row back (node.First n p ∷ kinded_rows c)) (kinded_frames c) r x ≡ lifted (on_kinded c (kind_name n p (onto back [])) r x)
named_kind_follow (of_declared i q d) n p back r (k.Name y) = declared_follow i q d n p back y r (lone n back (codes "alias")) refl ∙ ap (λ (v : Bool). lifted (if v then Some (alias_named i q (is_default d) y r) else Some (property_named i q d (kind_name n p (onto back [])) y r))) (sym (alias_same d n p back))
named_kind_follow (of_signal_par i q o z bs) n p back r (k.Name y) = ap (λ v. Some (kept (node.SignalParameter y ∷ node.KindName ∷ v) (inside_frames i) (state.Function (function_now.SignalParNamed q)))) (sym (dots_same back [] (node.First n p ∷ kinded_rows (of_signal_par i q o z bs))))
named_kind_follow (of_par h bs o) n p back r (k.Mark m.Comma) = ap (λ v. Some (kept (node.Parameter ∷ node.KindName ∷ v) (head_frames h) (state.Function (function_now.AtPar (head_place h))))) (sym (dots_same back [] (node.First n p ∷ kinded_rows (of_par h bs o))))
named_kind_follow (of_par h bs o) n p back r (k.Mark m.RightParen) = ap (λ v. Some (kept (node.Parameter ∷ node.KindName ∷ v) (head_frames h) (state.Function (function_now.FunctionClosed (head_place h))))) (sym (dots_same back [] (node.First n p ∷ kinded_rows (of_par h bs o))))
named_kind_follow (of_result h bs) n p back r (k.Mark m.LeftBrace) = ap (λ v. Some (kept_body (node.KindName ∷ v) (head_frames h) (head_place h) begun_body)) (sym (dots_same back [] (node.First n p ∷ kinded_rows (of_result h bs))))
named_kind_follow (of_declared i q d) n p back r _ = refl
named_kind_follow (of_signal_par i q o z bs) n p back r _ = refl
named_kind_follow (of_par h bs o) n p back r _ = refl
named_kind_follow (of_result h bs) n p back r _ = refl

kind_named_follow : (c : Kinded) (n : Units) (p : Place) (back : List Units) (r : Place) (x : TokenKind) → keep_kind_named (whose_of c) (lone n back (codes "alias")) (lone n back (codes "list")) (dots_row back (node.First n p ∷ kinded_rows c)) (kinded_frames c) r x ≡ lifted (on_kind_named c n p back r x)
kind_named_follow c n p [] r (k.Mark m.Dot) = refl
kind_named_follow c n p (z ∷ back) r (k.Mark m.Dot) = refl
kind_named_follow c n p [] r (k.Mark m.Less) = sym (lift_if (bytes_eq n (codes "list")) (at_element c))
kind_named_follow c n p (z ∷ back) r (k.Mark m.Less) = less_none c n p (z ∷ back) r
  where
    less_none : (c : Kinded) (n : Units) (p : Place) (back : List Units) (r : Place) → None ≡ lifted (on_kinded c (kind_name n p (onto back [])) r (k.Mark m.Less))
    less_none (of_declared i q d) n p back r = refl
    less_none (of_signal_par i q o z bs) n p back r = refl
    less_none (of_par h bs o) n p back r = refl
    less_none (of_result h bs) n p back r = refl
kind_named_follow c n p [] r x = named_kind_follow c n p [] r x
kind_named_follow c n p (z ∷ back) r x = named_kind_follow c n p (z ∷ back) r x

kind_follow : (c : Kinded) (p : Place) (x : TokenKind) → keep_kind (whose_of c) (kinded_rows c) (kinded_frames c) p x ≡ lifted (on_kind c p x)
kind_follow c p (k.Name n) = refl
kind_follow c p (k.Word w.Var) = refl
kind_follow c p _ = refl

var_no : (d : Adjective) → is_alias d kind_var ≡ false
var_no adjective.ReadOnly = refl
var_no adjective.Ordinary = refl
var_no adjective.Default = refl

list_no : (d : Adjective) (n : Units) (p : Place) → is_alias d (kind_list n p) ≡ false
list_no adjective.ReadOnly n p = refl
list_no adjective.Ordinary n p = refl
list_no adjective.Default n p = refl

may_no : (d : Adjective) → (may_alias d && false) ≡ false
may_no adjective.ReadOnly = refl
may_no adjective.Ordinary = refl
may_no adjective.Default = refl

own_no : (d : Adjective) (q : Kind) → is_named q ≡ false → is_alias d q ≡ false
own_no d kind_var h = var_no d
own_no d (kind_list n p) h = list_no d n p
own_no d (kind_name n p ns) h = cc

kinded_follow : (c : Kinded) (q : Kind) (r : Place) (x : TokenKind) → is_named q ≡ false → keep_kinded (whose_of c) false (listed_kind q (kinded_rows c)) (listed_kind q (kinded_rows c)) (kinded_frames c) r x ≡ lifted (on_kinded c q r x)
kinded_follow (of_declared i p d) q r (k.Name n) h =
    let a = kept (node.First n r ∷ popped (listed_kind q (inside_rows i))) (inside_frames i) (state.Member (member_now.AliasNamed p (is_default d))) in
    let b = kept (node.First n r ∷ listed_kind q (inside_rows i)) (inside_frames i) (state.Member (member_now.PropertyNamed p d)) in
    ap (λ (v : Bool). if v then Some a else Some b) (may_no d) ∙ sym (ap (λ (v : Bool). lifted (if v then Some (alias_named i p (is_default d) n r) else Some (property_named i p d q n r))) (own_no d q h))
kinded_follow (of_signal_par i p n z back) q r (k.Name x) h = refl
kinded_follow (of_par hd back n) q r (k.Mark m.Comma) h = refl
kinded_follow (of_par hd back n) q r (k.Mark m.RightParen) h = refl
kinded_follow (of_result hd back) q r (k.Mark m.LeftBrace) h = refl
kinded_follow (of_declared i p d) q r _ h = refl
kinded_follow (of_signal_par i p n z back) q r _ h = refl
kinded_follow (of_par hd back n) q r _ h = refl
kinded_follow (of_result hd back) q r _ h = refl

-- ---- properties and aliases

property_follow : (i : Inside) (p : Place) (d : Adjective) (q : Kind) (n : Units) (r : Place) (t : Token) → keep_property (node.First n r ∷ listed_kind q (inside_rows i)) (inside_frames i) p d t ≡ lifted (on_property_named i p d q n r t)
property_follow i p d q n r t =
    let so = on_end before_value t (done i (bare p d q n r semi)) (on_done i (bare p d q n r auto) t.place t.what) in
    let ko = keep_member before_value (λ c. node.Bare p d (end_of c) ∷ node.First n r ∷ listed_kind q (inside_rows i)) (inside_frames i) t in
    lift_either (is_colon t.what) (Some (start (of_property i p d q n r))) (if may_be_bare d then so else None) (Some (kept_value (node.First n r ∷ listed_kind q (inside_rows i)) (frame.Property p d ∷ inside_frames i) begun_value)) (if may_be_bare d then ko else None) refl (lift_either (may_be_bare d) so None ko None (member_follow before_value i (λ c. bare p d q n r c) t) refl)

three_no : (x y z : Units) (back : List Units) → at_most_two (x ∷ y ∷ z ∷ back) ≡ true → ⊥
three_no x y z back h = let g : suc (suc (suc (length back))) ≤ 2 = leb-true (suc (suc (suc (length back)))) 2 h in omega arith

target_follow : (i : Inside) (p : Place) (d : Bool) (n : Units) (r : Place) (x : Units) (z : Place) (back : List Units) (t : Token) → at_most_two back ≡ true → keep_target (dots_row back (node.First x z ∷ node.First n r ∷ inside_rows i)) (inside_frames i) p d (count_of back) t ≡ lifted (on_target i p d n r x z back t)
target_follow i p d n r x z [] t h = lift_either (is_dot t.what && true) (Some (target_dotted i p d n r x z [])) (on_target_end i p d n r x z [] t) (Some (kept_of (target_dotted i p d n r x z []))) _ refl (member_follow before_dot i (λ c. alias p d n r x z [] c) t)
target_follow i p d n r x z (y ∷ []) t h = lift_either (is_dot t.what && true) (Some (target_dotted i p d n r x z (y ∷ []))) (on_target_end i p d n r x z (y ∷ []) t) (Some (kept_of (target_dotted i p d n r x z (y ∷ [])))) _ refl (member_follow before_dot i (λ c. alias p d n r x z (y ∷ []) c) t)
target_follow i p d n r x z (y ∷ u ∷ []) t h = lift_either (is_dot t.what && false) (Some (target_dotted i p d n r x z (y ∷ u ∷ []))) (on_target_end i p d n r x z (u ∷ y ∷ []) t) (Some (kept_of (target_dotted i p d n r x z (y ∷ u ∷ [])))) _ refl (member_follow whole i (λ c. alias p d n r x z (u ∷ y ∷ []) c) t)
target_follow i p d n r x z (y ∷ u ∷ v ∷ back) t h = absurd (three_no y u v back h)

-- ---- values and bodies

-- what the machine of statements has read whole is what was to be read
whole_tells : (y : js.Entry) (front : List Token) (x : State) (e : Whole) → Ran y front x → finish x ≡ Some e → ReadsWhole y e front []
whole_tells y front x e ran h =
    let a = js_exact_proofs.exact y front in
    let g : go front (js.start_of y) ≡ record { tree = Some e; rest = [] } = ap (λ z. go z (js.start_of y)) (sym (append-nil front)) ∙ ran.goes [] ∙ ap (λ z. record { tree = z; rest = [] }) h in
    let P : js.Outcome → Type 0 = λ o. IsAnswer y front o.tree o.rest in
    let b : IsAnswer y front (Some e) [] = subst P g a in
    let Q : List Token → Type 0 = λ z. ReadsWhole y e z [] in
    subst Q (sym (b.parts.split ∙ append-nil b.front)) b.tree

whole_kept : (y : js.Entry) (front : List Token) (x : State) → Ran y front x → kept_whole (tape_of x) ≡ option_map listed_whole (finish x)
whole_kept y front x ran = ap (λ (e : Ends). e.tree) (go_same y [] front x ran)

now_ends_same : (x : State) (t : Token) (e : Whole) → finish x ≡ Some e → ends_tape (tape_of x) t ≡ state_ends x t
now_ends_same (have e ss fs) t w h = refl
now_ends_same (at_jump breaks p fs) t w h = refl
now_ends_same (at_jump continues p fs) t w h = refl
now_ends_same (expects z next) t w h = cc
now_ends_same _ t w h = refl

else_no : (i : Inside) (x : Member) (p : Place) (kind : TokenKind) → is_else kind ≡ true → on_done i x p kind ≡ None
else_no i x p kind h = ap (on_done i x p) (else_is kind h)

if_same : (a b : Bool) (u : Option Kept) → (u ≡ None) ⊎ (a ≡ b) → (if a then u else None) ≡ (if b then u else None)
if_same a b u (inr h) = ap (λ (v : Bool). if v then u else None) h
if_same true true u (inl h) = refl
if_same true false u (inl h) = h
if_same false true u (inl h) = sym h
if_same false false u (inl h) = refl

valued_done : (g : Target) (d : Stmt) (t : Token) → value_done (target_rows g) (target_frames g) t (keep_valued ((listed_whole (whole_stmt d)) ++ (target_rows g)) (target_frames g)) ≡ lifted (on_done (inside_of g) (member_of g (value_stmt d)) t.place t.what)
valued_done g d t = ap (value_done (target_rows g) (target_frames g) t) (valued_same g (value_stmt d) ((listed_whole (whole_stmt d)) ++ (target_rows g)) (sym (over_stmt d [] (target_rows g)))) ∙ done_follow (inside_of g) (member_of g (value_stmt d)) t.place t.what

stmt_follow : (g : Target) (front : List Token) (x : State) (t : Token) (o : Option Whole) → finish x ≡ o → Ran a_statement front x → keep_stmt (target_rows g) (target_frames g) (tape_of x) t (option_map listed_whole o) ≡ lifted (on_stmt_end g t o)
stmt_follow g front x t None h ran = refl
stmt_follow g front x t (Some (whole_expr e)) h ran = absurd (whole_tells a_statement front x (whole_expr e) ran h)
stmt_follow g front x t (Some (whole_document e)) h ran = absurd (whole_tells a_statement front x (whole_document e) ran h)
stmt_follow g front x t (Some (whole_script e)) h ran = absurd (whole_tells a_statement front x (whole_script e) ran h)
stmt_follow g front x t (Some (whole_body e)) h ran = absurd (whole_tells a_statement front x (whole_body e) ran h)
stmt_follow g front x t (Some (whole_stmt d)) h ran =
    let u = value_done (target_rows g) (target_frames g) t (keep_valued ((listed_whole (whole_stmt d)) ++ (target_rows g)) (target_frames g)) in
    let y = on_done (inside_of g) (member_of g (value_stmt d)) t.place t.what in
    let e : u ≡ lifted y = valued_done g d t in
    let c : (u ≡ None) ⊎ (ends_tape (tape_of x) t ≡ may_end d t) = elim (true_or_false (is_else t.what)) [
      | inl z ↦ inl (e ∙ ap lifted (else_no (inside_of g) (member_of g (value_stmt d)) t.place t.what z))
      | inr z ↦ inr (now_ends_same x t (whole_stmt d) h ∙ ends_by_state front x d t ran h z)
    ] in
    if_same (ends_tape (tape_of x) t) (may_end d t) u c ∙ lift_either (may_end d t) y None u None e refl

type_lift : (b : Bool) (h : Holder) (x : TypeName) → (if b then Some (keep_opened (listed_type x (holder_rows h)) (holder_frames h)) else None) ≡ lifted (on_type_read (if b then Some (h, x) else None))
type_lift true h x = refl
type_lift false h x = refl

chain_is : (f : Bool) (o : Operator) (p : Place) (ls : Links) (t : Table) → (b : Bool) × (i : Operator) × (q : Place) × (u : Table) × (listed_links f o p ls t ≡ node.Chain b i q ∷ u)
chain_is f o p no_links t = (f, o, p, t, refl)
chain_is f o p (a_link i q e ls) t = chain_is false i q ls _

signed_is : (f : Bool) (g : Prefix) (p : Place) (ss : Signs) → (b : Bool) × (h : Prefix) × (q : Place) × (last_sign f g p ss ≡ node.Signed b h q)
signed_is f g p no_signs = (f, g, p, refl)
signed_is f g p (a_sign h q ss) = signed_is false h q ss

names_follow : (g : Target) (e : Expr) (ss : List Step) → keep_names (target_rows g) (target_frames g) (steps_row ss (listed e [])) ≡ lifted (on_type_read (type_read g (have e ss (in_expr ∷ in_one ∷ []))))
names_follow g (name n p) (member x r ∷ member y u ∷ ss) = refl
names_follow g _ (member x r ∷ member y u ∷ ss) = refl
names_follow g (name n p) (member x r ∷ element u y ∷ ss) = refl
names_follow g _ (member x r ∷ element u y ∷ ss) = refl
names_follow g (name n p) (member x r ∷ call u y ∷ ss) = refl
names_follow g _ (member x r ∷ call u y ∷ ss) = refl
names_follow g (name n p) (member x r ∷ binding u y ∷ ss) = refl
names_follow g _ (member x r ∷ binding u y ∷ ss) = refl
names_follow g (name n p) (element u y ∷ ss) = refl
names_follow g _ (element u y ∷ ss) = refl
names_follow g (name n p) (call u y ∷ ss) = refl
names_follow g _ (call u y ∷ ss) = refl
names_follow g (name n p) (binding u y ∷ ss) = refl
names_follow g _ (binding u y ∷ ss) = refl
names_follow g (name v p) (member n r ∷ []) = type_lift (is_type n) (as_value g) (type_of v p n)
names_follow g (choose c d no_choices w) (member n r ∷ []) = refl
names_follow g (choose c d (a_choice h y cs) w) (member n r ∷ []) = refl
names_follow g (assign c u q no_targets d) (member n r ∷ []) = refl
names_follow g (assign c u q (a_target h y w ts) d) (member n r ∷ []) = refl
names_follow g (signed u q gs c) (member n r ∷ []) = ap (λ v. keep_names (target_rows g) (target_frames g) (node.Member n r ∷ v ∷ listed c (listed_signs true u q gs []))) (signed_is true u q gs).3
names_follow g (chain c o q d ls) (member n r ∷ []) = ap (λ v. keep_names (target_rows g) (target_frames g) (node.Member n r ∷ v)) (chain_is true o q ls (listed d (listed c []))).4
names_follow g _ (member n r ∷ []) = refl
names_follow g (name n p) [] = type_lift (is_type n) (as_value g) (own_type n p)
names_follow g (choose c d no_choices w) [] = refl
names_follow g (choose c d (a_choice h y cs) w) [] = refl
names_follow g (assign c u q no_targets d) [] = refl
names_follow g (assign c u q (a_target h y w ts) d) [] = refl
names_follow g (signed u q gs c) [] = ap (λ v. keep_names (target_rows g) (target_frames g) (v ∷ listed c (listed_signs true u q gs []))) (signed_is true u q gs).3
names_follow g (chain c o q d ls) [] = ap (λ v. keep_names (target_rows g) (target_frames g) v) (chain_is true o q ls (listed d (listed c []))).4
names_follow g _ [] = refl

firsts_follow : (g : Target) (z : Place) (e : Expr) (ss : List Step) → keep_firsts (target_rows g) (target_frames g) z (steps_row ss (listed e (node.Mark ∷ []))) ≡ lifted (on_type_read (type_read g (have e ss (in_items z [] ∷ in_expr ∷ in_one ∷ []))))
firsts_follow g z (name n p) (member x r ∷ member y u ∷ ss) = refl
firsts_follow g z _ (member x r ∷ member y u ∷ ss) = refl
firsts_follow g z (name n p) (member x r ∷ element u y ∷ ss) = refl
firsts_follow g z _ (member x r ∷ element u y ∷ ss) = refl
firsts_follow g z (name n p) (member x r ∷ call u y ∷ ss) = refl
firsts_follow g z _ (member x r ∷ call u y ∷ ss) = refl
firsts_follow g z (name n p) (member x r ∷ binding u y ∷ ss) = refl
firsts_follow g z _ (member x r ∷ binding u y ∷ ss) = refl
firsts_follow g z (name n p) (element u y ∷ ss) = refl
firsts_follow g z _ (element u y ∷ ss) = refl
firsts_follow g z (name n p) (call u y ∷ ss) = refl
firsts_follow g z _ (call u y ∷ ss) = refl
firsts_follow g z (name n p) (binding u y ∷ ss) = refl
firsts_follow g z _ (binding u y ∷ ss) = refl
firsts_follow g z (name v p) (member n r ∷ []) = type_lift (is_type n) (in_objects g z []) (type_of v p n)
firsts_follow g z (choose c d no_choices w) (member n r ∷ []) = refl
firsts_follow g z (choose c d (a_choice h y cs) w) (member n r ∷ []) = refl
firsts_follow g z (assign c u q no_targets d) (member n r ∷ []) = refl
firsts_follow g z (assign c u q (a_target h y w ts) d) (member n r ∷ []) = refl
firsts_follow g z (signed u q gs c) (member n r ∷ []) = ap (λ v. keep_firsts (target_rows g) (target_frames g) z (node.Member n r ∷ v ∷ listed c (listed_signs true u q gs (node.Mark ∷ [])))) (signed_is true u q gs).3
firsts_follow g z (chain c o q d ls) (member n r ∷ []) = ap (λ v. keep_firsts (target_rows g) (target_frames g) z (node.Member n r ∷ v)) (chain_is true o q ls (listed d (listed c (node.Mark ∷ [])))).4
firsts_follow g z _ (member n r ∷ []) = refl
firsts_follow g z (name n p) [] = type_lift (is_type n) (in_objects g z []) (own_type n p)
firsts_follow g z (choose c d no_choices w) [] = refl
firsts_follow g z (choose c d (a_choice h y cs) w) [] = refl
firsts_follow g z (assign c u q no_targets d) [] = refl
firsts_follow g z (assign c u q (a_target h y w ts) d) [] = refl
firsts_follow g z (signed u q gs c) [] = ap (λ v. keep_firsts (target_rows g) (target_frames g) z (v ∷ listed c (listed_signs true u q gs (node.Mark ∷ [])))) (signed_is true u q gs).3
firsts_follow g z (chain c o q d ls) [] = ap (λ v. keep_firsts (target_rows g) (target_frames g) z v) (chain_is true o q ls (listed d (listed c (node.Mark ∷ [])))).4
firsts_follow g z _ [] = refl

-- behind another expression of a list
more_follow : (s : Table) (fs : _) (z : Place) (e d : Expr) (ss : List Step) (back : Table) → None ≡ keep_firsts s fs z (steps_row ss (listed e (listed d back)))
more_follow s fs z e d (member x r ∷ member y u ∷ ss) back = refl
more_follow s fs z e d (member x r ∷ element u y ∷ ss) back = refl
more_follow s fs z e d (member x r ∷ call u y ∷ ss) back = refl
more_follow s fs z e d (member x r ∷ binding u y ∷ ss) back = refl
more_follow s fs z e d (element u y ∷ ss) back = refl
more_follow s fs z e d (call u y ∷ ss) back = refl
more_follow s fs z e d (binding u y ∷ ss) back = refl
more_follow s fs z (name n p) (name v q) (member x r ∷ []) back = refl
more_follow s fs z (name n p) (choose c a no_choices w) (member x r ∷ []) back = refl
more_follow s fs z (name n p) (choose c a (a_choice h y cs) w) (member x r ∷ []) back = refl
more_follow s fs z (name n p) (assign c u q no_targets a) (member x r ∷ []) back = refl
more_follow s fs z (name n p) (assign c u q (a_target h y w ts) a) (member x r ∷ []) back = refl
more_follow s fs z (name n p) (signed u q gs c) (member x r ∷ []) back = sym (ap (λ v. keep_firsts s fs z (node.Member x r ∷ node.Name n p ∷ v ∷ listed c (listed_signs true u q gs back))) (signed_is true u q gs).3)
more_follow s fs z (name n p) (chain c o q d ls) (member x r ∷ []) back = sym (ap (λ v. keep_firsts s fs z (node.Member x r ∷ node.Name n p ∷ v)) (chain_is true o q ls (listed d (listed c back))).4)
more_follow s fs z (name n p) _ (member x r ∷ []) back = refl
more_follow s fs z (choose c a no_choices w) d (member x r ∷ []) back = refl
more_follow s fs z (choose c a (a_choice h y cs) w) d (member x r ∷ []) back = refl
more_follow s fs z (assign c u q no_targets a) d (member x r ∷ []) back = refl
more_follow s fs z (assign c u q (a_target h y w ts) a) d (member x r ∷ []) back = refl
more_follow s fs z (signed u q gs c) d (member x r ∷ []) back = sym (ap (λ v. keep_firsts s fs z (node.Member x r ∷ v ∷ listed c (listed_signs true u q gs (listed d back)))) (signed_is true u q gs).3)
more_follow s fs z (chain c o q a ls) d (member x r ∷ []) back = sym (ap (λ v. keep_firsts s fs z (node.Member x r ∷ v)) (chain_is true o q ls (listed a (listed c (listed d back)))).4)
more_follow s fs z _ d (member x r ∷ []) back = refl
more_follow s fs z (name n p) (name v q) [] back = refl
more_follow s fs z (name n p) (choose c a no_choices w) [] back = refl
more_follow s fs z (name n p) (choose c a (a_choice h y cs) w) [] back = refl
more_follow s fs z (name n p) (assign c u q no_targets a) [] back = refl
more_follow s fs z (name n p) (assign c u q (a_target h y w ts) a) [] back = refl
more_follow s fs z (name n p) (signed u q gs c) [] back = sym (ap (λ v. keep_firsts s fs z (node.Name n p ∷ v ∷ listed c (listed_signs true u q gs back))) (signed_is true u q gs).3)
more_follow s fs z (name n p) (chain c o q d ls) [] back = sym (ap (λ v. keep_firsts s fs z (node.Name n p ∷ v)) (chain_is true o q ls (listed d (listed c back))).4)
more_follow s fs z (name n p) _ [] back = refl
more_follow s fs z (choose c a no_choices w) d [] back = refl
more_follow s fs z (choose c a (a_choice h y cs) w) d [] back = refl
more_follow s fs z (assign c u q no_targets a) d [] back = refl
more_follow s fs z (assign c u q (a_target h y w ts) a) d [] back = refl
more_follow s fs z (signed u q gs c) d [] back = sym (ap (λ v. keep_firsts s fs z (v ∷ listed c (listed_signs true u q gs (listed d back)))) (signed_is true u q gs).3)
more_follow s fs z (chain c o q a ls) d [] back = sym (ap (λ v. keep_firsts s fs z v) (chain_is true o q ls (listed a (listed c (listed d back)))).4)
more_follow s fs z _ d [] back = refl

have_follow : (g : Target) (e : Expr) (ss : List Step) (open_frames : js_frames.Frames) → keep_behind (target_rows g) (target_frames g) (frames_code open_frames) (steps_row ss (listed e (frames_nodes open_frames))) ≡ lifted (on_type_read (type_read g (have e ss open_frames)))
have_follow g e ss (in_expr ∷ in_one ∷ []) = names_follow g e ss
have_follow g e ss (in_items z [] ∷ in_expr ∷ in_one ∷ []) = firsts_follow g z e ss
have_follow g e ss (in_items z (d ∷ es) ∷ in_expr ∷ in_one ∷ []) = sym (more_follow (target_rows g) (target_frames g) z e d ss (exprs_row es (node.Mark ∷ []))) ∙ other_none g e ss z d es
  where
    other_none : (g : Target) (e : Expr) (ss : List Step) (z : Place) (d : Expr) (es : List Expr) → None ≡ lifted (on_type_read (type_read g (have e ss (in_items z (d ∷ es) ∷ in_expr ∷ in_one ∷ []))))
    other_none g (name n p) [] z d es = refl
    other_none g (name n p) (member x r ∷ []) z d es = refl
    other_none g _ _ z d es = refl
have_follow g (name n p) [] _ = refl
have_follow g (name n p) (member x r ∷ []) _ = refl
have_follow g _ _ _ = refl

type_follow : (g : Target) (x : State) (front rest : List Token) → StateReads a_statement x front rest → keep_type (target_rows g) (target_frames g) (tape_of x) ≡ lifted (on_type_read (type_read g x))
type_follow g (have e ss fs) front rest r = have_follow g e ss fs
type_follow g (at_jump breaks p fs) front rest r = refl
type_follow g (at_jump continues p fs) front rest r = refl
type_follow g (expects m.LeftParen (need fs)) front rest r = refl
type_follow g (expects m.LeftParen (at_first p fs)) front rest r = refl
type_follow g (expects m.LeftParen (expects m.RightParen (expects m.LeftBrace (begin fs)))) front rest r = refl
type_follow g (expects m.RightParen (expects m.LeftBrace (begin fs))) front rest r = refl
type_follow g (expects m.LeftBrace (begin fs)) front rest r = refl
type_follow g (expects m.Colon (need fs)) front rest r = refl
type_follow g (expects m.RightParen (have e ss fs)) front rest r = refl
type_follow g (expects v next) front rest r = absurd r.0
type_follow g _ front rest r = refl

value_follow : (g : Target) (front rest : List Token) (x : State) (t : Token) (o : Option State) → step x t ≡ o → Ran a_statement front x → keep_value (target_rows g) (target_frames g) (tape_of x) t (js_follows.lifted o) ≡ lifted (on_value_stuck g x t o)
value_follow g front rest x t (Some next) h ran = refl
value_follow g front rest x t None h ran = lift_either (is_left_brace t.what) (on_type_read (type_read g x)) (on_stmt_end g t (finish x)) (keep_type (target_rows g) (target_frames g) (tape_of x)) (keep_stmt (target_rows g) (target_frames g) (tape_of x) t (kept_whole (tape_of x))) (type_follow g x (front ++ []) [] (ran.reads [])) (ap (keep_stmt (target_rows g) (target_frames g) (tape_of x) t) (whole_kept a_statement front x ran) ∙ stmt_follow g front x t (finish x) refl ran)

method_same : (i : Inside) (p : Place) (s : Table) (nodes : _) → keep_function s (inside_frames i) p nodes ≡ kept (node.Method ∷ node.Function p ∷ nodes ++ s) (inside_frames i) (state.Member member_now.Done)
method_same (in_object h x back) p s nodes = refl
method_same (in_group i n q ns back) p s nodes = refl

body_same : (ss : Stmts) (s : Table) → listed_whole (whole_body ss) ++ s ≡ node.Body ∷ listed_stmts ss (node.Mark ∷ s)
body_same ss s = ap (λ z. node.Body ∷ z) (sym (over_stmts ss (node.Mark ∷ []) s))

function_same : (h : Head) (back : List Par) (q : Option Kind) (ss : Stmts) → keep_function (listed_par_kind q (pars_row back (node.Mark ∷ head_rows h))) (head_frames h) (head_place h) (listed_whole (whole_body ss)) ≡ kept_of (function_of h back q ss)
function_same (head (in_members i) p n r) back q ss =
    method_same i p (listed_par_kind q (pars_row back (node.Mark ∷ node.First n r ∷ inside_rows i))) (listed_whole (whole_body ss)) ∙ ap (λ z. kept (node.Method ∷ node.Function p ∷ (listed_whole (whole_body ss)) ++ (listed_par_kind q z)) (inside_frames i) (state.Member member_now.Done)) (sym (pars_same back no_pars (node.Mark ∷ node.First n r ∷ inside_rows i)))
    ∙ ap (λ z. kept (node.Method ∷ node.Function p ∷ z) (inside_frames i) (state.Member member_now.Done)) (body_same ss (listed_par_kind q (listed_pars (pars_onto back no_pars) (node.Mark ∷ node.First n r ∷ inside_rows i))))
function_same (head (in_script b fs) p n r) back q ss = ap (λ z. kept (node.Function p ∷ (listed_whole (whole_body ss)) ++ (listed_par_kind q z)) (frame.Script b ∷ []) (state.Script script_now.Functions)) (sym (pars_same back no_pars (node.Mark ∷ node.First n r ∷ functions_row fs (node.Mark ∷ [])))) ∙ ap (λ z. kept (node.Function p ∷ z) (frame.Script b ∷ []) (state.Script script_now.Functions)) (body_same ss (listed_par_kind q (listed_pars (pars_onto back no_pars) (node.Mark ∷ node.First n r ∷ functions_row fs (node.Mark ∷ [])))))

body_end_follow : (h : Head) (back : List Par) (q : Option Kind) (front : List Token) (x : State) (o : Option Whole) → finish x ≡ o → Ran a_body front x → keep_body_end (listed_par_kind q (pars_row back (node.Mark ∷ head_rows h))) (head_frames h) (head_place h) (option_map listed_whole o) ≡ lifted (on_body_end h back q o)
body_end_follow h back q front x None e ran = refl
body_end_follow h back q front x (Some (whole_expr w)) e ran = absurd (whole_tells a_body front x (whole_expr w) ran e)
body_end_follow h back q front x (Some (whole_document w)) e ran = absurd (whole_tells a_body front x (whole_document w) ran e)
body_end_follow h back q front x (Some (whole_script w)) e ran = absurd (whole_tells a_body front x (whole_script w) ran e)
body_end_follow h back q front x (Some (whole_stmt w)) e ran = absurd (whole_tells a_body front x (whole_stmt w) ran e)
body_end_follow h back q front x (Some (whole_body ss)) e ran = ap (λ z. Some z) (function_same h back q ss)

body_follow : (h : Head) (back : List Par) (q : Option Kind) (front : List Token) (x : State) (t : Token) (o : Option State) → step x t ≡ o → Ran a_body front x → keep_body (listed_par_kind q (pars_row back (node.Mark ∷ head_rows h))) (head_frames h) (head_place h) (tape_of x) t (js_follows.lifted o) ≡ lifted (on_body_stuck h back q x t o)
body_follow h back q front x t (Some next) e ran = refl
body_follow h back q front x t None e ran =
    let s = listed_par_kind q (pars_row back (node.Mark ∷ head_rows h)) in
    lift_either (is_brace t.what) (on_body_end h back q (finish x)) None (keep_body_end s (head_frames h) (head_place h) (kept_whole (tape_of x))) None (ap (keep_body_end s (head_frames h) (head_place h)) (whole_kept a_body front x ran) ∙ body_end_follow h back q front x (finish x) refl ran) refl

-- ---- each token

some_objects : (back : List Object) (b rest : List Token) → ObjectsTo back b rest → back ≡ [] → ⊥
some_objects [] b rest o h = o
some_objects (x ∷ back) b rest o h = cc

pub keep_follows : (y : Entry) (x : Reading) (s rest : List Token) (t : Token) → ReadingReads y x s (t ∷ rest) → keep (kept_of x) t ≡ lifted (read_step x t)
keep_follows y (imports is) s rest t r = imports_follow is t.place t.what
keep_follows y (at_import is) s rest t r = import_follow is t.place t.what
keep_follows y (module_named is n p back) s rest t r = module_follow is n p back t t.what
keep_follows y (module_dotted is n p back) s rest t r = lift_name t.what _ _ (λ x. refl)
keep_follows y (sourced is x) s rest t r = sourced_follow before_as is x t
keep_follows y (at_qualifier is x) s rest t r = lift_name t.what _ _ (λ n. refl)
keep_follows y (qualified is x n) s rest t r = import_end_follow whole is x (Some n) t
keep_follows y (at_object h) s rest t r = lift_name t.what _ _ (λ n. refl)
keep_follows y (object_named h n p) s rest t r = named_follow h n p t.what
keep_follows y (object_dotted h q p) s rest t r = lift_name t.what _ _ (λ n. lift_mark (is_type n) (typed h (type_of q p n)))
keep_follows y (typed h x) s rest t r = lift_mark (is_left_brace t.what) (opened h x)
keep_follows y (rooted is o) s rest t r = refl
keep_follows y (members i) s rest t r = members_follow i t.place t.what
keep_follows y (done i x) s rest t r = done_follow i x t.place t.what
keep_follows y (path i n p back) s rest t r = path_follow i n p back t.place t.what
keep_follows y (path_dotted i n p back) s rest t r = lift_name t.what _ _ (λ x. ap (λ c. Some (kept (node.Dot x ∷ dots_row back (node.First n p ∷ inside_rows i)) (inside_frames i) (state.Member (member_now.Path p c word.Other false (next_types (count_of back) x))))) (dotted_count back x) ∙ ap (λ b. Some (kept (node.Dot x ∷ dots_row back (node.First n p ∷ inside_rows i)) (inside_frames i) (state.Member (member_now.Path p (count_of (x ∷ back)) word.Other false b)))) (dotted_types n back x))
keep_follows y (at_id i p) s rest t r = lift_name t.what _ _ (λ n. lift_mark (is_id n) (id_named i p n t.place))
keep_follows y (id_named i p n z) s rest t r = member_follow whole i (λ c. id p n z c) t
keep_follows y (at_property i p d) s rest t r = lift_name t.what _ _ (λ n. lift_mark (bytes_eq n (codes "property")) (at_kind (of_declared i p d)))
keep_follows y (at_kind c) s rest t r = kind_follow c t.place t.what
keep_follows y (kind_named c n p back) s rest t r = kind_named_follow c n p back t.place t.what
keep_follows y (kind_dotted c n p back) s rest t r = lift_name t.what _ _ (λ x. refl)
keep_follows y (at_element c) s rest t r = lift_name t.what _ _ (λ x. refl)
keep_follows y (element_named c n p) s rest t r = lift_mark (is_greater t.what) (kinded c (kind_list n p))
keep_follows y (kinded c q) s rest t (a, l, r, z) = kinded_follow c q t.place t.what z
keep_follows y (property_named i p d q n z) s rest t r = property_follow i p d q n z t
keep_follows y (alias_named i p d n z) s rest t r = lift_mark (is_colon t.what) (at_target i p d n z)
keep_follows y (at_target i p d n z) s rest t r = lift_name t.what _ _ (λ x. refl)
keep_follows y (target i p d n z x v back) s rest t (a, b, c, l, colon, nm, o, two) = target_follow i p d n z x v back t two
keep_follows y (target_dotted i p d n z x v back) s rest t r = lift_name t.what _ _ (λ u. ap (λ c. Some (kept (node.Dot u ∷ dots_row back (node.First x v ∷ node.First n z ∷ inside_rows i)) (inside_frames i) (state.Member (member_now.Target p d c)))) (dotted_count back u))
keep_follows y (signal_named i p n z) s rest t r = lift_either (is_left_paren t.what) (Some (signal_opened i p n z)) (on_signal_end i p n z None t) (Some (kept_of (signal_opened i p n z))) _ refl (member_follow before_brackets i (λ c. signal p n z None c) t)
keep_follows y (signal_opened i p n z) s rest t r = signal_opened_follow i p n z t.place t.what
keep_follows y (signal_par_named i p n z back) s rest t r = signal_par_follow i p n z back t.what
keep_follows y (signal_closed i p n z ps) s rest t r = member_follow whole i (λ c. signal p n z (Some ps) c) t
keep_follows y (at_function home p) s rest t r = lift_name t.what _ _ (λ n. refl)
keep_follows y (function_named h) s rest t r = lift_mark (is_left_paren t.what) (function_opened h)
keep_follows y (function_opened h) s rest t r = function_opened_follow h t.what
keep_follows y (at_par h back) s rest t r = lift_name t.what _ _ (λ n. refl)
keep_follows y (par_named h back n) s rest t r = par_follow h back n t.what
keep_follows y (function_closed h back) s rest t r = function_closed_follow h back t.what
keep_follows y (body h back q x) s rest t (a, b, front, l, pk, see, ran) = ap (keep_body (listed_par_kind q (pars_row back (node.Mark ∷ head_rows h))) (head_frames h) (head_place h) (tape_of x) t) (move_follows a_body x (front ++ t ∷ rest) (t ∷ rest) t (ran.reads (t ∷ rest))) ∙ body_follow h back q front x t (step x t) refl ran
keep_follows y (value g x) s rest t (front, l, ran) = ap (keep_value (target_rows g) (target_frames g) (tape_of x) t) (move_follows a_statement x (front ++ t ∷ rest) (t ∷ rest) t (ran.reads (t ∷ rest))) ∙ value_follow g front rest x t (step x t) refl ran
keep_follows y (objects g p back) s rest t (a, b, l, nm, o) = objects_follow g p back t.what (some_objects back b (t ∷ rest) o)
keep_follows y script_begun s rest t r = lift_either (is_dot t.what) (Some at_pragma) (on_functions false [] t.place t.what) (Some (kept_of at_pragma)) _ refl (functions_follow false [] t.place t.what)
keep_follows y at_pragma s rest t r = lift_name t.what _ _ (λ n. lift_mark (bytes_eq n (codes "pragma")) at_library)
keep_follows y at_library s rest t r = lift_name t.what _ _ (λ n. lift_mark (bytes_eq n (codes "library")) pragma_read)
keep_follows y pragma_read s rest t r = lift_either t.after_line (on_functions true [] t.place t.what) None (keep_functions (node.Mark ∷ []) (frame.Script true ∷ []) t.place t.what) None (functions_follow true [] t.place t.what) refl
keep_follows y (functions b fs) s rest t r = functions_follow b fs t.place t.what
