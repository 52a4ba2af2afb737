-- What the machine answers of a file's tokens.
use Rattle.std.proofs.Common.{◌≡◌, Bool, true, false, ◌&&◌, List, [], ◌∷◌, ◌++◌, length, Option, Some, None, Err, refl, sym, ap, ◌∙◌, subst, codes}
use Rattle.std.specs.Prelude.{if◌then◌else◌, nat_lt}
use Rattle.std.specs.Str.{bytes_eq}
use Rattle.qml_base.specs.declared.numbers.Place.{Place}
use Rattle.qml_syntax.specs.declared.token.TokenKind.TheVariants as k
use Rattle.qml_syntax.specs.declared.token.Token.{Token}
use Rattle.qml_syntax.specs.Tree.{Units, semi, auto}
use Rattle.js_machine.specs.Frames.{State}
use Rattle.js_machine.specs.Machine.{is_brace, is_semi, step, finish, Whole, whole_stmt, whole_expr, whole_body}
use Rattle.js_machine.proofs.Fronts.{end_sticks}
use Rattle.js_machine.specs.declared.fault.ParseFault.TheVariants as fault
use Rattle.qml_syntax.specs.Tree.{type_of, Kind, kind_name, kind_list, id, bare, alias, signal, value_stmt}
use Rattle.qml_syntax.specs.declared.contextual.Version.TheVariants as version
use Rattle.qml_syntax.specs.Words.{is_type, is_id, may_be_bare, is_as, Tail, whole, before_value, before_brackets, before_version, before_as, tail_of_target}
use Rattle.qml_machine.specs.Open.{onto, head, import_of, member_of, inside_of, of_module, of_property, Inside, Target, Kinded, of_declared, Source, Reading, imports, at_import, module_named, module_dotted, sourced, at_qualifier, qualified, at_object, object_named, object_dotted, typed, rooted, members, done, path, path_dotted, at_id, id_named, at_property, at_kind, kind_named, kind_dotted, at_element, element_named, kinded, property_named, alias_named, at_target, target, target_dotted, signal_named, signal_opened, signal_par_named, signal_closed, at_function, function_named, function_opened, at_par, par_named, function_closed, body, value, objects, script_begun, at_pragma, at_library, pragma_read, functions}
use Rattle.qml_machine.specs.DocumentMachine.{stops, on_end, on_stmt_end, may_end, on_done, on_members, on_kinded, on_kind_named, on_path, on_objects, on_imports, on_import, on_module, on_sourced, on_import_end, needs_qualifier, on_name, on_mark, on_object_named, opened, start, is_left_brace, is_greater, is_colon, is_dot, is_left_paren, on_kind, on_target_end, on_signal_end, on_signal_opened, on_signal_par, on_function_opened, on_par, on_function_closed, on_functions, on_body_stuck, on_body_end, on_value_stuck, on_type_read, type_read, FileTree, Entry, read_step, read_finish, read_on, run, start_of}
use Rattle.qml_machine.specs.DocumentAnswer.{ReadsText, Parts, IsTreeOf, deep_text, TellsText, IsSame, by_depth, by_rest, parse_of}
use Rattle.qml_machine.proofs.DocumentExact.{exact}
use Rattle.qml_syntax.specs.Tree.{whole_document, whole_script}

-- ---- no text goes on with the end of a file

end_end : (l : Tail) (t : Token) (a : Reading) (b : Option Reading) → t.what ≡ k.End → b ≡ None → on_end l t a b ≡ None
end_end l t a b q h =
    let P : Bool → Option Reading = λ v. if v then b else None in
    ap (λ (v : Bool). if v then Some a else (if stops l t then b else None)) (ap is_semi q) ∙ by (stops l t) h
  where
    by : (v : Bool) → b ≡ None → (if v then b else None) ≡ None
    by true h = h
    by false h = refl

if_none : (v : Bool) (x : Option Reading) → x ≡ None → (if v then x else None) ≡ None
if_none true x h = h
if_none false x h = refl

done_end : (i : Inside) (x : _) (t : Token) → t.what ≡ k.End → on_done i x t.place t.what ≡ None
done_end i x t q = ap (on_done i x t.place) q

import_end : (l : Tail) (is : _) (x : Source) (q : Option Units) (t : Token) → t.what ≡ k.End → on_import_end l is x q t ≡ None
import_end l is x q t e = end_end l t (imports (import_of x q semi ∷ is)) (on_imports (import_of x q auto ∷ is) t.place t.what) e (ap (on_imports (import_of x q auto ∷ is) t.place) e)

sourced_end : (l : Tail) (is : _) (x : Source) (t : Token) → t.what ≡ k.End → on_sourced l is x t ≡ None
sourced_end l is x t e = ap (λ v. if is_as v then Some (at_qualifier is x) else (if needs_qualifier x then None else on_import_end l is x None t)) e ∙ by (needs_qualifier x)
  where
    by : (b : Bool) → (if b then None else on_import_end l is x None t) ≡ None
    by true = refl
    by false = import_end l is x None t e

path_end : (i : Inside) (n : Units) (p : Place) (back : List Units) (r : Place) → on_path i n p back r k.End ≡ None
path_end i n p [] r = refl
path_end i n p (x ∷ back) r = refl

kinded_end : (c : Kinded) (q : Kind) (r : Place) → on_kinded c q r k.End ≡ None
kinded_end (of_declared i p d) q r = refl
kinded_end _ q r = refl

kind_end : (c : Kinded) (n : Units) (p : Place) (back : List Units) (r : Place) → on_kind_named c n p back r k.End ≡ None
kind_end c n p [] r = kinded_end c (kind_name n p []) r
kind_end c n p (x ∷ back) r = kinded_end c (kind_name n p (onto (x ∷ back) [])) r

objects_end : (g : Target) (p : Place) (back : _) → on_objects g p back k.End ≡ None
objects_end g p [] = refl
objects_end g p (x ∷ back) = refl

stmt_end : (g : Target) (t : Token) (o : Option Whole) → t.what ≡ k.End → on_stmt_end g t o ≡ None
stmt_end g t (Some (whole_stmt s)) q = if_none (may_end s t) (on_done (inside_of g) (member_of g (value_stmt s)) t.place t.what) (done_end (inside_of g) (member_of g (value_stmt s)) t q)
stmt_end g t (Some (whole_expr e)) q = refl
stmt_end g t (Some (whole_document e)) q = refl
stmt_end g t (Some (whole_script e)) q = refl
stmt_end g t (Some (whole_body e)) q = refl
stmt_end g t None q = refl

value_end : (g : Target) (x : State) (t : Token) → t.what ≡ k.End → on_value_stuck g x t (step x t) ≡ None
value_end g x t q = ap (on_value_stuck g x t) (end_sticks x t q) ∙ ap (λ v. if is_left_brace v then on_type_read (type_read g x) else on_stmt_end g t (finish x)) q ∙ stmt_end g t (finish x) q

end_stays : (x : Reading) (t : Token) → t.what ≡ k.End → read_step x t ≡ None
end_stays (imports is) t q = ap (on_imports is t.place) q
end_stays (at_import is) t q = ap (on_import is t.place) q
end_stays (module_named is n p back) t q = ap (on_module is n p back t) q ∙ sourced_end before_version is (of_module n p (onto back []) version.Absent) t q
end_stays (module_dotted is n p back) t q = ap (λ v. on_name v (λ x. Some (module_named is n p (x ∷ back)))) q
end_stays (sourced is x) t q = sourced_end before_as is x t q
end_stays (at_qualifier is x) t q = ap (λ v. on_name v (λ n. Some (qualified is x n))) q
end_stays (qualified is x n) t q = import_end whole is x (Some n) t q
end_stays (at_object h) t q = ap (λ v. on_name v (λ n. Some (object_named h n t.place))) q
end_stays (object_named h n p) t q = ap (on_object_named h n p) q
end_stays (object_dotted h n p) t q = ap (λ v. on_name v (λ x. on_mark (is_type x) (typed h (type_of n p x)))) q
end_stays (typed h x) t q = ap (λ v. on_mark (is_left_brace v) (opened h x)) q
end_stays (rooted is o) t q = refl
end_stays (members i) t q = ap (on_members i t.place) q
end_stays (done i x) t q = done_end i x t q
end_stays (path i n p back) t q = ap (on_path i n p back t.place) q ∙ path_end i n p back t.place
end_stays (path_dotted i n p back) t q = ap (λ v. on_name v (λ x. Some (path i n p (x ∷ back)))) q
end_stays (at_id i p) t q = ap (λ v. on_name v (λ n. on_mark (is_id n) (id_named i p n t.place))) q
end_stays (id_named i p n r) t q = end_end whole t (done i (id p n r semi)) (on_done i (id p n r auto) t.place t.what) q (done_end i (id p n r auto) t q)
end_stays (at_property i p d) t q = ap (λ v. on_name v (λ n. on_mark (bytes_eq n (codes "property")) (at_kind (of_declared i p d)))) q
end_stays (at_kind c) t q = ap (on_kind c t.place) q
end_stays (kind_named c n p back) t q = ap (on_kind_named c n p back t.place) q ∙ kind_end c n p back t.place
end_stays (kind_dotted c n p back) t q = ap (λ v. on_name v (λ x. Some (kind_named c n p (x ∷ back)))) q
end_stays (at_element c) t q = ap (λ v. on_name v (λ n. Some (element_named c n t.place))) q
end_stays (element_named c n p) t q = ap (λ v. on_mark (is_greater v) (kinded c (kind_list n p))) q
end_stays (kinded c y) t q = ap (on_kinded c y t.place) q ∙ kinded_end c y t.place
end_stays (property_named i p d y n r) t q =
    let so = on_end before_value t (done i (bare p d y n r semi)) (on_done i (bare p d y n r auto) t.place t.what) in
    ap (λ v. if is_colon v then Some (start (of_property i p d y n r)) else (if may_be_bare d then so else None)) q ∙ if_none (may_be_bare d) so (end_end before_value t (done i (bare p d y n r semi)) (on_done i (bare p d y n r auto) t.place t.what) q (done_end i (bare p d y n r auto) t q))
end_stays (alias_named i p d n r) t q = ap (λ v. on_mark (is_colon v) (at_target i p d n r)) q
end_stays (at_target i p d n r) t q = ap (λ v. on_name v (λ x. Some (target i p d n r x t.place []))) q
end_stays (target i p d n r x z back) t q =
    let ns = onto back [] in
    ap (λ v. if is_dot v && nat_lt (length back) 2 then Some (target_dotted i p d n r x z back) else on_target_end i p d n r x z ns t) q ∙ end_end (tail_of_target ns) t (done i (alias p d n r x z ns semi)) (on_done i (alias p d n r x z ns auto) t.place t.what) q (done_end i (alias p d n r x z ns auto) t q)
end_stays (target_dotted i p d n r x z back) t q = ap (λ v. on_name v (λ y. Some (target i p d n r x z (y ∷ back)))) q
end_stays (signal_named i p n r) t q = ap (λ v. if is_left_paren v then Some (signal_opened i p n r) else on_signal_end i p n r None t) q ∙ end_end before_brackets t (done i (signal p n r None semi)) (on_done i (signal p n r None auto) t.place t.what) q (done_end i (signal p n r None auto) t q)
end_stays (signal_opened i p n r) t q = ap (on_signal_opened i p n r t.place) q
end_stays (signal_par_named i p n r back) t q = ap (on_signal_par i p n r back) q
end_stays (signal_closed i p n r ps) t q = end_end whole t (done i (signal p n r (Some ps) semi)) (on_done i (signal p n r (Some ps) auto) t.place t.what) q (done_end i (signal p n r (Some ps) auto) t q)
end_stays (at_function home p) t q = ap (λ v. on_name v (λ n. Some (function_named (head home p n t.place)))) q
end_stays (function_named h) t q = ap (λ v. on_mark (is_left_paren v) (function_opened h)) q
end_stays (function_opened h) t q = ap (on_function_opened h) q
end_stays (at_par h back) t q = ap (λ v. on_name v (λ n. Some (par_named h back n))) q
end_stays (par_named h back n) t q = ap (on_par h back n) q
end_stays (function_closed h back) t q = ap (on_function_closed h back) q
end_stays (body h back y x) t q = ap (on_body_stuck h back y x t) (end_sticks x t q) ∙ ap (λ v. if is_brace v then on_body_end h back y (finish x) else None) q
end_stays (value g x) t q = value_end g x t q
end_stays (objects g p back) t q = ap (on_objects g p back) q ∙ objects_end g p back
end_stays script_begun t q = ap (λ v. if is_dot v then Some at_pragma else on_functions false [] t.place v) q
end_stays at_pragma t q = ap (λ v. on_name v (λ n. on_mark (bytes_eq n (codes "pragma")) at_library)) q
end_stays at_library t q = ap (λ v. on_name v (λ n. on_mark (bytes_eq n (codes "library")) pragma_read)) q
end_stays pragma_read t q = if_none t.after_line (on_functions true [] t.place t.what) (ap (on_functions true [] t.place) q)
end_stays (functions b fs) t q = ap (on_functions b fs t.place) q

-- ---- so the end is left, and a tree before it has read all tokens

stays_some : (ts : List Token) (e : Token) (x : Reading) (o : Option Reading) (t : Token) → read_step x t ≡ o → ((next : Reading) → (run (ts ++ e ∷ []) next).rest ≡ [] → ⊥) → (read_on o (read_finish x) (t ∷ (ts ++ e ∷ [])) (λ next. run (ts ++ e ∷ []) next)).rest ≡ [] → ⊥
stays_some ts e x None t h rec q = cc
stays_some ts e x (Some next) t h rec q = rec next q

pub leaves_some : (ts : List Token) (e : Token) (x : Reading) → e.what ≡ k.End → (run (ts ++ e ∷ []) x).rest ≡ [] → ⊥
leaves_some [] e x q h = let f : e ∷ [] ≡ [] = sym (ap (λ (o : Option Reading). (read_on o (read_finish x) (e ∷ []) (λ next. run [] next)).rest) (end_stays x e q)) ∙ h in cc
leaves_some (t ∷ ts) e x q h = stays_some ts e x (read_step x t) t refl (λ next z. leaves_some ts e next q z) h

last_same : (before front : List Token) (e t : Token) → before ++ e ∷ [] ≡ front ++ t ∷ [] → before ≡ front
last_same [] [] e t h = refl
last_same [] (x ∷ front) e t h = absurd (let f : [] ≡ front ++ t ∷ [] = cc in empty_not front t f)
  where
    empty_not : (front : List Token) (t : Token) → [] ≡ front ++ t ∷ [] → ⊥
    empty_not [] t h = cc
    empty_not (x ∷ front) t h = cc
last_same (x ∷ before) [] e t h = absurd (let f : before ++ e ∷ [] ≡ [] = cc in not_empty before e f)
  where
    not_empty : (before : List Token) (e : Token) → before ++ e ∷ [] ≡ [] → ⊥
    not_empty [] e h = cc
    not_empty (x ∷ before) e h = cc
last_same (x ∷ before) (z ∷ front) e t h =
    let f : x ≡ z = cc in
    let g : before ++ e ∷ [] ≡ front ++ t ∷ [] = cc in
    ap (λ v. x ∷ v) (last_same before front e t g) ∙ ap (λ v. v ∷ front) f

-- a longer rest: the tokens before the end go on behind the front
goes_behind : (before front : List Token) (e t u : Token) (more : List Token) → before ++ e ∷ [] ≡ front ++ t ∷ u ∷ more → (rest : List Token) × (before ≡ (front ++ t ∷ []) ++ rest)
goes_behind [] [] e t u more h = absurd (cc)
goes_behind [] (x ∷ front) e t u more h = absurd (let f : [] ≡ front ++ t ∷ u ∷ more = cc in empty_not front f)
  where
    empty_not : (front : List Token) → [] ≡ front ++ t ∷ u ∷ more → ⊥
    empty_not [] h = cc
    empty_not (x ∷ front) h = cc
goes_behind (x ∷ before) [] e t u more h = let f : x ≡ t = cc in (before, ap (λ v. v ∷ before) f)
goes_behind (x ∷ before) (z ∷ front) e t u more h =
    let f : x ≡ z = cc in
    let g : before ++ e ∷ [] ≡ front ++ t ∷ u ∷ more = cc in
    let r = goes_behind before front e t u more g in
    (r.0, ap (λ v. x ∷ v) r.1 ∙ ap (λ v. v ∷ ((front ++ t ∷ []) ++ r.0)) f)

-- ---- the answer

text_moved : (y : Entry) (w : FileTree) (a b : List Token) → a ≡ b → ReadsText y w a [] → ReadsText y w b []
text_moved y w a b q r = let P : List Token → Type 0 = λ v. ReadsText y w v [] in subst P q r

depth_tells : (y : Entry) (before : List Token) (e : Token) (w : FileTree) (o : Option Place) → deep_text w ≡ o → ReadsText y w before [] → TellsText IsSame y before e (by_depth o w)
depth_tells y before e w None q r = (w, refl, r, q)
depth_tells y before e w (Some p) q r = (w, r, q)

longer_tells : (y : Entry) (before : List Token) (e t u : Token) (more front : List Token) → Parts y (before ++ e ∷ []) front (t ∷ u ∷ more) → TellsText IsSame y before e (Err (fault.Syntax t.place))
longer_tells y before e t u more front p =
    let g = goes_behind before front e t u more p.split in
    (λ w r. p.ends t (u ∷ more) refl (g.0, w, text_moved y w before ((front ++ t ∷ []) ++ g.0) g.1 r), (front, t, u ∷ more, p, refl))

rest_tells : (y : Entry) (before : List Token) (e : Token) (o : Option FileTree) (rest front : List Token) → (rest ≡ [] → ⊥) → Parts y (before ++ e ∷ []) front rest → IsTreeOf y front o → TellsText IsSame y before e (by_rest o rest)
rest_tells y before e o [] front n p h = absurd (n refl)
rest_tells y before e (Some w) (t ∷ []) front n p h = depth_tells y before e w (deep_text w) refl (text_moved y w front before (sym (last_same before front e t p.split)) h)
rest_tells y before e None (t ∷ []) front n p h = (λ w r. h w (text_moved y w before front (last_same before front e t p.split) r), (front, t, [], p, refl))
rest_tells y before e (Some w) (t ∷ u ∷ more) front n p h = longer_tells y before e t u more front p
rest_tells y before e None (t ∷ u ∷ more) front n p h = longer_tells y before e t u more front p

pub text_answer : (y : Entry) (before : List Token) (e : Token) → e.what ≡ k.End → TellsText IsSame y before e (parse_of y (before ++ e ∷ []))
text_answer y before e q =
    let tokens = before ++ e ∷ [] in
    let a = exact y tokens in
    rest_tells y before e (run tokens (start_of y)).tree (run tokens (start_of y)).rest a.front (λ h. leaves_some before e (start_of y) q h) a.parts a.tree
