-- Parts of expressions that hold no expression, or end in a bracket.
use Rattle.std.proofs.Common.{◌≡◌, ℕ, ◌≤◌, Bool, true, false, not, ◌||◌, List, [], ◌∷◌, Some, None, refl, ap, ◌∙◌, arith, suc, eq-eqb}
use Rattle.std.specs.Prelude.{if◌then◌else◌, ◌==◌}
use Rattle.qml_base.specs.declared.numbers.Place.{Place}
use Rattle.qml_syntax.specs.declared.token.TokenKind.TheVariants as k
use Rattle.qml_syntax.specs.declared.mark.Mark.TheVariants as m
use Rattle.qml_syntax.specs.declared.token.Token.{Token}
use Rattle.qml_syntax.specs.declared.operators.Prefix.{Prefix}
use Rattle.qml_syntax.specs.Spelling.{operator_mark}
use Rattle.qml_syntax.specs.Tree.{Units, Expr, list, fields, no_exprs, an_expr, no_fields, a_field, Step, Signs, no_signs, Links}
use Rattle.qml_syntax.specs.Levels.{is_bump, signs_fit, is_open, last_open, Reached, tightness}
use Rattle.qml_syntax.specs.Ends.{a_token, Sees, seen, last_of, goes_on}
use Rattle.qml_syntax.specs.Reads.{ReadsSigns, g_none, g_more, ReadsLinks, l_none, l_more, ReadsStep, p_member, p_element, p_call, p_binding, Trails, no_comma, a_comma}
use Rattle.js_machine.specs.Frames.{Field, exprs_onto, fields_onto, signed_onto, stepped, Frame, in_items, in_field, in_args, in_element, in_sign, Frames, State, need, have, at_key}
use Rattle.js_machine.specs.Machine.{dot, calls, indexes, shuts, comma, brace, joins, role_of, takes, closed_at, with_comma, on_need, on_key, on_role, step, Outcome, go}
use Rattle.js_machine.proofs.Tokens.{both_true, not_true, operator_role, dot_stays, bracket_stays, comma_stays, brace_stays, ends_no}
use Rattle.js_machine.proofs.Collapse.{Ends, ends_kind, more_ends, then_go, have_step, have_role, open_stepped}
use Rattle.js_machine.proofs.Places.{need_sign}

-- prefixes go on with the frame of the first
pub signs_go : {ss : Signs} {b c : List Token} → ReadsSigns ss b c → (target : Bool) (back : List (Prefix × Place)) (h : Prefix) (p : Place) (fs : Frames) → signs_fit h ss target ≡ true → (out : Outcome) → ((back' : List (Prefix × Place)) (h' : Prefix) (p' : Place) → ((e : Expr) → signed_onto back' h' p' no_signs e ≡ signed_onto back h p ss e) → (not (is_bump h') || target) ≡ true → go c (need (in_sign back' h' p' ∷ fs)) ≡ out) → go b (need (in_sign back h p ∷ fs)) ≡ out
signs_go g_none target back h p fs fit out final = final back h p (λ e. refl) fit
signs_go (g_more {g = i} {ss = ss} (a_token {t = t} {rest = rest} q) more) target back h p fs fit out final =
    let d = both_true (not (is_bump h)) (signs_fit i ss target) fit in
    let loose : is_bump h ≡ false = not_true (is_bump h) d.0 in
    let one = then_go (need (in_sign back h p ∷ fs)) t rest (need (in_sign ((h, p) ∷ back) i t.place ∷ fs)) (ap (on_need (in_sign back h p ∷ fs) t.place) q ∙ need_sign (in_sign back h p ∷ fs) t.place i ∙ ap (λ (v : Bool). if v then None else Some (need (in_sign ((h, p) ∷ back) i t.place ∷ fs))) loose) in
    one ∙ signs_go more target ((h, p) ∷ back) i t.place fs d.1 out final

-- what comes behind an operand of a chain
pub links_ends : {n : ℕ} {ls : Links} {f rest : List Token} → ReadsLinks n ls f rest → (ready : Bool) (j : ℕ) → suc n ≤ j → Ends rest n (last_open ready ls) → Ends f j ready
links_ends (l_none {n = n} {rest = rest}) ready j h x = more_ends rest n j ready (omega arith) x
links_ends (l_more {op = op} v (a_token {t = t} q) r w more) ready j h x = ends_kind t (k.Mark (operator_mark op)) (joins op) j ready q (operator_role op) (omega arith)

-- what comes behind an expression with a step
pub step_ends : {q : Reached} {s : Step} {b c : List Token} → ReadsStep q s b c → (n : ℕ) (ready : Bool) → 16 ≤ n → Ends b n ready
step_ends (p_member (seen {t = t} q) d) n ready h = ends_kind t (k.Mark m.Dot) dot n ready q refl h
step_ends (p_element (a_token {t = t} q) r s) n ready h = ends_kind t (k.Mark m.LeftBracket) indexes n ready q refl h
step_ends (p_call (a_token {t = t} q) r s) n ready h = ends_kind t (k.Mark m.LeftParen) calls n ready q refl h
step_ends (p_binding (seen {t = t} q) a b c d e f g) n ready h = ends_kind t (k.Mark m.LeftParen) calls n ready q refl h

primary_test : (e : Expr) → tightness e ≡ 16 → (tightness e == 16) ≡ true
primary_test e h = eq-eqb (tightness e) 16 h

-- the first token of a step
pub then_dot : (e : Expr) (back : List Step) (fs : Frames) (t : Token) (next : State) → tightness e ≡ 16 → t.what ≡ k.Mark m.Dot → on_role e back fs t dot ≡ (if tightness e == 16 then Some next else None) → step (have e back fs) t ≡ Some next
then_dot e back fs t next h q f = have_step e back fs t (k.Mark m.Dot) dot q dot_stays refl ∙ f ∙ ap (λ (v : Bool). if v then Some next else None) (primary_test e h)

pub then_paren : (e : Expr) (back : List Step) (fs : Frames) (t : Token) → tightness e ≡ 16 → t.what ≡ k.Mark m.LeftParen → step (have e back fs) t ≡ Some (need (in_args e back t.place [] ∷ fs))
then_paren e back fs t h q =
    let x = ends_no (last_of (is_open (stepped e back))) t (k.Mark m.LeftParen) q (ap (λ (v : Bool). goes_on (last_of v) (k.Mark m.LeftParen)) (open_stepped e back h)) in
    have_role e back fs t calls x (ap role_of q) ∙ ap (λ (v : Bool). if v then Some (need (in_args e back t.place [] ∷ fs)) else None) (primary_test e h)

pub then_bracket : (e : Expr) (back : List Step) (fs : Frames) (t : Token) → tightness e ≡ 16 → t.what ≡ k.Mark m.LeftBracket → step (have e back fs) t ≡ Some (need (in_element e back t.place ∷ fs))
then_bracket e back fs t h q =
    let x = ends_no (last_of (is_open (stepped e back))) t (k.Mark m.LeftBracket) q (ap (λ (v : Bool). goes_on (last_of v) (k.Mark m.LeftBracket)) (open_stepped e back h)) in
    have_role e back fs t indexes x (ap role_of q) ∙ ap (λ (v : Bool). if v then Some (need (in_element e back t.place ∷ fs)) else None) (primary_test e h)

-- ---- frames of expressions with commas

pub record Holds (wrap : List Expr → Frame) : Type 0 where
  pub room : (back : List Expr) (fs : Frames) (n : ℕ) → takes (wrap back ∷ fs) n ≡ true
  pub next : (e : Expr) (back : List Expr) (fs : Frames) → with_comma (closed_at (wrap back ∷ fs) 0 e) ≡ Some (need (wrap (e ∷ back) ∷ fs))

pub items : (p : Place) → Holds (in_items p)
items p = record { room = λ back fs n. refl; next = λ e back fs. refl }

pub args : (e : Expr) (ss : List Step) (p : Place) → Holds (in_args e ss p)
args e ss p = record { room = λ back fs n. refl; next = λ d back fs. refl }

-- ---- the end of a list

abbrev pub EndsAny : List Token → Type 0
EndsAny c = (n : ℕ) (ready : Bool) → Ends c n ready

pub list_any : {c s : Bool} {a b rest : List Token} → Trails c s a b → Sees (k.Mark m.RightBracket) b rest → EndsAny a
list_any no_comma (seen {t = t} q) n ready = ends_kind t (k.Mark m.RightBracket) shuts n ready q refl tt
list_any (a_comma h (seen {t = t} q)) w n ready = ends_kind t (k.Mark m.Comma) comma n ready q refl tt

pub list_none : {c : Bool} {a b rest : List Token} → Trails c false a b → Sees (k.Mark m.RightBracket) b rest → (p : Place) (fs : Frames) → go a (need (in_items p [] ∷ fs)) ≡ go rest (have (list p no_exprs c) [] fs)
list_none no_comma (seen {t = t} {rest = rest} q) p fs = then_go (need (in_items p [] ∷ fs)) t rest (have (list p no_exprs false) [] fs) (ap (on_need (in_items p [] ∷ fs) t.place) q)
list_none (a_comma h s) w p fs = cc

pub list_some : {c s : Bool} {a b rest : List Token} → Trails c s a b → Sees (k.Mark m.RightBracket) b rest → (p : Place) (back : List Expr) (d : Expr) (fs : Frames) → go a (have d [] (in_items p back ∷ fs)) ≡ go rest (have (list p (exprs_onto back (an_expr d no_exprs)) c) [] fs)
list_some no_comma (seen {t = t} {rest = rest} q) p back d fs = then_go (have d [] (in_items p back ∷ fs)) t rest (have (list p (exprs_onto (d ∷ back) no_exprs) false) [] fs) (have_step d [] (in_items p back ∷ fs) t (k.Mark m.RightBracket) shuts q bracket_stays refl)
list_some (a_comma h (seen {t = t} {rest = b} w)) (seen {t = u} {rest = rest} q) p back d fs =
    let one = then_go (have d [] (in_items p back ∷ fs)) t b (need (in_items p (d ∷ back) ∷ fs)) (have_step d [] (in_items p back ∷ fs) t (k.Mark m.Comma) comma w comma_stays refl) in
    one ∙ then_go (need (in_items p (d ∷ back) ∷ fs)) u rest (have (list p (exprs_onto (d ∷ back) no_exprs) true) [] fs) (ap (on_need (in_items p (d ∷ back) ∷ fs) u.place) q)

-- ---- the end of fields

pub fields_any : {c s : Bool} {a b rest : List Token} → Trails c s a b → Sees (k.Mark m.RightBrace) b rest → EndsAny a
fields_any no_comma (seen {t = t} q) n ready = ends_kind t (k.Mark m.RightBrace) brace n ready q refl tt
fields_any (a_comma h (seen {t = t} q)) w n ready = ends_kind t (k.Mark m.Comma) comma n ready q refl tt

pub fields_none : {c : Bool} {a b rest : List Token} → Trails c false a b → Sees (k.Mark m.RightBrace) b rest → (p : Place) (fs : Frames) → go a (at_key p [] fs) ≡ go rest (have (fields p no_fields c) [] fs)
fields_none no_comma (seen {t = t} {rest = rest} q) p fs = then_go (at_key p [] fs) t rest (have (fields p no_fields false) [] fs) (ap (on_key p [] fs t.place) q)
fields_none (a_comma h s) w p fs = cc

pub fields_some : {c s : Bool} {a b rest : List Token} → Trails c s a b → Sees (k.Mark m.RightBrace) b rest → (p : Place) (back : List Field) (y : Bool) (n : Units) (r : Place) (d : Expr) (fs : Frames) → go a (have d [] (in_field p back y n r ∷ fs)) ≡ go rest (have (fields p (fields_onto back (a_field y n r d no_fields)) c) [] fs)
fields_some no_comma (seen {t = t} {rest = rest} q) p back y n r d fs = then_go (have d [] (in_field p back y n r ∷ fs)) t rest (have (fields p (fields_onto ((y, n, r, d) ∷ back) no_fields) false) [] fs) (have_step d [] (in_field p back y n r ∷ fs) t (k.Mark m.RightBrace) brace q brace_stays refl)
fields_some (a_comma h (seen {t = t} {rest = b} w)) (seen {t = u} {rest = rest} q) p back y n r d fs =
    let one = then_go (have d [] (in_field p back y n r ∷ fs)) t b (at_key p ((y, n, r, d) ∷ back) fs) (have_step d [] (in_field p back y n r ∷ fs) t (k.Mark m.Comma) comma w comma_stays refl) in
    one ∙ then_go (at_key p ((y, n, r, d) ∷ back) fs) u rest (have (fields p (fields_onto ((y, n, r, d) ∷ back) no_fields) true) [] fs) (ap (on_key p ((y, n, r, d) ∷ back) fs u.place) q)
