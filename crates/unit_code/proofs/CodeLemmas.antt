-- The texts of units by their numbers.
use Rattle.std.proofs.Common.{◌≡◌, ◌∙◌, ap, sym, subst, refl, ℕ, zero, suc, ◌<◌, ◌≤◌, ◌+◌, Bool as 𝔹, true, false, List, [], ◌∷◌, map, length, slice_get, slice_index_or, Option, Some, None, IfSome, inl, arith}
use Rattle.std.specs.Option.{option_map, option_and_then, unwrap_or}
use Rattle.qml_base.specs.declared.numbers.ExprNo.{ExprNo}
use Rattle.qml_syntax.specs.Tree.{no_stmts}
use Rattle.qml_syntax.specs.Nodes.{Table}
use Rattle.qml_syntax.specs.Places.{part_at}
use Rattle.js_locals.specs.Laid.{laid, name_of, stmts_in}
use Rattle.js_locals.specs.Texts.{StandsAs}
use Rattle.machine_model.specs.Texts.{body_at, code_of}
use Rattle.instance_plans.specs.Numbers.{rows_at}
use Rattle.unit_rows.specs.Rows.{Body, of_statements}
use Rattle.unit_rows.specs.Texts.{function_of, text_of}
use Rattle.unit_rows.specs.Seen.{all_seen}
use Rattle.unit_rows.specs.Placed.{body_in, IsPlaced}
use Rattle.unit_rows.specs.declared.unit.Unit.{Unit}
use Rattle.unit_rows.specs.declared.body.BodyRow.{BodyRow}
use Rattle.unit_code.specs.Code.{placed_in, table_of, text_in, empty_body}

unit_is : (us : List Unit) (n : ℕ) (d : Unit) → n < length us → slice_get us n ≡ Some (slice_index_or us n d)
unit_is (u ∷ us) zero d h = refl
unit_is (u ∷ us) (suc n) d h = unit_is us n d (grind (arith))
unit_is [] n d h = absurd (grind (arith))

pub unit_there : (us : List Unit) (n : ℕ) (u : Unit) → n < length us → u ≡ slice_index_or us n u → slice_get us n ≡ Some u
unit_there us n u h e = unit_is us n u h ∙ sym (ap (λ z. Some z) e)

pub no_unit_there : (us : List Unit) (n : ℕ) → length us ≤ n → slice_get us n ≡ None
no_unit_there [] n h = refl
no_unit_there (u ∷ us) zero h = absurd (grind (arith))
no_unit_there (u ∷ us) (suc n) h = no_unit_there us n (grind (arith))

abbrev body_of : Option (Table × BodyRow) → Body
body_of None = of_statements no_stmts
body_of (Some (t, r)) = body_in (laid t) r

of_rows : (t : Table) (rows : List BodyRow) (at : ℕ) → unwrap_or (slice_get (map (body_in (laid t)) rows) at) (of_statements no_stmts) ≡ body_of (option_map (λ (r : BodyRow). (t, r)) (slice_get rows at))
of_rows t [] at = refl
of_rows t (r ∷ rows) zero = refl
of_rows t (r ∷ rows) (suc at) = of_rows t rows at

body_found : (us : List Unit) (n at : ℕ) → unwrap_or (slice_get (rows_at (all_seen us) n).bodies at) (of_statements no_stmts) ≡ body_of (placed_in us n at)
body_found [] n at = refl
body_found (u ∷ us) zero at = of_rows u.bodies.tree u.bodies.rows at
body_found (u ∷ us) (suc n) at = body_found us n at

pub is_body : (us : List Unit) (e : ExprNo) (t : Table) (r : BodyRow) → placed_in us e.unit.0 e.at ≡ Some (t, r) → body_at (all_seen us) e ≡ body_in (laid t) r
is_body us e t r h = body_found us e.unit.0 e.at ∙ ap body_of h

pub is_no_body : (us : List Unit) (e : ExprNo) → placed_in us e.unit.0 e.at ≡ None → body_at (all_seen us) e ≡ of_statements no_stmts
is_no_body us e h = body_found us e.unit.0 e.at ∙ ap body_of h

is_table : (us : List Unit) (e : ExprNo) (t : Table) (r : BodyRow) → placed_in us e.unit.0 e.at ≡ Some (t, r) → table_of us e ≡ t
is_table us e t r h = ap (λ o. unwrap_or (option_map (λ (p : Table × BodyRow). p.0) o) empty_body) h

is_empty : (us : List Unit) (e : ExprNo) → placed_in us e.unit.0 e.at ≡ None → table_of us e ≡ empty_body
is_empty us e h = ap (λ o. unwrap_or (option_map (λ (p : Table × BodyRow). p.0) o) empty_body) h

pub found_there : (us : List Unit) (n at : ℕ) (u : Unit) (r : BodyRow) → slice_get us n ≡ Some u → slice_get u.bodies.rows at ≡ Some r → placed_in us n at ≡ Some (u.bodies.tree, r)
found_there us n at u r h g =
    ap (λ o. option_and_then (λ (u : Unit). option_map (λ (r : BodyRow). (u.bodies.tree, r)) (slice_get u.bodies.rows at)) o) h
    ∙ ap (λ o. option_map (λ (q : BodyRow). (u.bodies.tree, q)) o) g

pub none_there : (us : List Unit) (n at : ℕ) (u : Unit) → slice_get us n ≡ Some u → slice_get u.bodies.rows at ≡ None → placed_in us n at ≡ None
none_there us n at u h g =
    ap (λ o. option_and_then (λ (u : Unit). option_map (λ (r : BodyRow). (u.bodies.tree, r)) (slice_get u.bodies.rows at)) o) h
    ∙ ap (λ o. option_map (λ (q : BodyRow). (u.bodies.tree, q)) o) g

pub nothing_there : (us : List Unit) (n at : ℕ) → slice_get us n ≡ None → placed_in us n at ≡ None
nothing_there us n at h = ap (λ o. option_and_then (λ (u : Unit). option_map (λ (r : BodyRow). (u.bodies.tree, r)) (slice_get u.bodies.rows at)) o) h

-- ---- what the code answers

placed_there : (us : List Unit) (e : ExprNo) (t : Table) (r : BodyRow) (x : ℕ) (ps : List ℕ) (m : Option ℕ) → placed_in us e.unit.0 e.at ≡ Some (t, r) → IsPlaced (laid t) (body_in (laid t) r) x ps m
    → IsPlaced (laid (table_of us e)) (body_at (all_seen us) e) x ps m
placed_there us e t r x ps m h p =
    subst (λ (z : Table). IsPlaced (laid z) (body_at (all_seen us) e) x ps m) (sym (is_table us e t r h))
    (subst (λ (b : Body). IsPlaced (laid t) b x ps m) (sym (is_body us e t r h)) p)

pub begins_at : (us : List Unit) (e : ExprNo) (t : Table) (r : BodyRow) (x : ℕ) (ps : List ℕ) (m : Option ℕ) → placed_in us e.unit.0 e.at ≡ Some (t, r) → IsPlaced (laid t) (body_in (laid t) r) x ps m
    → StandsAs (text_in us e) (part_at (table_of us e) x)
begins_at us e t r x ps m h p = (placed_there us e t r x ps m h p).begins

pub names_at : (us : List Unit) (e : ExprNo) (t : Table) (r : BodyRow) (x : ℕ) (ps : List ℕ) (m : Option ℕ) → placed_in us e.unit.0 e.at ≡ Some (t, r) → IsPlaced (laid t) (body_in (laid t) r) x ps m
    → map (name_of (laid (table_of us e))) ps ≡ ((code_of (all_seen us)).function e).parameters
names_at us e t r x ps m h p = (placed_there us e t r x ps m h p).names

pub behind_at : (us : List Unit) (e : ExprNo) (t : Table) (r : BodyRow) (x : ℕ) (ps : List ℕ) (m : Option ℕ) → placed_in us e.unit.0 e.at ≡ Some (t, r) → IsPlaced (laid t) (body_in (laid t) r) x ps m
    → IfSome m (λ mark. stmts_in ((laid (table_of us e)).rest mark) ≡ ((code_of (all_seen us)).function e).statements)
behind_at us e t r x ps m h p = (placed_there us e t r x ps m h p).behind

pub begins_empty : (us : List Unit) (e : ExprNo) → placed_in us e.unit.0 e.at ≡ None → StandsAs (text_in us e) (part_at (table_of us e) 1)
begins_empty us e h =
    subst (λ (z : Table). StandsAs (text_in us e) (part_at z 1)) (sym (is_empty us e h))
    (subst (λ (b : Body). StandsAs (text_of b) (part_at empty_body 1)) (sym (is_no_body us e h)) (inl refl))

pub no_names : (us : List Unit) (e : ExprNo) (ps : List ℕ) → placed_in us e.unit.0 e.at ≡ None → ps ≡ []
    → map (name_of (laid (table_of us e))) ps ≡ ((code_of (all_seen us)).function e).parameters
no_names us e ps h z = ap (λ (qs : List ℕ). map (name_of (laid (table_of us e))) qs) z ∙ sym (ap (λ (b : Body). (function_of b).parameters) (is_no_body us e h))

pub table_there : (us : List Unit) (e : ExprNo) (u : Unit) (r : BodyRow) → slice_get us e.unit.0 ≡ Some u → slice_get u.bodies.rows e.at ≡ Some r → u.bodies.tree ≡ table_of us e
table_there us e u r h g = sym (is_table us e u.bodies.tree r (found_there us e.unit.0 e.at u r h g))
