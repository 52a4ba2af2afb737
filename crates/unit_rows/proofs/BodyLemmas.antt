-- The bodies of rows, placed.
use Rattle.std.proofs.Common.{◌≡◌, ◌∙◌, ap, sym, subst, refl, ℕ, zero, suc, ◌<◌, ◌≤◌, ◌+◌, drop, arith, length, slice_get, slice_index_or, Bool as 𝔹, true, false, List, [], ◌∷◌, ◌++◌, map, Option, Some, None, Result, Ok, Err, inl, inr}
use Rattle.qml_syntax.specs.Tree.{Units, Stmt, Stmts, Function, whole_body}
use Rattle.qml_syntax.specs.Nodes.{of_stmt, of_function, of_body, of_step, top_stmt, top_function}
use Rattle.qml_syntax.specs.Tree.{binding}
use Rattle.js_locals.specs.Laid.{Laid, stmts_in}
use Rattle.js_locals.specs.Texts.{StandsAs}
use Rattle.unit_rows.specs.Rows.{of_statement, of_function as of_a_function, of_statements}
use Rattle.unit_rows.specs.declared.body.BodyRow.{BodyRow}
use Rattle.unit_rows.specs.declared.body.BodyRow.TheVariants as row
use Rattle.std.proofs.Math.Seq.{drop-cons}
use Rattle.std.specs.declared.vec.Vec.{Vec}
use Rattle.std.specs.declared.alloc.Global.{Global}
use Rattle.unit_rows.specs.declared.parts.Places.{Places}
use Rattle.unit_rows.specs.declared.bodies.BodiesFault.{BodiesFault}
use Rattle.unit_rows.specs.declared.bodies.BodiesFault.TheVariants as fault
use Rattle.unit_rows.specs.Placed.{body_in, statements_in, HoldsStatement, AreStatementsAt, IsFunctionAt, AreOfFunction, ArePlaces, IsPlaced, AreOfStatement, AreOfAFunction, AreOfStatements, AreFound, Each, IsThere, HavePlaces, Placing, ArePlaced, IsBodyOf}

-- ---- statements

placed_statement : (c : Laid) (at : ℕ) (names : List Units) (d : Stmt) → c.item at ≡ of_stmt d → IsPlaced c (body_in c (row.Statement at names)) at [] None
placed_statement c at names d e =
    subst (λ (z : Stmt). IsPlaced c (of_statement z names) at [] None) (sym (ap (λ j. top_stmt (j ∷ [])) e))
    (record { begins = e; names = refl; behind = tt })

pub statement_places_are : (c : Laid) (at : ℕ) (b : 𝔹) (p : Places) → HoldsStatement (c.item at) b → b ≡ true → p.text ≡ at → p.parameters.items ≡ [] → p.statements ≡ None → AreOfStatement c at (Ok p)
statement_places_are c at true p h t e1 e2 e3 = (
  h,
  λ names.
      subst (λ (z : ℕ). IsPlaced c (body_in c (row.Statement at names)) z p.parameters.items p.statements) (sym e1)
      (subst (λ (z : List ℕ). IsPlaced c (body_in c (row.Statement at names)) at z p.statements) (sym e2)
      (subst (λ (z : Option ℕ). IsPlaced c (body_in c (row.Statement at names)) at [] z) (sym e3)
      (placed_statement c at names h.0 h.1))),
)
statement_places_are c at false p h t e1 e2 e3 = absurd (cc)

pub no_statement_places : (c : Laid) (at : ℕ) (b : 𝔹) → HoldsStatement (c.item at) b → b ≡ false → AreOfStatement c at (Err fault.NotThere)
no_statement_places c at false h t = h
no_statement_places c at true h t = absurd (cc)

-- ---- functions

pub function_places_are : (c : Laid) (at : ℕ) (p : Places) → IsFunctionAt c at (Some p) → AreOfAFunction c at (Ok p)
function_places_are c at p (found, a) =
    (found, subst (λ (z : Function). ArePlaces c (of_a_function z) p) (sym (ap (λ j. top_function (j ∷ [])) found.1)) (a.are found.0 found.1))

pub no_function_places : (c : Laid) (at : ℕ) → IsFunctionAt c at None → AreOfAFunction c at (Err fault.NotThere)
no_function_places c at h = h

-- ---- statements of a body

in_statements : (c : Laid) (at : ℕ) (ss : Stmts) → StandsAs (whole_body ss) (c.item at) → statements_in (c.item at) ≡ ss
in_statements c at ss (inl e) = ap (λ j. statements_in j) e
in_statements c at ss (inr (p, e)) = ap (λ j. statements_in j) e

placed_statements : (c : Laid) (at m : ℕ) → AreStatementsAt c at (Some m) → IsPlaced c (body_in c (row.Statements at)) at [] (Some m)
placed_statements c at m h =
    subst (λ (z : Stmts). IsPlaced c (of_statements z) at [] (Some m)) (sym (in_statements c at (stmts_in (c.rest m)) h))
    (record { begins = h; names = refl; behind = refl })

pub statements_places_are : (c : Laid) (at m : ℕ) (p : Places) → AreStatementsAt c at (Some m) → p.text ≡ at → p.parameters.items ≡ [] → p.statements ≡ Some m → AreOfStatements c at (Ok p)
statements_places_are c at m p h e1 e2 e3 = (
  (stmts_in (c.rest m), h),
  subst (λ (z : ℕ). IsPlaced c (body_in c (row.Statements at)) z p.parameters.items p.statements) (sym e1)
      (subst (λ (z : List ℕ). IsPlaced c (body_in c (row.Statements at)) at z p.statements) (sym e2)
      (subst (λ (z : Option ℕ). IsPlaced c (body_in c (row.Statements at)) at [] z) (sym e3)
      (placed_statements c at m h))),
)

pub no_statements_places : (c : Laid) (at : ℕ) → AreStatementsAt c at None → AreOfStatements c at (Err fault.NotThere)
no_statements_places c at h = h

-- ---- rows, one after another

pub found_statements : (c : Laid) (at : ℕ) (r : BodyRow) (x : Result Places BodiesFault) → r ≡ row.Statements at → AreOfStatements c at x → AreFound c r x
found_statements c at r (Ok p) e h = subst (λ (z : BodyRow). AreFound c z (Ok p)) (sym e) h
found_statements c at r (Err fault.NotThere) e h = subst (λ (z : BodyRow). AreFound c z (Err fault.NotThere)) (sym e) (λ k. h k.0 k.1)
found_statements c at r (Err fault.NoMemory) e h = tt

-- the last of these rows has its places
snoc_places : (c : Laid) (rows : List BodyRow) (places : List Places) (r : BodyRow) (p : Places) → HavePlaces c rows places → ArePlaces c (body_in c r) p → HavePlaces c (rows ++ r ∷ []) (places ++ p ∷ [])
snoc_places c [] [] r p h q = (q, tt)
snoc_places c (x ∷ rows) (y ∷ places) r p h q = (h.0, snoc_places c rows places r p h.1 q)
snoc_places c [] (y ∷ places) r p h q = absurd h
snoc_places c (x ∷ rows) [] r p h q = absurd h

one_more : (done : List BodyRow) (r : BodyRow) (left : List BodyRow) → (done ++ r ∷ []) ++ left ≡ done ++ r ∷ left
one_more [] r left = refl
one_more (x ∷ done) r left = ap (λ z. x ∷ z) (one_more done r left)

pub placing_first : (c : Laid) (all : List BodyRow) (places : List Places) → places ≡ [] → Placing c all places all
placing_first c all places e = subst (λ (z : List Places). Placing c all z all) (sym e)
    (record { done = []; rows = refl; placed = tt; all_there = λ h. h; left_there = λ h. h })

pub placing_on : (c : Laid) (all : List BodyRow) (places new : List Places) (r : BodyRow) (p : Places) (before left : List BodyRow)
    → Placing c all places before → before ≡ r ∷ left → AreFound c r (Ok p) → new ≡ places ++ p ∷ [] → Placing c all new left
placing_on c all places new r p before left h b g e =
    let at : Placing c all places (r ∷ left) = subst (λ (z : List BodyRow). Placing c all places z) b h in
    subst (λ (z : List Places). Placing c all z left) (sym e)
    (record {
      done = at.done ++ r ∷ [];
      rows = one_more at.done r left ∙ at.rows;
      placed = snoc_places c at.done places r p at.placed g.1;
      all_there = λ k. at.all_there (g.0, k);
      left_there = λ k. (at.left_there k).1;
    })

pub placing_stopped : (c : Laid) (all : List BodyRow) (places : List Places) (r : BodyRow) (before left : List BodyRow)
    → Placing c all places before → before ≡ r ∷ left → AreFound c r (Err fault.NotThere) → ArePlaced c all (Err fault.NotThere)
placing_stopped c all places r before left h b g = λ k. g ((subst (λ (z : List BodyRow). Placing c all places z) b h).left_there k).0

-- the row of a number stands in front of those behind it
pub row_in_front : (rows : List BodyRow) (k : ℕ) (r : BodyRow) → k < length rows → r ≡ slice_index_or rows k r → drop k rows ≡ r ∷ drop (k + 1) rows
row_in_front rows k r h e =
    let n : suc k ≡ k + 1 = grind (arith) in
    drop-cons rows k r h ∙ ap (λ (z : BodyRow). z ∷ drop (suc k) rows) (sym e) ∙ ap (λ (z : ℕ). r ∷ drop z rows) n

no_rows : (rows : List BodyRow) → rows ++ [] ≡ rows
no_rows [] = refl
no_rows (r ∷ rows) = ap (λ z. r ∷ z) (no_rows rows)

pub placing_end : (c : Laid) (all : List BodyRow) (places : Vec Places Global) (left : List BodyRow) → Placing c all places.items left → left ≡ [] → ArePlaced c all (Ok places)
placing_end c all places left h e =
    let at : Placing c all places.items [] = subst (λ (z : List BodyRow). Placing c all places.items z) e h in
    (subst (λ (z : List BodyRow). HavePlaces c z places.items) (sym (no_rows at.done) ∙ at.rows) at.placed, at.all_there tt)

-- ---- the body of a number

body_at : (c : Laid) (rows : List BodyRow) (places : List Places) (at : ℕ) (d : Places) → HavePlaces c rows places → at < length places → (r : BodyRow) × (slice_get rows at ≡ Some r) × ArePlaces c (body_in c r) (slice_index_or places at d)
body_at c (r ∷ rows) (p ∷ places) zero d h l = (r, refl, h.0)
body_at c (r ∷ rows) (p ∷ places) (suc at) d h l = body_at c rows places at d h.1 (grind (arith))
body_at c [] [] at d h l = absurd (grind (arith))
body_at c [] (p ∷ places) at d h l = absurd h
body_at c (r ∷ rows) [] at d h l = absurd h

pub body_placed : (c : Laid) (rows : List BodyRow) (places : List Places) (at : ℕ) (p : Places) → HavePlaces c rows places → at < length places → p ≡ slice_index_or places at p
    → (r : BodyRow) × (slice_get rows at ≡ Some r) × ArePlaces c (body_in c r) p
body_placed c rows places at p h l e =
    let found : (r : BodyRow) × (slice_get rows at ≡ Some r) × ArePlaces c (body_in c r) (slice_index_or places at p) = body_at c rows places at p h l in
    (found.0, found.1, subst (λ (z : Places). ArePlaces c (body_in c found.0) z) (sym e) found.2)

pub no_body_there : (c : Laid) (rows : List BodyRow) (places : List Places) (at : ℕ) → HavePlaces c rows places → length places ≤ at → IsBodyOf c rows at None
no_body_there c [] [] at h l = refl
no_body_there c (r ∷ rows) (p ∷ places) zero h l = absurd (grind (arith))
no_body_there c (r ∷ rows) (p ∷ places) (suc at) h l = no_body_there c rows places at h.1 (grind (arith))
no_body_there c [] (p ∷ places) at h l = absurd h
no_body_there c (r ∷ rows) [] at h l = absurd h
