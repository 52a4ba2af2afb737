-- What a body sees of a tree.
use Rattle.std.proofs.Common.{◌≡◌, ◌∙◌, ap, sym, refl, ℕ, suc, zero, ◌<◌, nat_eq, Bool, true, false, ◌&&◌, ◌||◌, if◌then◌else◌, List, [], ◌∷◌, length, slice_get, Option, Some, None, arith}
use Rattle.std.specs.List.{list_any}
use Rattle.std.specs.List.Sorted.{IsPermutation}
use Rattle.std.proofs.lemmas.List.Sorted.{list_any-IsPermutation}
use Rattle.qml_base.specs.declared.numbers.CellNo.{CellNo}
use Rattle.qml_base.specs.declared.numbers.ObjNo.{ObjNo}
use Rattle.qml_value.specs.declared.value.Value.{Value, Undefined}
use Rattle.evaluation.specs.Evaluating.{is}
use Rattle.tree_model.specs.declared.cells.Cell.{Cell}
use Rattle.tree_model.specs.declared.cells.Object.{Object}
use Rattle.tree_model.specs.Removing.{doomed_of}
use Rattle.tree_model.specs.Settling.{Tree, place_of, held_in, held_at}
use Rattle.live_tree.specs.Live.{HasCell}
use Rattle.live_bodies.specs.Seeing.{held_or, is_number, is_condemned_one}

-- ---- what cells hold

cell_below : (cells : List Cell) (i : ℕ) → i < length cells → (cell : Cell) × (slice_get cells i ≡ Some cell)
cell_below [] i h = absurd (omega arith)
cell_below (x ∷ xs) zero h = (x, refl)
cell_below (x ∷ xs) (suc i) h = cell_below xs i (omega arith)

none_above : (cells : List Cell) (i : ℕ) → (i < length cells → ⊥) → slice_get cells i ≡ None
none_above [] i h = refl
none_above (x ∷ xs) zero h = absurd (h (omega arith))
none_above (x ∷ xs) (suc i) h = none_above xs i (λ l. h (omega arith))

pub held_is : (tree : Tree) (c : CellNo) (d v : Value) → HasCell tree c →
    ((cell : Cell) → slice_get tree.cells (place_of tree.cells c) ≡ Some cell → v ≡ cell.held) → v ≡ held_or d (slice_get tree.cells (place_of tree.cells c))
held_is tree c d v here h =
    let found = cell_below tree.cells (place_of tree.cells c) here in
    h found.0 found.1 ∙ ap (λ o. held_or d o) (sym found.1)

pub nothing_held : (tree : Tree) (c : CellNo) (d : Value) → (HasCell tree c → ⊥) → d ≡ held_or d (slice_get tree.cells (place_of tree.cells c))
nothing_held tree c d h = ap (λ o. held_or d o) (sym (none_above tree.cells (place_of tree.cells c) h))

undefined_held : (o : Option Cell) → held_or Undefined o ≡ held_in o
undefined_held None = refl
undefined_held (Some cell) = refl

pub shown_as : (cells : List Cell) (c : CellNo) (d : Value) → d ≡ Undefined → held_or d (slice_get cells (place_of cells c)) ≡ held_at cells (place_of cells c)
shown_as cells c d e = ap (λ v. held_or v (slice_get cells (place_of cells c))) e ∙ undefined_held (slice_get cells (place_of cells c))

-- ---- objects that are condemned

one_more : (o n : ObjNo) (c : Bool) (ds : List ObjNo) (rest : Bool) → list_any (is_number o) ds ≡ rest
    → list_any (is_number o) (if c then n ∷ ds else ds) ≡ ((nat_eq n.0 o.0 && c) || rest)
one_more o n true ds rest h = by_test (nat_eq n.0 o.0)
  where
    by_test : (b : Bool) → (b || list_any (is_number o) ds) ≡ ((b && true) || rest)
    by_test true = refl
    by_test false = h
one_more o n false ds rest h = by_test (nat_eq n.0 o.0)
  where
    by_test : (b : Bool) → list_any (is_number o) ds ≡ ((b && false) || rest)
    by_test true = h
    by_test false = h

listed : (o : ObjNo) (xs : List Object) → list_any (is_number o) (doomed_of xs) ≡ list_any (is_condemned_one o) xs
listed o [] = refl
listed o (x ∷ xs) = one_more o x.number x.condemned (doomed_of xs) (list_any (is_condemned_one o) xs) (listed o xs)

pub condemned_is : (xs : List Object) (ds : List ObjNo) (o : ObjNo) (b : Bool) → IsPermutation ds (doomed_of xs)
    → b ≡ list_any (is_number o) ds → b ≡ list_any (is_condemned_one o) xs
condemned_is xs ds o b moved there = there ∙ list_any-IsPermutation (is_number o) ds (doomed_of xs) moved ∙ listed o xs
