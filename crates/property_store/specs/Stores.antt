-- The cells of a store, and what becomes of them.
use Rattle.std.specs.Prelude.{◌≡◌, ℕ, suc, ◌<◌, ◌≤◌, true, false, List, [], ◌∷◌, length, Option, Some, None, slice_get}
use Rattle.qml_base.specs.declared.numbers.ObjNo.{ObjNo}
use Rattle.qml_base.specs.declared.numbers.CellNo.{CellNo}
use Rattle.qml_value.specs.declared.value.Value.{Value}
use Rattle.tree_model.specs.declared.cells.Cell.{Cell}
use Rattle.tree_model.specs.declared.cells.NewCell.{NewCell}
use Rattle.tree_model.specs.declared.cells.Content.{Content}
use Rattle.tree_model.specs.declared.cells.Outcome.{Outcome}
use Rattle.tree_model.specs.declared.cells.Outcome.TheVariants as outcome

-- the cell with another content, held value or outcome; another content has no spare
abbrev pub with_content : Cell → Content → Cell
with_content cell content = record { no = cell.no; kind = cell.kind; content = content; held = cell.held; spare = None; outcome = cell.outcome; noted = cell.noted }

abbrev pub with_held : Cell → Value → Option Value → Cell
with_held cell v spare = record { no = cell.no; kind = cell.kind; content = cell.content; held = v; spare = spare; outcome = cell.outcome; noted = cell.noted }

abbrev pub with_outcome : Cell → Outcome → Cell
with_outcome cell o = record { no = cell.no; kind = cell.kind; content = cell.content; held = cell.held; spare = cell.spare; outcome = o; noted = cell.noted }

abbrev pub without_note : Cell → Cell
without_note cell = record { no = cell.no; kind = cell.kind; content = cell.content; held = cell.held; spare = cell.spare; outcome = cell.outcome; noted = false }

-- the cells of a new object, from a place on
abbrev pub new_cell : ObjNo → ℕ → NewCell → Cell
new_cell o place new = record { no = record { object = o; place = place }; kind = new.kind; content = new.content; held = new.held; spare = None; outcome = outcome.Value; noted = false }

abbrev pub new_cells : ObjNo → ℕ → List NewCell → List Cell
new_cells o place [] = []
new_cells o place (new ∷ news) = new_cell o place new ∷ new_cells o (suc place) news

-- the least noted place at or after one, with its cell
abbrev pub NoneNoted : List Cell → ℕ → ℕ → Type 0
NoneNoted cells from to = (i : ℕ) (cell : Cell) → from ≤ i → i < to → slice_get cells i ≡ Some cell → cell.noted ≡ false

abbrev pub IsNextNoted : List Cell → ℕ → Option (ℕ × CellNo) → Type 0
IsNextNoted cells from None = NoneNoted cells from (length cells)
IsNextNoted cells from (Some next) = (from ≤ next.0) × NoneNoted cells from next.0 × ((cell : Cell) × ((slice_get cells next.0 ≡ Some cell) × (cell.noted ≡ true) × (cell.no ≡ next.1)))
