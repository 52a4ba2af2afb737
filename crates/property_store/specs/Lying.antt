-- How cells lie in one list, and the table that tells where those of each object begin.
use Rattle.std.specs.Prelude.{◌≡◌, ℕ, suc, ◌+◌, ◌<◌, ◌&&◌, ◌||◌, nat_eq, nat_lt, Bool, true, List, [], ◌∷◌, Some, map, length, slice_get, slice_index}
use Rattle.qml_base.specs.declared.numbers.CellNo.{CellNo}
use Rattle.tree_model.specs.declared.cells.Cell.{Cell}

abbrev pub place_by : List ℕ → CellNo → ℕ
place_by starts c = slice_index starts c.object.0 + c.place

-- the table says of each cell where it stands
abbrev pub IsPlaced : List ℕ → List Cell → Type 0
IsPlaced starts cells = (i : ℕ) (cell : Cell) → slice_get cells i ≡ Some cell → place_by starts cell.no ≡ i

-- behind the cell at the place before n of object o the next one is at place n of it, or the first of a later object
abbrev pub follows : ℕ → ℕ → CellNo → Bool
follows o n c = (nat_eq c.object.0 o && nat_eq c.place n) || (nat_lt o c.object.0 && nat_eq c.place 0)

abbrev pub in_order : ℕ → ℕ → List CellNo → Bool
in_order o n [] = true
in_order o n (c ∷ cs) = follows o n c && in_order c.object.0 (suc c.place) cs

-- all cells are of objects of lower numbers
abbrev pub AllBelow : ℕ → List CellNo → Type 0
AllBelow n [] = Unit {0}
AllBelow n (c ∷ cs) = (c.object.0 < n) × AllBelow n cs

abbrev pub numbers_of : List Cell → List CellNo
numbers_of cells = map (λ cell. cell.no) cells

pub record IsKept (starts : List ℕ) (cells : List Cell) : Type 0 where
  pub placed : IsPlaced starts cells
  pub ordered : in_order 0 0 (numbers_of cells) ≡ true
  pub below : AllBelow (length starts) (numbers_of cells)
