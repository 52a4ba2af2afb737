-- The rows of a document's members, object by object.
use Rattle.std.specs.Prelude.{◌≡◌, ℕ, zero, suc, nat_eq, if◌then◌else◌, List, [], ◌∷◌, ◌++◌, length}
use Rattle.std.specs.declared.alloc.Global.{Global}
use Rattle.std.specs.declared.vec.Vec.{Vec}
use Rattle.program_tables.specs.declared.building.UnitRow.{UnitRow}

abbrev pub Numbers : Type 0
Numbers = Vec ℕ Global

-- the numbers of an object's rows, where the first of these rows has the number n
abbrev pub numbers_from : ℕ → ℕ → List UnitRow → List ℕ
numbers_from o n [] = []
numbers_from o n (r ∷ rest) = if nat_eq r.row.object o then n ∷ numbers_from o (suc n) rest else numbers_from o (suc n) rest

-- those of all rows, in the order of writing
abbrev pub numbers_of : ℕ → List UnitRow → List ℕ
numbers_of o rows = numbers_from o 0 rows

-- lists of the numbers for the objects from o on
abbrev pub AreFrom : ℕ → List UnitRow → List Numbers → Type 0
AreFrom o rows [] = Unit {0}
AreFrom o rows (own ∷ lists) = (own.items ≡ numbers_of o rows) × AreFrom (suc o) rows lists

-- one list for each of so many objects
pub record AreByObject (count : ℕ) (rows : List UnitRow) (lists : List Numbers) : Type 0 where
  pub long : length lists ≡ count
  pub are : AreFrom 0 rows lists

-- a number is put behind those of the list at a place, if there is one
abbrev pub IsPut : ℕ → ℕ → List Numbers → List Numbers → Type 0
IsPut at number [] [] = Unit {0}
IsPut zero number (x ∷ xs) (y ∷ ys) = (y.items ≡ x.items ++ number ∷ []) × (ys ≡ xs)
IsPut (suc at) number (x ∷ xs) (y ∷ ys) = (y ≡ x) × IsPut at number xs ys
IsPut at number [] (y ∷ ys) = ⊥
IsPut at number (x ∷ xs) [] = ⊥
