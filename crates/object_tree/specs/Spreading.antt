-- Marks that spread over a list of objects.
use Rattle.std.specs.Prelude.{◌≡◌, ℕ, zero, suc, ◌⊎◌, ◌||◌, true, false, List, [], ◌∷◌, ◌++◌, Some, if◌then◌else◌, slice_get, slice_set}
use Rattle.qml_base.specs.declared.numbers.ObjNo.{ObjNo}
use Rattle.tree_model.specs.declared.cells.Object.{Object}
use Rattle.tree_model.specs.Doomed.{is_marked, marked_by}

abbrev pub condemned_one : Object → Object
condemned_one x = record { number = x.number; owner = x.owner; origin = x.origin; condemned = true }

-- it is the one, or what it hangs on is marked
abbrev pub IsNext : ObjNo → List Object → Object → Type 0
IsNext o objects x = (x.number ≡ o) ⊎ ((marked_by objects x.owner || marked_by objects x.origin) ≡ true)

-- one object after another is marked, each because it is the one or hangs on a marked one, and listed
pub data Spreads (o : ObjNo) (objects : List Object) (doomed : List ObjNo) : List Object → List ObjNo → Type 0 where
  no_more : {ys : List Object} {es : List ObjNo} → ys ≡ objects → es ≡ doomed → Spreads o objects doomed ys es
  one_more : {xs ys : List Object} {ds es : List ObjNo} (c : ℕ) (x : Object) → Spreads o objects doomed xs ds → slice_get xs c ≡ Some x → x.condemned ≡ false → IsNext o xs x → ys ≡ slice_set xs c (condemned_one x) → es ≡ ds ++ x.number ∷ [] → Spreads o objects doomed ys es

-- all that hangs on the object is marked
abbrev pub Covers : List Object → ObjNo → Type 0
Covers objects p = (j : ℕ) (y : Object) → slice_get objects j ≡ Some y → (y.owner ≡ Some p) ⊎ (y.origin ≡ Some p) → y.condemned ≡ true

-- all that hangs on a marked object is marked
abbrev pub IsWhole : List Object → Type 0
IsWhole objects = (p : ObjNo) → is_marked objects p ≡ true → Covers objects p

-- how many objects aren't marked
abbrev pub unmarked : List Object → ℕ
unmarked [] = zero
unmarked (x ∷ xs) = if x.condemned then unmarked xs else suc (unmarked xs)

-- the list names marked objects alone, and each
abbrev pub AllMarked : List ObjNo → List Object → Type 0
AllMarked doomed objects = (k : ℕ) (p : ObjNo) → slice_get doomed k ≡ Some p → is_marked objects p ≡ true

pub record IsListed (doomed : List ObjNo) (p : ObjNo) : Type 0 where
  pub place : ℕ
  pub there : slice_get doomed place ≡ Some p

abbrev pub AllListed : List Object → List ObjNo → Type 0
AllListed objects doomed = (p : ObjNo) → is_marked objects p ≡ true → IsListed doomed p
