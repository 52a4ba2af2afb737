-- What contracts see of a tree of objects, and what it keeps of them for itself.
use Rattle.std.specs.Prelude.{◌≡◌, ℕ, ◌+◌, ◌-◌, ◌<◌, ◌≤◌, ◌^◌, ◌⊎◌, Bool, true, false, nat_eq, List, [], ◌∷◌, ◌++◌, length, Option, Some, None, Result, Ok, Err, if◌then◌else◌, slice_get, slice_index}
use Rattle.qml_base.specs.declared.numbers.ObjNo.{ObjNo}
use Rattle.tree_model.specs.declared.cells.Object.{Object}
use Rattle.tree_model.specs.Doomed.{is_marked}
use Rattle.object_tree.specs.declared.tree.AddFault.{AddFault}
use Rattle.object_tree.specs.declared.tree.AddFault.TheVariants as fault

-- the live objects in the order of their numbers, how many numbers were given, and the condemned as they are listed
pub record Objects : Type 0 where
  pub objects : List Object
  pub given : ℕ
  pub listed : List ObjNo

-- the live object of a number
abbrev pub found : List Object → ObjNo → Option Object
found [] o = None
found (x ∷ xs) o = if nat_eq x.number.0 o.0 then Some x else found xs o

abbrev pub owner_of : Option Object → Option ObjNo
owner_of None = None
owner_of (Some x) = x.owner

abbrev pub is_there : Option Object → Bool
is_there None = false
is_there (Some x) = true

-- the objects but that of a number
abbrev pub objects_but : ObjNo → List Object → List Object
objects_but o [] = []
objects_but o (x ∷ xs) = if nat_eq x.number.0 o.0 then objects_but o xs else x ∷ objects_but o xs

-- an owner or an origin is a live object that isn't condemned
abbrev pub MayOwn : List Object → Option ObjNo → Type 0
MayOwn objects None = Unit {0}
MayOwn objects (Some p) = (is_there (found objects p) ≡ true) × (is_marked objects p ≡ false)

abbrev pub IsFull : List Object → ℕ → Type 0
IsFull objects given = (100000 ≤ length objects) ⊎ (2 ^ 32 ≤ 1 + given)

-- what an addition answers, and what the tree is then
abbrev pub Adds : Option ObjNo → Option ObjNo → Objects → Result ObjNo AddFault → Objects → Type 0
Adds owner origin old (Ok o) new =
    (o.0 ≡ old.given + 1) × (new.given ≡ old.given + 1) × (length old.objects < 100000) × (1 + old.given < 2 ^ 32)
    × (new.objects ≡ old.objects ++ record { number = o; owner = owner; origin = origin; condemned = false } ∷ [])
Adds owner origin old (Err (fault.Full live)) new = (new ≡ old) × (live ≡ length old.objects) × IsFull old.objects old.given
Adds owner origin old (Err fault.NoMemory) new = (new ≡ old) × (length old.objects < 100000) × (1 + old.given < 2 ^ 32)

-- ---- how they lie
-- the table says where the object of each number stands
abbrev pub IsAt : List ℕ → List Object → Type 0
IsAt places objects = (i : ℕ) (x : Object) → slice_get objects i ≡ Some x → slice_index places (x.number.0 - 1) ≡ i

abbrev pub AllUpTo : ℕ → List Object → Type 0
AllUpTo n [] = Unit {0}
AllUpTo n (x ∷ xs) = (x.number.0 ≤ n) × AllUpTo n xs
