-- Which objects are doomed.
use Rattle.std.specs.Prelude.{◌≡◌, ℕ, ◌<◌, ◌⊎◌, ◌||◌, nat_eq, Bool, true, false, List, [], ◌∷◌, ◌++◌, Option, Some, None, if◌then◌else◌}
use Rattle.qml_base.specs.declared.numbers.ObjNo.{ObjNo}
use Rattle.tree_model.specs.declared.cells.Object.{Object}

-- the object is one of these
pub data Stands (x : Object) : List Object → Type 0 where
  here : {rest : List Object} → Stands x (x ∷ rest)
  later : {other : Object} {rest : List Object} → Stands x rest → Stands x (other ∷ rest)

-- the least set that holds the objects of a beginning, all that a member owns, and all that were made from one
pub data Doomed (objects : List Object) (begins : Object → Type 0) : Object → Type 0 where
  first : {x : Object} → Stands x objects → begins x → Doomed objects begins x
  owned : {x p : Object} → Doomed objects begins p → Stands x objects → x.owner ≡ Some p.number → Doomed objects begins x
  made : {x p : Object} → Doomed objects begins p → Stands x objects → x.origin ≡ Some p.number → Doomed objects begins x

-- a set of objects that holds those of the beginning, and with an object all that it owns and all that was made from it
pub record IsClosedUnder (objects : List Object) (begins : Object → Type 0) (held : Object → Bool) : Type 0 where
  pub first : (x : Object) → Stands x objects → begins x → held x ≡ true
  pub owned : (x p : Object) → held p ≡ true → Stands x objects → x.owner ≡ Some p.number → held x ≡ true
  pub made : (x p : Object) → held p ≡ true → Stands x objects → x.origin ≡ Some p.number → held x ≡ true

-- what is condemned already, and the object that is to be
abbrev pub Begins : ObjNo → Object → Type 0
Begins o x = (x.condemned ≡ true) ⊎ (x.number ≡ o)

-- ---- one walk in the order of numbers
abbrev pub is_marked : List Object → ObjNo → Bool
is_marked [] p = false
is_marked (x ∷ xs) p = if nat_eq x.number.0 p.0 then x.condemned else is_marked xs p

abbrev pub marked_by : List Object → Option ObjNo → Bool
marked_by before None = false
marked_by before (Some p) = is_marked before p

-- an object is marked where it was, where it is the one, or where its owner or origin was marked before it
abbrev pub marked : ObjNo → List Object → Object → Bool
marked o before x = x.condemned || (nat_eq x.number.0 o.0 || (marked_by before x.owner || marked_by before x.origin))

abbrev pub mark : ObjNo → List Object → Object → Object
mark o before x = record { number = x.number; owner = x.owner; origin = x.origin; condemned = marked o before x }

abbrev pub marked_from : ObjNo → List Object → List Object → List Object
marked_from o before [] = before
marked_from o before (x ∷ xs) = marked_from o (before ++ mark o before x ∷ []) xs

-- numbers ascend from n on, and owners and origins have lower numbers
abbrev pub IsBelow : Option ObjNo → ℕ → Type 0
IsBelow None n = Unit {0}
IsBelow (Some p) n = p.0 < n

abbrev pub IsOrdered : ℕ → List Object → Type 0
IsOrdered n [] = Unit {0}
IsOrdered n (x ∷ xs) = (n < x.number.0) × IsBelow x.owner x.number.0 × IsBelow x.origin x.number.0 × IsOrdered x.number.0 xs
