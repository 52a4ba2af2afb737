-- Names with all that stands under each.
use Rattle.std.specs.Prelude.{◌≡◌, ◌<◌, ℕ, zero, suc, true, if◌then◌else◌, List, [], ◌∷◌, ◌++◌, length, slice_get, Option, Some, None}
use Rattle.std.specs.Str.{bytes_eq}
use Rattle.std.specs.declared.alloc.Global.{Global}
use Rattle.std.specs.declared.vec.Vec.{Vec}
use Rattle.name_table.specs.Named.{under, put}

abbrev pub Names : Type 0
Names = List (List ℕ × ℕ)

abbrev pub items_of : {V : Type 0} → Option (Vec V Global) → List V
items_of None = []
items_of (Some group) = group.items

abbrev pub group_in : {V : Type 0} → List (Vec V Global) → Option ℕ → List V
group_in groups None = []
group_in groups (Some at) = items_of (slice_get groups at)

-- names with the places of their groups, and these
abbrev pub Groups : Type 0 → Type 0
Groups V = Names × List (Vec V Global)

-- all that stands under a name
abbrev pub all_under : {V : Type 0} → Groups V → List ℕ → List V
all_under g name = group_in g.1 (under g.0 name)

-- ---- what is put

abbrev pub IsEmpty : {V : Type 0} → Groups V → Type 0
IsEmpty g = (name : List ℕ) → all_under g name ≡ []

abbrev pub if_same : {V : Type 0} → List ℕ → List ℕ → V → List V
if_same a b value = if bytes_eq a b then value ∷ [] else []

abbrev pub IsPut : {V : Type 0} → List ℕ → V → Groups V → Groups V → Type 0
IsPut name value old new = (other : List ℕ) → all_under new other ≡ all_under old other ++ if_same other name value

-- ---- how it is kept: no two names have one group

pub record AreApart {V : Type 0} (places : Names) (groups : List (Vec V Global)) : Type 0 where
  pub there : (name : List ℕ) (at : ℕ) → under places name ≡ Some at → at < length groups
  pub apart : (a b : List ℕ) (at : ℕ) → under places a ≡ Some at → under places b ≡ Some at → bytes_eq a b ≡ true

abbrev pub IsAdded : {V : Type 0} → ℕ → V → List (Vec V Global) → List (Vec V Global) → Type 0
IsAdded at value [] [] = Unit {0}
IsAdded zero value (x ∷ xs) (y ∷ ys) = (y.items ≡ x.items ++ value ∷ []) × (ys ≡ xs)
IsAdded (suc at) value (x ∷ xs) (y ∷ ys) = (y ≡ x) × IsAdded at value xs ys
IsAdded at value [] (y ∷ ys) = ⊥
IsAdded at value (x ∷ xs) [] = ⊥

pub record AddsFirst {V : Type 0} (name : List ℕ) (value : V) (before after : Names) (old new : List (Vec V Global)) : Type 0 where
  pub group : Vec V Global
  pub alone : group.items ≡ value ∷ []
  pub groups : new ≡ old ++ group ∷ []
  pub places : after ≡ put before name (length old)

-- groups behind the others are nobody's
pub record AddsNone {V : Type 0} (before after : Names) (old new : List (Vec V Global)) : Type 0 where
  pub behind : List (Vec V Global)
  pub groups : new ≡ old ++ behind
  pub places : after ≡ before
