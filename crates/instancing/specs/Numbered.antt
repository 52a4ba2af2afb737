-- The numbers of planned objects, and their owners.
use Rattle.std.specs.Prelude.{◌≡◌, ◌≤◌, ◌<◌, ◌⊎◌, ℕ, suc, List, [], ◌∷◌, Option, Some}
use Rattle.instance_plans.specs.declared.planned.Planned.{Planned}

-- they count up from a number on
abbrev pub AreNumbered : ℕ → List Planned → Type 0
AreNumbered n [] = Unit {0}
AreNumbered n (x ∷ rest) = (x.number ≡ n) × AreNumbered (suc n) rest

-- the owner is that of the whole plan, or one of the plan's objects before
abbrev pub IsOwned : ℕ → Option ℕ → Planned → Type 0
IsOwned first owner x = (x.owner ≡ owner) ⊎ ((n : ℕ) → x.owner ≡ Some n → (first ≤ n) × (n < x.number))

abbrev pub AreOwned : ℕ → Option ℕ → List Planned → Type 0
AreOwned first owner [] = Unit {0}
AreOwned first owner (x ∷ rest) = IsOwned first owner x × AreOwned first owner rest
