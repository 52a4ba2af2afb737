-- How the tables of a plan are filled.
use Rattle.std.specs.Prelude.{ℕ, suc, List, [], ◌∷◌, ◌++◌}
use Rattle.instance_plans.specs.declared.planned.PlannedInstance.{PlannedInstance}

-- the roots of instances, with places from one on
abbrev pub roots_from : ℕ → List PlannedInstance → List ((ℕ × ℕ) × ℕ)
roots_from k [] = []
roots_from k (s ∷ rest) = ((s.unit, s.root), k) ∷ roots_from (suc k) rest

-- the numbers of the objects of an instance at a place
abbrev pub numbers_of : ℕ → List (ℕ × ℕ) → List ((ℕ × ℕ) × ℕ)
numbers_of k [] = []
numbers_of k (at ∷ rest) = ((k, at.0), at.1) ∷ numbers_of k rest

abbrev pub numbers_from : ℕ → List PlannedInstance → List ((ℕ × ℕ) × ℕ)
numbers_from k [] = []
numbers_from k (s ∷ rest) = numbers_of k s.objects ++ numbers_from (suc k) rest
