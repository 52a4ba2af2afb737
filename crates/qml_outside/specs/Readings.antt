-- The readings of a clock that repeats its last.
use Rattle.std.specs.Prelude.{ℕ, zero, suc, ◌-◌, min, List, [], ◌∷◌, ◌++◌, length, slice_get, unwrap_or}

-- the reading at a place; behind the last it is the last, and where there is none it is 0
abbrev pub reading_at : List ℕ → ℕ → ℕ
reading_at readings k = unwrap_or (slice_get readings (min k (length readings - 1))) 0

-- so many readings, from the first on
abbrev pub first_readings : List ℕ → ℕ → List ℕ
first_readings readings zero = []
first_readings readings (suc k) = first_readings readings k ++ reading_at readings k ∷ []
