-- Numbers that are kept up to the most that a line may advance.
use Rattle.std.specs.Prelude.{◌≡◌, ℕ, ◌^◌, ◌<◌, ◌≤◌, ◌⊎◌}

-- the number, or any past the most where it is past it
abbrev pub IsCapped : ℕ → ℕ → Type 0
IsCapped n exact = ((n ≡ exact) × (n ≤ 1000000000000)) ⊎ ((1000000000000 < n) × (1000000000000 < exact) × (n < 2 ^ 60))
