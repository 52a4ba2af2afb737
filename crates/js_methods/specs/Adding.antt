-- Texts that grow no heavier than a text may be.
use Rattle.std.specs.Prelude.{◌≡◌, ℕ, ◌+◌, ◌<◌, ◌≤◌, Bool as 𝔹, true, false, List, ◌++◌, length}

-- what stands behind a text where more is added to it, and whether both together are light enough
abbrev pub Adds : List ℕ → List ℕ → List ℕ → 𝔹 → Type 0
Adds before more after true = (after ≡ before ++ more) × (1 + length after ≤ 1048576)
Adds before more after false = 1048576 < 1 + length (before ++ more)
