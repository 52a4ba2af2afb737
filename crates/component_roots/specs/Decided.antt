-- Objects of which it doesn't depend on others whether they begin components.
use Rattle.std.specs.Prelude.{◌≡◌, ◌<◌, ℕ, Bool, length, Some}
use Rattle.program_names.specs.Loaded.{Program, unit_at, object_at}
use Rattle.program_names.specs.Components.{Roots, owner}
use Rattle.program_names.specs.ComponentRoots.{root_as}

-- each object is written in one of a lower number
abbrev pub OwnersAreLower : Program → ℕ → Type 0
OwnersAreLower p d = (o w : ℕ) → owner p d o ≡ Some w → w < o

-- whatever is known of the others, of each object of a document it is decided by what it is written as
abbrev pub AreDecided : Program → ℕ → (ℕ → Bool) → Type 0
AreDecided p d decided = (roots : Roots) (o : ℕ) → o < length (unit_at p d).objects →
    root_as p roots d o (object_at p d o).role ≡ Some (decided o)
