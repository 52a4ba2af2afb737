-- The faults of aliases that end at nothing, row after row.
use Rattle.std.specs.Prelude.{◌≡◌, ℕ, suc, List, [], ◌∷◌, ◌++◌, true, slice_get, Option, Some, None}
use Rattle.std.specs.List.{flat_map}
use Rattle.program_names.specs.Written.{OwnedMember}
use Rattle.program_names.specs.Loaded.{Program, unit_at}
use Rattle.program_names.specs.Components.{Roots}
use Rattle.program_tables.specs.declared.names.UnitNames.{UnitNames}
use Rattle.program_tables.specs.Stands.{is_there}
use Rattle.load_faults.specs.Faults.{Faults}
use Rattle.load_faults.specs.Aliases.{bad_end, bad_alias}
use Rattle.path_ends.specs.declared.aliases.Alias.{Alias}
use Rattle.path_ends.specs.declared.aliases.UnitEnds.{UnitEnds}
use Rattle.path_ends.specs.Said.{known_end}

abbrev pub bad_row : List UnitEnds → ℕ → ℕ → Option Alias → Faults
bad_row known d row None = []
bad_row known d row (Some a) = bad_end a.at (known_end known d row)

-- those of the rows from one on
abbrev pub bad_rows : List UnitEnds → ℕ → ℕ → List (Option Alias) → Faults
bad_rows known d row [] = []
bad_rows known d row (a ∷ rest) = bad_row known d row a ++ bad_rows known d (suc row) rest

-- ---- of a program

-- those of a document's members in the order of writing
abbrev pub bad_written : Program → Roots → ℕ → Faults
bad_written p roots d = flat_map (λ (r : OwnedMember). bad_alias p roots d r.object r.member) (unit_at p d).rows

-- the objects of a document's rows are there
abbrev pub AreThere : Program → List UnitNames → ℕ → Type 0
AreThere p us d = (r : OwnedMember) (k : ℕ) → Path (Option OwnedMember) (slice_get (unit_at p d).rows k) (Some r) → is_there us d r.object ≡ true
