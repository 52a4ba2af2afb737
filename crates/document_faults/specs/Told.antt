-- The load faults of a document that are told.
use Rattle.std.specs.Prelude.{ℕ, ◌++◌, Option}
use Rattle.program_names.specs.declared.fault.Fault.{Fault}
use Rattle.program_names.specs.Loaded.{Program}
use Rattle.program_names.specs.Components.{Roots}
use Rattle.program_names.specs.ComponentRoots.{roots_of}
use Rattle.load_faults.specs.Faults.{Faults, first_fault}
use Rattle.load_faults.specs.Duplicates.{duplicate_ids}
use Rattle.load_faults.specs.Aliases.{bad_aliases}
use Rattle.load_faults.specs.Properties.{unknown_properties, read_only_values}
use Rattle.name_faults.specs.Names.{faults_by_names}

-- what is given for nothing that the object has, and for what isn't to be given
abbrev pub faults_of_given : Program → Roots → ℕ → Faults
faults_of_given p roots d = unknown_properties p roots d ++ read_only_values p roots d

-- ids that stand twice in a component, names that are used twice, aliases that end at nothing, and these
abbrev pub faults_told : Program → Roots → ℕ → Faults
faults_told p roots d =
    duplicate_ids p roots d ++ (faults_by_names p d ++ (bad_aliases p roots d ++ faults_of_given p roots d))

abbrev pub first_in_document : Program → ℕ → Option Fault
first_in_document p d = first_fault (faults_told p (roots_of p) d)
