-- What is found in a program.
use Rattle.std.specs.Prelude.{◌≡◌, length}
use Rattle.program_names.specs.Loaded.{Program}
use Rattle.name_faults.specs.Names.{first_found}
use Rattle.document_faults.specs.declared.files.Found as code
use Rattle.document_faults.specs.declared.files.Found.TheVariants as found
use Rattle.document_faults.specs.Told.{first_in_document}

-- the first fault of its documents in reading order; nothing is said where it isn't decided
abbrev pub IsFound : Program → code.Found → Type 0
IsFound p found.Undecided = Unit {0}
IsFound p (found.First x) = x ≡ first_found (first_in_document p) 0 (length p)
