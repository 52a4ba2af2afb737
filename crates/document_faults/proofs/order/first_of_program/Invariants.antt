use Rattle.std.proofs.Common.{◌≡◌, ◌-◌, length, Some}
use Rattle.program_names.specs.Loaded.{Program}
use Rattle.document_tables.specs.Tables.{TellProgram}
use Rattle.name_faults.specs.Names.{first_found}
use Rattle.program_paths.specs.Paths.{ArePaths}
use Rattle.program_meanings.specs.Made.{AreMeanings}
use Rattle.document_faults.specs.Told.{first_in_document}
use Rattle.document_faults.proofs.order.first_of_program.Given as goal

-- the first of what is left is the first of all
abbrev pub invariant-documents : goal.invariant-documents
invariant-documents l =
    (p : Program) → TellProgram p l.tables → ArePaths l.tables.names.units.items l.tables.documents.items (Some l.paths) →
    AreMeanings l.tables.names.units.items l.tables.documents.items l.paths.ids.items l.meanings →
    first_found (first_in_document p) l.document (length p - l.document) ≡ first_found (first_in_document p) 0 (length p)
