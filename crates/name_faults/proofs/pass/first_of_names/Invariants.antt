use Rattle.std.proofs.Common.{◌≡◌, ◌-◌, length}
use Rattle.program_names.specs.Loaded.{Program}
use Rattle.document_tables.specs.Tables.{TellProgram}
use Rattle.name_faults.specs.Names.{first_found, first_in_document}
use Rattle.name_faults.proofs.pass.first_of_names.Given as goal

-- the first of what is left is the first of all
abbrev pub invariant-documents : goal.invariant-documents
invariant-documents l =
    (p : Program) → TellProgram p l.tables →
    first_found (first_in_document p) l.document (length p - l.document) ≡ first_found (first_in_document p) 0 (length p)
