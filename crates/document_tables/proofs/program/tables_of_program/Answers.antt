use Rattle.document_tables.proofs.ProgramLemmas.{tables_told}
use Rattle.document_tables.proofs.program.tables_of_program.Goals as goal

pub returns-in-Ok-file_tables-clause-told : goal.returns-in-Ok-file_tables-clause-told
returns-in-Ok-file_tables-clause-told g c = λ sources h.
    tables_told c.args.program.now sources _ c.tables_of_rows_stand.ensures (c.in-Ok-file_tables.ensures.told sources h)
