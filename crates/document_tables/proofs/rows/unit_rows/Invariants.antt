use Rattle.std.proofs.Common.{take}
use Rattle.document_imports.specs.Imports.{row_values}
use Rattle.document_tables.specs.Making.{MakesRows}
use Rattle.document_tables.proofs.rows.unit_rows.Given as goal

abbrev pub invariant-rows : goal.invariant-rows
invariant-rows l = MakesRows l.program l.here (row_values l.imports) l.tree (take l.row-index l.rows) l.made.items
