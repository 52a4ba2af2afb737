use Rattle.std.proofs.Common.{◌≡◌, drop}
use Rattle.document_imports.specs.Imports.{row_values}
use Rattle.name_reading.specs.NamesRead.{module_fault}
use Rattle.name_reading.proofs.modules.module_fault.Given as goal

-- what is left has the first fault of all
abbrev pub invariant-rows : goal.invariant-rows
invariant-rows l = module_fault (row_values (drop l.row-index l.rows)) ≡ module_fault (row_values l.rows)
