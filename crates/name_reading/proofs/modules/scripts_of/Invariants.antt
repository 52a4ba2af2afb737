use Rattle.std.proofs.Common.{◌≡◌, ◌++◌, drop}
use Rattle.document_imports.specs.Imports.{row_values}
use Rattle.read_order.specs.Order.{files_of}
use Rattle.name_reading.specs.NamesRead.{scripts_of}
use Rattle.name_reading.proofs.modules.scripts_of.Given as goal

-- the scripts so far, and those of what is left, are all
abbrev pub invariant-rows : goal.invariant-rows
invariant-rows l = files_of l.scripts.items ++ scripts_of (row_values (drop l.row-index l.rows)) ≡ scripts_of (row_values l.rows)
