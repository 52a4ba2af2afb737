use Rattle.std.proofs.Common.{◌≡◌, ◌++◌, drop, length}
use Rattle.instance_contents.specs.Making.{declared_from}
use Rattle.instance_contents.proofs.cells.put_declared.Given as goal

abbrev pub invariant-rows : goal.invariant-rows
invariant-rows l = l.cells.items ++ declared_from l.tables l.number (length l.cells.items) (drop l.row-index l.rows) ≡ l.initial.cells.items ++ declared_from l.tables l.number (length l.initial.cells.items) l.rows
