use Rattle.std.proofs.Common.{◌≡◌, ◌++◌, drop, map}
use Rattle.qml_types.specs.Table.{cells_of}
use Rattle.instance_contents.specs.Making.{cell_of_type}
use Rattle.instance_contents.proofs.cells.put_typed.Given as goal

abbrev pub invariant-places : goal.invariant-places
invariant-places l = l.cells.items ++ map (cell_of_type l.tables l.of_type l.x) (drop l.place (cells_of l.of_type)) ≡ l.initial.cells.items ++ map (cell_of_type l.tables l.of_type l.x) (cells_of l.of_type)
