use Rattle.std.proofs.Common.{◌≡◌, map, drop}
use Rattle.qml_types.specs.Table.{found, cell_of}
use Rattle.qml_types.proofs.places.found_in.Given as goal

abbrev pub invariant-cells : goal.invariant-cells
invariant-cells l = found (map cell_of (drop l.cell-index l.cells)) l.name ≡ found (map cell_of l.cells) l.name
