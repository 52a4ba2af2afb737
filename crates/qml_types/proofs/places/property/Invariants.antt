use Rattle.std.proofs.Common.{◌≡◌, drop}
use Rattle.std.specs.List.{flat_map}
use Rattle.qml_types.specs.Table.{found, cells_of, own_cells}
use Rattle.qml_types.proofs.places.property.Given as goal

abbrev pub invariant-bases : goal.invariant-bases
invariant-bases l = found (flat_map own_cells (drop l.base-index l.base-items)) l.name ≡ found (cells_of l.fn.type_no) l.name
