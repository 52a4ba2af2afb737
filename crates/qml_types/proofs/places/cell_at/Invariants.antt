use Rattle.std.proofs.Common.{◌≡◌, drop, slice_get}
use Rattle.std.specs.List.{flat_map}
use Rattle.qml_types.specs.Table.{cells_of, own_cells}
use Rattle.qml_types.proofs.places.cell_at.Given as goal

abbrev pub invariant-bases : goal.invariant-bases
invariant-bases l = slice_get (flat_map own_cells (drop l.base-index l.base-items)) l.left ≡ slice_get (cells_of l.fn.type_no) l.fn.place
