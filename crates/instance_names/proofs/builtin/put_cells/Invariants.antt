use Rattle.std.proofs.Common.{◌≡◌, drop, map}
use Rattle.std.specs.List.{flat_map}
use Rattle.qml_types.specs.Table.{cell_of}
use Rattle.instance_names.specs.Names.{each_put, pairs_of_cell}
use Rattle.instance_names.proofs.builtin.put_cells.Given as goal

abbrev pub invariant-cells : goal.invariant-cells
invariant-cells l = each_put l.names (flat_map (pairs_of_cell l.number) (map cell_of (drop l.cell-index l.shown))) ≡ each_put l.initial.names (flat_map (pairs_of_cell l.number) (map cell_of l.shown))
