use Rattle.std.proofs.Common.{◌≡◌, ◌++◌, drop, map}
use Rattle.std.specs.List.{flat_map}
use Rattle.qml_types.specs.Table.{cell_of}
use Rattle.type_rows.specs.Rows.{rows_of_cell}
use Rattle.type_rows.proofs.rows.put_cells.Given as goal

abbrev pub invariant-cells : goal.invariant-cells
invariant-cells l = l.rows ++ flat_map rows_of_cell (map cell_of (drop l.cell-index l.shown)) ≡ l.initial.rows ++ flat_map rows_of_cell (map cell_of l.shown)
