use Rattle.std.proofs.Common.{◌≡◌, drop, map}
use Rattle.std.specs.List.{flat_map}
use Rattle.qml_types.specs.Table.{cell_of}
use Rattle.program_tables.specs.Putting.{put_all}
use Rattle.program_tables.specs.BuiltIn.{cell_entries}
use Rattle.program_tables.proofs.built_in.put_cells.Given as goal

abbrev pub invariant-cells : goal.invariant-cells
invariant-cells l = put_all l.names (flat_map cell_entries (map cell_of (drop l.cell-index l.cells))) ≡ put_all l.fn.names (flat_map cell_entries (map cell_of l.cells))
