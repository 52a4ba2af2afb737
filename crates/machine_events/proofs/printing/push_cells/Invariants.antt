use Rattle.std.proofs.Common.{◌≡◌, ◌++◌, drop}
use Rattle.live_tree.specs.Live.{held_in}
use Rattle.machine_events.specs.Shown.{cells_told}
use Rattle.machine_events.proofs.printing.push_cells.Given as goal

abbrev pub invariant-cells : goal.invariant-cells
invariant-cells l = l.trace.items ++ cells_told l.shapes.known (held_in (drop l.cell-index l.cells)) ≡ l.fn.trace.items ++ cells_told l.shapes.known (held_in l.cells)
