use Rattle.std.proofs.Common.{◌∙◌, ◌+◌, ◌++◌, ap, sym, drop}
use Rattle.live_tree.specs.Live.{held_in}
use Rattle.machine_events.specs.Shown.{cells_told}
use Rattle.machine_events.proofs.ShownLemmas.{cell_pushed, cell_in_front}
use Rattle.machine_events.proofs.printing.push_cells.Goals as goal

pub cells-preserved : goal.cells-preserved
cells-preserved c =
    cell_pushed c.args.shapes.now.known c.in_ok-told.told c.cells.trace.items c.push_told.new.trace.items (c.cell-item.result.no, c.cell-item.result.held)
    (held_in (drop (c.cells.cell-index + 1) c.args.cells.now)) _ c.in_ok-told.ensures c.in_ok-push_told.ensures
    (ap (λ cs. c.cells.trace.items ++ cells_told c.args.shapes.now.known (held_in cs)) (sym (cell_in_front c.args.cells.now c.cells.cell-index c.cell-item.result c.cells-test.true c.cell-item.is)) ∙
    c.cells.invariant)
