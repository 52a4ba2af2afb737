use Rattle.program_tables.proofs.PutLemmas.{cells_go_on}
use Rattle.program_tables.proofs.built_in.put_cells.Goals as goal

pub cells-preserved : goal.cells-preserved
cells-preserved c =
    cells_go_on c.args.cells.now c.cells.cell-index _ c.cells.names c.put_cell.new.names _ c.cells-test.true c.in_ok-put_cell.ensures c.cells.invariant
