use Rattle.std.proofs.Common.{arith}
use Rattle.tree_settling.proofs.TakingLemmas.{begun_end}
use Rattle.tree_settling.proofs.sweeps.begin.Goals as goal

pub returns-clause-begun : goal.returns-clause-begun
returns-clause-begun c = begun_end c.args.objects.now.objects c.args.cells.now c.loop-cell.cell-index c.loop-cell.table.items (omega arith) c.loop-cell.invariant.begun
