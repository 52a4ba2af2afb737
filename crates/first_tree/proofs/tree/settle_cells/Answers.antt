use Rattle.first_tree.proofs.ValueLemmas.{settles_fresh}
use Rattle.first_tree.proofs.tree.settle_cells.Goals as goal

pub returns-clause-settles : goal.returns-clause-settles
returns-clause-settles g c = settles_fresh c.args.contents.now c.refresh.new.table c.args.values.now c.settle.new.values c.settle.result c.refresh.ensures.outcomes c.settle.ensures
