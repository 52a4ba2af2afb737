use Rattle.js_locals.specs.Laid.{laid}
use Rattle.js_locals.proofs.GatheringLemmas.{block_when}
use Rattle.js_locals.proofs.gathering.inside_block.Goals as goal

pub returns-in-Some : goal.returns-in-Some
returns-in-Some c = block_when (laid c.args.tree.now) c.args.var c.args.at c.in-Some.mark c.row_behind.result c.if-var.true c.in-Some.ensures c.row_behind.ensures
