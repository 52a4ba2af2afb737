use Rattle.js_locals.specs.Laid.{laid}
use Rattle.js_locals.proofs.GatheringLemmas.{condition_inside}
use Rattle.js_locals.proofs.gathering.inside_condition.Goals as goal

pub returns-in-Some : goal.returns-in-Some
returns-in-Some c = condition_inside (laid c.args.tree.now) c.args.var c.args.at c.in-Some.test c.row_behind.result c.in-Some.ensures c.row_behind.ensures
