use Rattle.eval_tests.proofs.PlainLemmas.{stands_at_root}
use Rattle.eval_tests.proofs.plain.root_place.Goals as goal

pub returns : goal.returns
returns c = stands_at_root c.args.tree.now c.root.result c.root.ensures.listing c.root.ensures.last c.root.ensures.part
