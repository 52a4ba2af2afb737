use Rattle.live_tree.proofs.LiveLemmas.{knows_all}
use Rattle.live_tree.proofs.tree.LiveTree.new.Goals as goal

pub returns-clause-knows : goal.returns-clause-knows
returns-clause-knows c = λ asks. knows_all asks _
