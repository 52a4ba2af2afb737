use Rattle.tree_model.proofs.SettlingLemmas.{same_below}
use Rattle.tree_model.proofs.laws.more_depth_is_the_same.Goals as goal

pub returns : goal.returns
returns c = λ world tree n i h. same_below world tree n i h
