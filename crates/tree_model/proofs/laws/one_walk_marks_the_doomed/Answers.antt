use Rattle.tree_model.proofs.DoomLemmas.{marks_doomed}
use Rattle.tree_model.proofs.laws.one_walk_marks_the_doomed.Goals as goal

pub returns : goal.returns
returns c = marks_doomed
