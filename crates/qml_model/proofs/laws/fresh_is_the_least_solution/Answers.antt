use Rattle.qml_model.proofs.DepthLemmas.{fresh_solves, fresh_least}
use Rattle.qml_model.proofs.laws.fresh_is_the_least_solution.Goals as goal

pub returns : goal.returns
returns c = record { solves = fresh_solves; least = fresh_least }
