use Rattle.qml_model.proofs.SettlingLemmas.{settles_to, settles_fresh}
use Rattle.qml_model.proofs.laws.settled_state_is_fresh.Goals as goal

pub returns : goal.returns
returns c = λ s values n e. settles_fresh s values n (settles_to s values e)
