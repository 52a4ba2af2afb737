use Rattle.qml_model.proofs.SettlingLemmas.{settles_to, settled_is, settles_again}
use Rattle.qml_model.proofs.ChangedLemmas.{unchanged}
use Rattle.qml_model.proofs.laws.settling_again_changes_nothing.Goals as goal

pub returns : goal.returns
returns c = record {
  same = λ s values e. settled_is (record { contents = s.contents; values = values }) values (settles_again s values (settles_to s values e));
  unchanged = unchanged;
}
