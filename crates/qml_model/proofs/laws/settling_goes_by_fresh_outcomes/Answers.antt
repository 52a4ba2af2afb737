use Rattle.qml_model.proofs.SettlingLemmas.{settles_to, settled_is, lowest_past, past_is}
use Rattle.qml_model.proofs.laws.settling_goes_by_fresh_outcomes.Goals as goal

pub returns : goal.returns
returns c = record {
  values = λ s values. (settles_to s values, settled_is s values);
  past = λ s d. (lowest_past s d, past_is s d);
}
