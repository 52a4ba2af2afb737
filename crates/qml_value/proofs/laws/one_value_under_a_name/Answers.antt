use Rattle.qml_value.proofs.NamingLemmas.{one-stands}
use Rattle.qml_value.proofs.laws.one_value_under_a_name.Goals as goal

pub returns : goal.returns
returns c = one-stands
