use Rattle.qml_types.proofs.ConversionLemmas.{again, defaults}
use Rattle.qml_types.proofs.laws.converted_values_stay.Goals as goal

pub returns-clause-again : goal.returns-clause-again
returns-clause-again c = again

pub returns-clause-defaults : goal.returns-clause-defaults
returns-clause-defaults c = defaults
