use Rattle.qml_value.proofs.NamingLemmas.{found-put, others-put, names-put}
use Rattle.qml_value.proofs.laws.puts_one_value.Goals as goal

pub returns-clause-found : goal.returns-clause-found
returns-clause-found c = found-put

pub returns-clause-others : goal.returns-clause-others
returns-clause-others c = others-put

pub returns-clause-names : goal.returns-clause-names
returns-clause-names c = names-put
