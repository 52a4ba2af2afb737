use Rattle.machine_model.proofs.SettlingLemmas.{stops_so}
use Rattle.machine_model.proofs.laws.settling_is_a_function.Goals as goal

pub returns-clause-stops : goal.returns-clause-stops
returns-clause-stops c = stops_so
