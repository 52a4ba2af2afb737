use Rattle.machine_making.proofs.MakesLemmas.{makes}
use Rattle.machine_making.proofs.laws.adding_is_the_machines.Goals as goal

pub returns : goal.returns
returns c = makes
