use Rattle.handled_signals.proofs.ProgramLemmas.{parameters_as_meant}
use Rattle.handled_signals.proofs.laws.parameters_are_those_of_the_program.Goals as goal

pub returns : goal.returns
returns c = parameters_as_meant
