use Rattle.handled_signals.proofs.ProgramLemmas.{signals_as_meant}
use Rattle.handled_signals.proofs.laws.signals_are_those_of_the_program.Goals as goal

pub returns : goal.returns
returns c = signals_as_meant
