use Rattle.declared_signals.proofs.ProgramLemmas.{told}
use Rattle.declared_signals.proofs.laws.signals_are_those_of_the_program.Goals as goal

pub returns : goal.returns
returns c = told
