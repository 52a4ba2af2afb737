use Rattle.program_signals.proofs.TellLemmas.{signals_told}
use Rattle.program_signals.proofs.laws.signals_tell_the_program.Goals as goal

pub returns : goal.returns
returns c = signals_told
