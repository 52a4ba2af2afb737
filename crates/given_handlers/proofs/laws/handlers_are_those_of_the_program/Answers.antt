use Rattle.given_handlers.proofs.ProgramLemmas.{values_meant}
use Rattle.given_handlers.proofs.laws.handlers_are_those_of_the_program.Goals as goal

pub returns : goal.returns
returns c = values_meant
