use Rattle.given_handlers.proofs.ProgramLemmas.{functions_meant}
use Rattle.given_handlers.proofs.laws.functions_are_those_of_the_program.Goals as goal

pub returns : goal.returns
returns c = functions_meant
