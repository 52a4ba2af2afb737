use Rattle.numbered_bodies.proofs.ProgramLemmas.{bodies_numbered}
use Rattle.numbered_bodies.proofs.laws.numbers_are_those_of_the_program.Goals as goal

pub returns : goal.returns
returns c = bodies_numbered
