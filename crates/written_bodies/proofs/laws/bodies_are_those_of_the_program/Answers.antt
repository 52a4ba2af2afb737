use Rattle.written_bodies.proofs.ProgramLemmas.{bodies_written}
use Rattle.written_bodies.proofs.laws.bodies_are_those_of_the_program.Goals as goal

pub returns : goal.returns
returns c = bodies_written
