use Rattle.names_in_code.proofs.MeantLemmas.{members_as_meant}
use Rattle.names_in_code.proofs.laws.members_are_those_of_the_program.Goals as goal

pub returns : goal.returns
returns c p names stands fit d o there name = members_as_meant p names stands fit d o there name
