use Rattle.handler_names.proofs.LayerLemmas.{handled_as_meant}
use Rattle.handler_names.proofs.laws.handlers_are_those_of_the_program.Goals as goal

pub returns : goal.returns
returns c p names handlers stands told d o l name = handled_as_meant p names handlers stands told d o l name
