use Rattle.names_in_code.proofs.MeantLemmas.{outwards_meant}
use Rattle.names_in_code.proofs.laws.names_are_those_of_the_program.Goals as goal

pub returns : goal.returns
returns c p roots names ids aliases tells fit d own objects rows kept says most scope o there name =
    outwards_meant p roots names ids aliases tells fit d own objects rows kept says most scope o there name
