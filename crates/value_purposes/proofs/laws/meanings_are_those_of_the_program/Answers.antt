use Rattle.value_purposes.proofs.PurposeLemmas.{given_as_meant}
use Rattle.value_purposes.proofs.laws.meanings_are_those_of_the_program.Goals as goal

pub returns : goal.returns
returns c p roots names handlers ends targets tells d o there before first rest =
    given_as_meant p roots names handlers ends targets tells d o there before first rest
