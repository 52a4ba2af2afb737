use Rattle.load_faults.proofs.FirstLemmas.{is_among, is_least}
use Rattle.load_faults.proofs.laws.first_is_least.Goals as goal

pub returns : goal.returns
returns c faults f e = (is_among faults f e, λ g h. is_least faults f g e h)
