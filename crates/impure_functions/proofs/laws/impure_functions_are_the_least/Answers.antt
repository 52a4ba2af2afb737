use Rattle.impure_functions.proofs.SearchLemmas.{is_sound}
use Rattle.impure_functions.proofs.LeastLemmas.{is_complete}
use Rattle.impure_functions.proofs.laws.impure_functions_are_the_least.Goals as goal

pub returns : goal.returns
returns c p roots functions whole f inside = (λ e. is_sound p roots f e, λ x. is_complete p roots functions whole f inside x)
