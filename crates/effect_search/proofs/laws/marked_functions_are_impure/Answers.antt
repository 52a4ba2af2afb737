use Rattle.effect_search.proofs.LawLemmas.{impure_told}
use Rattle.effect_search.proofs.laws.marked_functions_are_impure.Goals as goal

pub returns : goal.returns
returns c p roots functions acts marks calls whole n m k f e = impure_told p roots functions acts calls n marks whole m k f e
