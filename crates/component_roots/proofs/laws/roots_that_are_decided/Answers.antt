use Rattle.component_roots.proofs.RoundLemmas.{decided_at_last}
use Rattle.component_roots.proofs.laws.roots_that_are_decided.Goals as goal

pub returns : goal.returns
returns c p d decided lower all o less = decided_at_last p d decided lower all o less
