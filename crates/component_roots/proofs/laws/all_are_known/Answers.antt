use Rattle.component_roots.proofs.RoundLemmas.{known_at_last}
use Rattle.component_roots.proofs.laws.all_are_known.Goals as goal

pub returns : goal.returns
returns c p d lower o less = known_at_last p d lower o less
