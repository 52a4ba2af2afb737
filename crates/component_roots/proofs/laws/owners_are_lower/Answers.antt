use Rattle.component_roots.proofs.OwnerLemmas.{lower_owners}
use Rattle.component_roots.proofs.laws.owners_are_lower.Goals as goal

pub returns : goal.returns
returns c p d file source same = lower_owners p d file source same
