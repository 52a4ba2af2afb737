use Rattle.component_roots.proofs.DecidingLemmas.{all_decided}
use Rattle.component_roots.proofs.laws.found_is_decided.Goals as goal

pub returns : goal.returns
returns c p names d rows objects found stands says are = all_decided p names d rows objects found stands says are
