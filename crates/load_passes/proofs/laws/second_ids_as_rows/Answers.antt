use Rattle.load_passes.proofs.OwnerLemmas.{second_ids_alike}
use Rattle.load_passes.proofs.laws.second_ids_as_rows.Goals as goal

pub returns : goal.returns
returns c p d = second_ids_alike p d
