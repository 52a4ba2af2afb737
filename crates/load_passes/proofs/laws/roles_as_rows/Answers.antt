use Rattle.load_passes.proofs.OwnerLemmas.{roles_alike}
use Rattle.load_passes.proofs.laws.roles_as_rows.Goals as goal

pub returns : goal.returns
returns c p d = roles_alike p d
