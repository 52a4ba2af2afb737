use Rattle.load_passes.proofs.OwnerLemmas.{declared_alike}
use Rattle.load_passes.proofs.laws.declared_names_as_rows.Goals as goal

pub returns : goal.returns
returns c p d = declared_alike p d
