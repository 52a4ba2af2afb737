use Rattle.load_passes.proofs.ValueLemmas.{values_alike}
use Rattle.load_passes.proofs.laws.values_as_rows.Goals as goal

pub returns : goal.returns
returns c p roots d = values_alike p roots d
