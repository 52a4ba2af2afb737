use Rattle.qml_text.proofs.PartsLemmas.{one_split}
use Rattle.qml_text.proofs.laws.one_way_to_cut.Goals as goal

pub returns : goal.returns
returns c = one_split
