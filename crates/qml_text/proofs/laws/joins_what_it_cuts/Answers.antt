use Rattle.qml_text.proofs.PartsLemmas.{joined_split}
use Rattle.qml_text.proofs.laws.joins_what_it_cuts.Goals as goal

pub returns : goal.returns
returns c = joined_split
