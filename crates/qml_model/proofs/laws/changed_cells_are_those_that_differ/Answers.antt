use Rattle.qml_model.proofs.ChangedLemmas.{listed, only_listed, ascends}
use Rattle.qml_model.proofs.laws.changed_cells_are_those_that_differ.Goals as goal

pub returns : goal.returns
returns c = record {
  cells = λ old new d. (only_listed old new d, listed old new d);
  ascending = ascends;
}
