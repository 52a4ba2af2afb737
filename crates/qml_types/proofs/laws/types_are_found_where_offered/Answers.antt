use Rattle.std.proofs.Common.{refl}
use Rattle.qml_types.specs.Table.{offers}
use Rattle.qml_types.proofs.FindingLemmas.{offered-where}
use Rattle.qml_types.proofs.laws.types_are_found_where_offered.Goals as goal

pub returns : goal.returns
returns c from name type = offered-where offers from name type refl
