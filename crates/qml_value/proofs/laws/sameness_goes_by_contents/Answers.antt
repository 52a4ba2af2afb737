use Rattle.std.proofs.Common.{ap}
use Rattle.qml_value.proofs.RowLemmas.{list-injective, fields-injective}
use Rattle.qml_value.specs.declared.value.Value.{List, Fields}
use Rattle.qml_value.proofs.laws.sameness_goes_by_contents.Goals as goal

pub returns-clause-lists : goal.returns-clause-lists
returns-clause-lists c a b = (list-injective a b, ap List)

pub returns-clause-fields : goal.returns-clause-fields
returns-clause-fields c a b = (fields-injective a b, ap Fields)
