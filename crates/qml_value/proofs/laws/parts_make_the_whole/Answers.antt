use Rattle.qml_value.proofs.RowLemmas.{weight-list, weight-fields, nesting-list, nesting-fields}
use Rattle.qml_value.proofs.TextLemmas.{text-list}
use Rattle.qml_value.proofs.laws.parts_make_the_whole.Goals as goal

pub returns-clause-list_weight : goal.returns-clause-list_weight
returns-clause-list_weight c = weight-list

pub returns-clause-fields_weight : goal.returns-clause-fields_weight
returns-clause-fields_weight c = weight-fields

pub returns-clause-list_nesting : goal.returns-clause-list_nesting
returns-clause-list_nesting c = nesting-list

pub returns-clause-fields_nesting : goal.returns-clause-fields_nesting
returns-clause-fields_nesting c = nesting-fields

pub returns-clause-list_text : goal.returns-clause-list_text
returns-clause-list_text c = text-list
