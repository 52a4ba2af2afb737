use Rattle.std.proofs.Common.{arith}
use Rattle.qml_value.proofs.RowLemmas.{weight-list, weight-fields}
use Rattle.qml_value.proofs.+weighing.Goals as goal

pub value::Value::weight-returns-in-List : goal.value::Value::weight-returns-in-List
value::Value::weight-returns-in-List t c = rw (c.in-List.is, weight-list, ← c.parts.ensures) (omega arith)

pub value::Value::weight-returns-in-Fields : goal.value::Value::weight-returns-in-Fields
value::Value::weight-returns-in-Fields t c = rw (c.in-Fields.is, weight-fields, ← c.parts-in-Fields.ensures) (omega arith)
