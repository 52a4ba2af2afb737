use Rattle.std.proofs.Common.{arith}
use Rattle.qml_value.proofs.RowLemmas.{nesting-list, nesting-fields, deepest_push, deepest_field_push}
use Rattle.std.proofs.lemmas.Grind.{common_steps}
use Rattle.qml_value.proofs.+nesting.Goals as goal

pub value::Value::nesting-returns-in-List : goal.value::Value::nesting-returns-in-List
value::Value::nesting-returns-in-List t c = rw (c.in-List.is, nesting-list, ← c.parts.ensures) (omega arith)

pub value::Value::nesting-returns-in-Fields : goal.value::Value::nesting-returns-in-Fields
value::Value::nesting-returns-in-Fields t c = rw (c.in-Fields.is, nesting-fields, ← c.parts-in-Fields.ensures) (omega arith)

pub weight::nesting_inside-inside-preserved : goal.weight::nesting_inside-inside-preserved
weight::nesting_inside-inside-preserved t c = grind (arith, common_steps, deepest_push)

pub weight::nesting_under_names-inside-preserved : goal.weight::nesting_under_names-inside-preserved
weight::nesting_under_names-inside-preserved t c = grind (arith, common_steps, deepest_field_push)
