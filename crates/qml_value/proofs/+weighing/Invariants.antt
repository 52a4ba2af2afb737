use Rattle.std.proofs.Common.{◌≡◌, ◌-◌, ◌^◌, min, sum_by, take}
use Rattle.qml_value.specs.Weights.{weight_of}
use Rattle.qml_value.proofs.+weighing.Given as goal

abbrev pub invariant-weight::weight_inside-inside : goal.invariant-weight::weight_inside-inside
invariant-weight::weight_inside-inside l = l.total ≡ min (sum_by weight_of (take l.value-index l.values)) (2 ^ 64 - 1)

abbrev pub invariant-weight::weight_under_names-inside : goal.invariant-weight::weight_under_names-inside
invariant-weight::weight_under_names-inside l = l.total ≡ min (sum_by (λ field. weight_of field.value) (take l.field-index l.fields)) (2 ^ 64 - 1)
