use Rattle.std.proofs.Common.{◌≡◌, ◌-◌, ◌^◌, min, take}
use Rattle.qml_value.specs.Weights.{deepest, deepest_field}
use Rattle.qml_value.proofs.+nesting.Given as goal

abbrev pub invariant-weight::nesting_inside-inside : goal.invariant-weight::nesting_inside-inside
invariant-weight::nesting_inside-inside l = l.most ≡ min (deepest (take l.value-index l.values)) (2 ^ 64 - 1)

abbrev pub invariant-weight::nesting_under_names-inside : goal.invariant-weight::nesting_under_names-inside
invariant-weight::nesting_under_names-inside l = l.most ≡ min (deepest_field (take l.field-index l.fields)) (2 ^ 64 - 1)
