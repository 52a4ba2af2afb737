use Rattle.std.proofs.Common.{◌≡◌, take}
use Rattle.qml_value.proofs.+copying.Given as goal

abbrev pub invariant-same::copy_fields-fields : goal.invariant-same::copy_fields-fields
invariant-same::copy_fields-fields l = l.copy.items ≡ take l.field-index l.fields

abbrev pub invariant-same::copy_values-values : goal.invariant-same::copy_values-values
invariant-same::copy_values-values l = l.copy.items ≡ take l.value-index l.values
