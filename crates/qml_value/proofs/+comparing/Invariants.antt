use Rattle.std.proofs.Common.{◌≡◌, take}
use Rattle.qml_value.proofs.+comparing.Given as goal

abbrev pub invariant-same::same_fields-fields : goal.invariant-same::same_fields-fields
invariant-same::same_fields-fields l = take l.i l.a ≡ take l.i l.b

abbrev pub invariant-same::same_values-values : goal.invariant-same::same_values-values
invariant-same::same_values-values l = take l.i l.a ≡ take l.i l.b
