use Rattle.std.proofs.Common.{◌≡◌, ◌++◌, map, length}
use Rattle.qml_value.specs.Building.{field_from}
use Rattle.qml_value.proofs.builder.FieldsBuilder.finish.Given as goal

abbrev pub invariant-fields : goal.invariant-fields
invariant-fields l = l.parts.items ++ map field_from l.rest ≡ map field_from l.initial.rest

abbrev pub decreases-fields : goal.decreases-fields
decreases-fields l = length l.rest
