-- Which values are the same.
use Rattle.std.specs.Prelude.{◌≡◌}
use Rattle.qml_value.specs.declared.value.Value.{Value}

-- values of one kind with the same contents, part by part, fields in their order
abbrev pub Same : Value → Value → Type 0
Same value other = value ≡ other
