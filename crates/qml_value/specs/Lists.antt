-- Which values may stand in one list.
use Rattle.std.specs.Prelude.{◌+◌, nat_le, if◌then◌else◌, List, Result, Ok, Err}
use Rattle.qml_value.specs.declared.value.Value.{Value}
use Rattle.qml_value.specs.declared.list.TooDeep.{TooDeep}
use Rattle.qml_value.specs.Weights.{deepest}

-- the list of these values, if it isn't nested more than 100 deep
abbrev pub list_of : List Value → Result (List Value) TooDeep
list_of values = if nat_le (1 + deepest values) 100 then Ok values else Err (record {})
