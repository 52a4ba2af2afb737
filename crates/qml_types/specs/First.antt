-- What a cell holds before anything is given for it.
use Rattle.std.specs.Prelude.{pos, true, codes}
use Rattle.qml_value.specs.declared.value.Value.{Value, Bool, Num, Text}
use Rattle.qml_types.specs.declared.kind.PropKind.{PropKind}
use Rattle.qml_types.specs.declared.kind.Start.{Start}
use Rattle.qml_types.specs.declared.kind.Start.TheVariants as start
use Rattle.qml_types.specs.Table.{TypeCell}
use Rattle.qml_types.specs.Conversion.{default_of}

-- `owner` is what the object is written in, or null
abbrev pub value_at_start : PropKind → Value → Start → Value
value_at_start kind owner start.OfKind = default_of kind
value_at_start kind owner start.True = Bool true
value_at_start kind owner (start.Number n) = Num (pos n)
value_at_start kind owner start.RestoreBinding = Text (codes "RestoreBinding")
value_at_start kind owner start.NotLoaded = Text (codes "Null")
value_at_start kind owner start.Owner = owner

abbrev pub first_value : TypeCell → Value → Value
first_value cell owner = value_at_start cell.kind owner cell.start
