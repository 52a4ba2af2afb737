-- Fields under way, as they lie in a map.
use Rattle.std.specs.Prelude.{ℕ}
use Rattle.std.specs.declared.alloc.Global.{Global}
use Rattle.std.specs.declared.vec.Vec.{Vec}
use Rattle.qml_value.specs.declared.value.Value.{Value}
use Rattle.qml_value.specs.declared.value.Field.{Field}

abbrev pub field_from : Vec ℕ Global × Value → Field
field_from entry = record { name = entry.0.items; value = entry.1 }
