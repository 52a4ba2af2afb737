-- Which values count as true.
use Rattle.std.specs.Prelude.{◌≢◌, pos, [], IsTrue}
use Rattle.qml_value.specs.declared.value.Value.{Value, Undefined, Null, Bool, Num, Text, List', Fields', Object, Component}

-- all but undefined, null, false, 0 and the empty text
abbrev pub CountsAsTrue : Value → Type 0
CountsAsTrue Undefined = ⊥
CountsAsTrue Null = ⊥
CountsAsTrue (Bool b) = IsTrue b
CountsAsTrue (Num n) = n ≢ pos 0
CountsAsTrue (Text units) = units ≢ []
CountsAsTrue (List' n row) = Unit {0}
CountsAsTrue (Fields' n row) = Unit {0}
CountsAsTrue (Object o) = Unit {0}
CountsAsTrue (Component c) = Unit {0}
