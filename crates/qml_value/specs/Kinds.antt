-- The kinds of values.
use Rattle.qml_value.specs.declared.value.Value.{Value, Undefined, Null, Bool, Num, Text, List', Fields', Object, Component}
use Rattle.qml_value.specs.declared.value.Kind.{Kind}
use Rattle.qml_value.specs.declared.value.Kind.TheVariants as kind

abbrev pub kind_of : Value → Kind
kind_of Undefined = kind.Undefined
kind_of Null = kind.Null
kind_of (Bool b) = kind.Bool
kind_of (Num n) = kind.Num
kind_of (Text t) = kind.Text
kind_of (List' n row) = kind.List
kind_of (Fields' n row) = kind.Fields
kind_of (Object o) = kind.Object
kind_of (Component c) = kind.Component
