-- What a value becomes in a property of a kind, as a function.
use Rattle.std.specs.Prelude.{ℕ, pos, nat_eq, ◌||◌, not, Bool, true, false, List, [], ◌∷◌, if◌then◌else◌}
use Rattle.std.specs.Ordering.{int_eq}
use Rattle.qml_value.specs.declared.value.Value.{Value, Undefined, Null, Num, Text, List', Fields', Object, Component}
use Rattle.qml_value.specs.declared.value.Value.{Bool as Truth}
use Rattle.qml_value.specs.Texts.{text_of}
use Rattle.qml_base.specs.declared.numbers.ObjNo.{ObjNo}
use Rattle.qml_types.specs.declared.kind.PropKind.{PropKind}
use Rattle.qml_types.specs.declared.kind.PropKind.TheVariants as kind
use Rattle.qml_types.specs.declared.kind.TypeRef.{TypeRef}
use Rattle.qml_types.specs.declared.kind.TypeRef.TheVariants.{Builtin, Document}
use Rattle.qml_types.specs.declared.kind.TypeNo.{TypeNo}
use Rattle.qml_types.specs.declared.kind.TypeNo.TheVariants as no
use Rattle.evaluation.specs.declared.came.Came.{Came}
use Rattle.evaluation.specs.declared.came.Came.TheVariants as came
use Rattle.qml_base.specs.declared.cause.Cause.TheVariants as cause

abbrev pub all_types : List TypeNo
all_types = no.QtObject ∷ no.Component ∷ no.Item ∷ no.Timer ∷ no.Connections ∷ no.Binding ∷ no.State ∷ no.PropertyChanges ∷ no.ListModel ∷ no.ListElement ∷ no.Repeater ∷ no.Loader ∷ no.Host ∷ []

abbrev pub type_number : TypeNo → ℕ
type_number no.QtObject = 0
type_number no.Component = 1
type_number no.Item = 2
type_number no.Timer = 3
type_number no.Connections = 4
type_number no.Binding = 5
type_number no.State = 6
type_number no.PropertyChanges = 7
type_number no.ListModel = 8
type_number no.ListElement = 9
type_number no.Repeater = 10
type_number no.Loader = 11
type_number no.Host = 12

abbrev pub same_type : TypeRef → TypeRef → Bool
same_type (Builtin a) (Builtin b) = nat_eq (type_number a) (type_number b)
same_type (Builtin a) (Document u) = false
same_type (Document u) (Builtin b) = false
same_type (Document u) (Document w) = nat_eq u.0 w.0

abbrev pub has_type : List TypeRef → TypeRef → Bool
has_type [] t = false
has_type (s ∷ types) t = same_type s t || has_type types t

abbrev pub is_there : List ℕ → Bool
is_there [] = false
is_there (unit ∷ units) = true

abbrev pub truth_of : Value → Bool
truth_of Undefined = false
truth_of Null = false
truth_of (Truth b) = b
truth_of (Num n) = not (int_eq n (pos 0))
truth_of (Text units) = is_there units
truth_of (List' n row) = true
truth_of (Fields' n row) = true
truth_of (Object o) = true
truth_of (Component c) = true

abbrev pub bad : Came
bad = came.Threw cause.Kind

abbrev pub as_number : Value → Came
as_number (Num n) = came.Value (Num n)
as_number _ = bad

abbrev pub as_text : Value → Came
as_text (Text units) = came.Value (Text units)
as_text (Num n) = came.Value (Text (text_of (Num n)))
as_text (Truth b) = came.Value (Text (text_of (Truth b)))
as_text _ = bad

abbrev pub as_truth : Value → Came
as_truth Undefined = bad
as_truth v = came.Value (Truth (truth_of v))

abbrev pub as_object : (ObjNo → List TypeRef) → TypeRef → Value → Came
as_object types wanted Null = came.Value Null
as_object types wanted (Object o) = if has_type (types o) wanted then came.Value (Object o) else bad
as_object types wanted (Component o) = if has_type (types o) wanted then came.Value (Component o) else bad
as_object types wanted _ = bad

abbrev pub as_component : Value → Came
as_component Null = came.Value Null
as_component (Component o) = came.Value (Component o)
as_component _ = bad

-- what a value becomes, where the objects have these types
abbrev pub convert_of : (ObjNo → List TypeRef) → PropKind → Value → Came
convert_of types kind.Int v = as_number v
convert_of types kind.Real v = as_number v
convert_of types kind.Double v = as_number v
convert_of types kind.String v = as_text v
convert_of types kind.Url v = as_text v
convert_of types kind.Color v = as_text v
convert_of types kind.Bool v = as_truth v
convert_of types kind.Var v = came.Value v
convert_of types kind.Variant v = came.Value v
convert_of types (kind.Object wanted) v = as_object types wanted v
convert_of types kind.Component v = as_component v
convert_of types (kind.List wanted) v = bad
