-- Which values a kind of property takes, and as what.
use Rattle.std.specs.Prelude.{◌≡◌, ◌↔◌, pos, Bool as 𝔹, false, IsTrue, List as list, [], Result, Ok, Err}
use Rattle.std.specs.List.{Contains}
use Rattle.qml_value.specs.declared.value.Value.{Value, Undefined, Null, Bool, Num, Text, List}
use Rattle.qml_value.specs.declared.value.Kind.{Kind}
use Rattle.qml_value.specs.declared.value.Kind.TheVariants as given
use Rattle.qml_value.specs.Kinds.{kind_of}
use Rattle.qml_value.specs.Truth.{CountsAsTrue}
use Rattle.qml_value.specs.Texts.{text_of}
use Rattle.qml_types.specs.declared.kind.TypeRef.{TypeRef}
use Rattle.qml_types.specs.declared.kind.PropKind.{PropKind}
use Rattle.qml_types.specs.declared.kind.PropKind.TheVariants as kind
use Rattle.qml_types.specs.declared.conversion.ConvertFault.{ConvertFault}
use Rattle.qml_types.specs.declared.conversion.ConvertFault.TheVariants as fault

abbrev pub IsNumber : Kind → Type 0
IsNumber given.Num = Unit {0}
IsNumber _ = ⊥

abbrev pub IsWord : Kind → Type 0
IsWord given.Text = Unit {0}
IsWord given.Num = Unit {0}
IsWord given.Bool = Unit {0}
IsWord _ = ⊥

abbrev pub IsThere : Kind → Type 0
IsThere given.Undefined = ⊥
IsThere _ = Unit {0}

abbrev pub IsComponent : Kind → Type 0
IsComponent given.Null = Unit {0}
IsComponent given.Component = Unit {0}
IsComponent _ = ⊥

-- null, or an object or a Component that has this type among its own
abbrev pub IsObjectOf : TypeRef → list TypeRef → Kind → Type 0
IsObjectOf type types given.Null = Unit {0}
IsObjectOf type types given.Object = Contains types type
IsObjectOf type types given.Component = Contains types type
IsObjectOf type types _ = ⊥

-- whether a property of the kind takes values of that kind; `types` are those of the object that the value names
abbrev pub Takes : PropKind → list TypeRef → Kind → Type 0
Takes kind.Int types given = IsNumber given
Takes kind.Real types given = IsNumber given
Takes kind.Double types given = IsNumber given
Takes kind.String types given = IsWord given
Takes kind.Url types given = IsWord given
Takes kind.Color types given = IsWord given
Takes kind.Bool types given = IsThere given
Takes kind.Var types given = Unit {0}
Takes kind.Variant types given = Unit {0}
Takes (kind.Object type) types given = IsObjectOf type types given
Takes kind.Component types given = IsComponent given
Takes (kind.List type) types given = ⊥

-- a value as a text, and as true or false
abbrev pub IsAsText : Value → Value → Type 0
IsAsText value as_kind = as_kind ≡ Text (text_of value)

abbrev pub IsAsTruth : Value → Value → Type 0
IsAsTruth value as_kind = (b : 𝔹) × ((as_kind ≡ Bool b) × (IsTrue b ↔ CountsAsTrue value))

-- what a value becomes in a property of the kind that takes it
abbrev pub Becomes : PropKind → Value → Value → Type 0
Becomes kind.Int value as_kind = as_kind ≡ value
Becomes kind.Real value as_kind = as_kind ≡ value
Becomes kind.Double value as_kind = as_kind ≡ value
Becomes kind.String value as_kind = IsAsText value as_kind
Becomes kind.Url value as_kind = IsAsText value as_kind
Becomes kind.Color value as_kind = IsAsText value as_kind
Becomes kind.Bool value as_kind = IsAsTruth value as_kind
Becomes kind.Var value as_kind = as_kind ≡ value
Becomes kind.Variant value as_kind = as_kind ≡ value
Becomes (kind.Object type) value as_kind = as_kind ≡ value
Becomes kind.Component value as_kind = as_kind ≡ value
Becomes (kind.List type) value as_kind = ⊥

-- what converting a value to the kind answers
abbrev pub IsConverted : PropKind → list TypeRef → Value → Result Value ConvertFault → Type 0
IsConverted kind types value (Ok as_kind) = Takes kind types (kind_of value) × Becomes kind value as_kind
IsConverted kind types value (Err (fault.BadKind given)) = (given ≡ kind_of value) × (¬ (Takes kind types (kind_of value)))
IsConverted kind types value (Err fault.NoMemory) = Unit {0}

-- what a property of the kind holds where nothing else is said
abbrev pub default_of : PropKind → Value
default_of kind.Int = Num (pos 0)
default_of kind.Real = Num (pos 0)
default_of kind.Double = Num (pos 0)
default_of kind.String = Text []
default_of kind.Url = Text []
default_of kind.Color = Text []
default_of kind.Bool = Bool false
default_of kind.Var = Undefined
default_of kind.Variant = Undefined
default_of (kind.Object type) = Null
default_of kind.Component = Null
default_of (kind.List type) = List []
