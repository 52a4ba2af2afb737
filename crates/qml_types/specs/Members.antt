-- What types have beside cells: signals, methods, a default member, and the texts of their enumerations.
use Rattle.std.specs.Prelude.{ℕ, List, [], ◌∷◌, map, codes, Option, Some, None, if◌then◌else◌}
use Rattle.std.specs.Str.{bytes_eq}
use Rattle.std.specs.List.{flat_map, find}
use Rattle.std.specs.Option.{option_or}
use Rattle.qml_types.specs.declared.kind.TypeNo.{TypeNo}
use Rattle.qml_types.specs.declared.kind.TypeNo.TheVariants as no
use Rattle.qml_types.specs.declared.members.Signal.{Signal}
use Rattle.qml_types.specs.declared.members.Enumeration.{Enumeration}
use Rattle.qml_types.specs.declared.members.Method.{Method}
use Rattle.qml_types.specs.declared.members.Method.TheVariants as method
use Rattle.qml_types.specs.declared.members.DefaultMember.{DefaultMember}
use Rattle.qml_types.specs.declared.members.DefaultMember.TheVariants as member
use Rattle.qml_types.specs.Table.{lineage}

-- ---- signals

-- a signal with its place and the names of its parameters
pub record TypeSignal : Type 0 where
  pub place : ℕ
  pub name : List ℕ
  pub parameters : List (List ℕ)

abbrev pub signal_of : Signal → TypeSignal
signal_of signal = record { place = signal.place; name = signal.name.now; parameters = map (λ name. name.now) signal.parameters.now }

abbrev signal : ℕ → List ℕ → List (List ℕ) → TypeSignal
signal place name parameters = record { place = place; name = name; parameters = parameters }

-- the signals that a type has beside those of its bases and of changes
abbrev pub own_signals : TypeNo → List TypeSignal
own_signals no.Timer = signal 0 (codes "triggered") [] ∷ []
own_signals no.Repeater =
    signal 0 (codes "itemAdded") (codes "index" ∷ codes "item" ∷ []) ∷
    signal 1 (codes "itemRemoved") (codes "index" ∷ codes "item" ∷ []) ∷ []
own_signals no.Loader = signal 0 (codes "loaded") [] ∷ []
own_signals _ = []

abbrev pub signals_of : TypeNo → List TypeSignal
signals_of type = flat_map own_signals (lineage type)

-- the first of these that has the name
abbrev pub signal_named : List TypeSignal → List ℕ → Option TypeSignal
signal_named signals name = find (λ signal. bytes_eq signal.name name) signals

-- ---- methods

abbrev pub name_of : Method → List ℕ
name_of method.Destroy = codes "destroy"
name_of method.CreateObject = codes "createObject"
name_of method.Start = codes "start"
name_of method.Stop = codes "stop"
name_of method.Restart = codes "restart"
name_of method.Append = codes "append"
name_of method.Insert = codes "insert"
name_of method.Remove = codes "remove"
name_of method.Move = codes "move"
name_of method.Set = codes "set"
name_of method.SetProperty = codes "setProperty"
name_of method.Clear = codes "clear"
name_of method.Get = codes "get"
name_of method.ItemAt = codes "itemAt"
name_of method.Call = codes "call"

-- the methods that a type has beside those of its bases
abbrev pub own_methods : TypeNo → List Method
own_methods no.QtObject = method.Destroy ∷ []
own_methods no.Component = method.CreateObject ∷ []
own_methods no.Timer = method.Start ∷ method.Stop ∷ method.Restart ∷ []
own_methods no.ListModel =
    method.Append ∷ method.Insert ∷ method.Remove ∷ method.Move ∷ method.Set ∷ method.SetProperty ∷ method.Clear ∷ method.Get ∷ []
own_methods no.Repeater = method.ItemAt ∷ []
own_methods no.Host = method.Call ∷ []
own_methods _ = []

abbrev pub methods_of : TypeNo → List Method
methods_of type = flat_map own_methods (lineage type)

-- the first of these that has the name
abbrev pub method_named : List Method → List ℕ → Option Method
method_named methods name = find (λ method. bytes_eq (name_of method) name) methods

-- ---- the default member

-- where a type itself says that objects go that are written for no property
abbrev own_default : TypeNo → Option DefaultMember
own_default no.Component = Some member.Held
own_default no.Item = Some member.Children
own_default no.State = Some (member.Property 4)
own_default no.ListModel = Some member.Rows
own_default no.Repeater = Some (member.Property 14)
own_default _ = None

-- the last of these types that says it
abbrev last_default : List TypeNo → Option DefaultMember
last_default [] = None
last_default (type ∷ types) = option_or (last_default types) (own_default type)

abbrev pub default_member : TypeNo → Option DefaultMember
default_member type = last_default (lineage type)

-- ---- enumerations

-- the name of an enumeration, and its texts
abbrev pub enumeration_of : Enumeration → List ℕ × List (List ℕ)
enumeration_of known = (known.name.now, map (λ text. text.now) known.texts.now)

abbrev enumerations : List (List ℕ × List (List ℕ))
enumerations =
    (codes "Loader", codes "Null" ∷ codes "Ready" ∷ codes "Error" ∷ []) ∷
    (codes "Binding", codes "RestoreNone" ∷ codes "RestoreBinding" ∷ codes "RestoreValue" ∷ codes "RestoreBindingOrValue" ∷ []) ∷ []

-- the texts of the first of these that has the name
abbrev pub texts_in : List (List ℕ × List (List ℕ)) → List ℕ → Option (List (List ℕ))
texts_in [] name = None
texts_in (known ∷ rest) name = if bytes_eq known.0 name then Some known.1 else texts_in rest name

abbrev pub enumeration : List ℕ → Option (List (List ℕ))
enumeration name = texts_in enumerations name
