-- What an object as written has, layer by layer: the built-in types that it stands on, the documents of its types, and
-- what it is written with. Places of cells count up in this order.
use Rattle.std.specs.Prelude.{ℕ, zero, suc, ◌+◌, Bool, true, false, nat_eq, if◌then◌else◌, List, [], ◌∷◌, ◌++◌, map, length, slice_get, codes, reverse, Option, Some, None}
use Rattle.std.specs.Str.{bytes_eq}
use Rattle.std.specs.Option.{option_or, option_map, unwrap_or}
use Rattle.std.specs.List.{flat_map, list_any}
use Rattle.qml_base.specs.declared.numbers.Place.{Place}
use Rattle.qml_syntax.specs.declared.contextual.Adjective.{Adjective}
use Rattle.qml_syntax.specs.declared.contextual.Adjective.TheVariants as adjective
use Rattle.qml_syntax.specs.Tree.{Units, Function}
use Rattle.qml_types.specs.declared.kind.TypeNo.{TypeNo}
use Rattle.qml_types.specs.declared.kind.TypeNo.TheVariants as no
use Rattle.qml_types.specs.declared.kind.TypeRef.{TypeRef}
use Rattle.qml_types.specs.declared.kind.TypeRef.TheVariants.{Builtin, Document as OfDocument}
use Rattle.qml_types.specs.declared.kind.PropKind.{PropKind}
use Rattle.qml_types.specs.declared.kind.Access.{Access}
use Rattle.qml_types.specs.declared.kind.Access.TheVariants.{Writable, ReadOnly}
use Rattle.qml_types.specs.declared.members.DefaultMember.{DefaultMember}
use Rattle.qml_types.specs.declared.members.DefaultMember.TheVariants as member
use Rattle.qml_types.specs.Table.{TypeCell, own_cells, cells_of, lineage, is_shown}
use Rattle.qml_types.specs.Members.{TypeSignal, own_signals, own_methods, name_of, default_member}
use Rattle.program_names.specs.Names.{changed, handler_of}
use Rattle.program_names.specs.Written.{WrittenMember, a_property, an_alias, a_signal, a_function}
use Rattle.program_names.specs.Loaded.{Program, object_at, type_of_object, kind_named}

-- a built-in type, or an object of a document as it is written
pub data Layer : Type 0 where
  of_type : TypeNo → Layer
  of_object : ℕ → ℕ → Layer

abbrev layers_of_type : (ℕ → List Layer) → TypeRef → List Layer
layers_of_type document (Builtin t) = map of_type (lineage t)
layers_of_type document (OfDocument u) = document u.0

abbrev layers_below : ℕ → Program → ℕ → ℕ → List Layer
layers_below zero p d o = []
layers_below (suc n) p d o =
    layers_of_type (λ e. layers_below n p e 0) (type_of_object p d o) ++ of_object d o ∷ []

-- no document stands on itself, so this is deep enough
abbrev pub layers : Program → ℕ → ℕ → List Layer
layers p d o = layers_below (suc (length p)) p d o

-- the layers of the object's type alone
abbrev layers_below_object : Program → ℕ → ℕ → List Layer
layers_below_object p d o = layers_of_type (λ e. layers p e 0) (type_of_object p d o)

-- ---- types of objects

abbrev type_of_layer : Layer → List TypeRef
type_of_layer (of_type t) = Builtin t ∷ []
type_of_layer (of_object d o) = if nat_eq o 0 then OfDocument (record { 0 = d }) ∷ [] else []

-- the types of an object from its own to the lowest. The root of a document isn't of that document's type.
abbrev pub types : Program → ℕ → ℕ → List TypeRef
types p d o = reverse (flat_map type_of_layer (layers_below_object p d o))

abbrev pub same_type : TypeNo → TypeNo → Bool
same_type no.QtObject no.QtObject = true
same_type no.Component no.Component = true
same_type no.Item no.Item = true
same_type no.Timer no.Timer = true
same_type no.Connections no.Connections = true
same_type no.Binding no.Binding = true
same_type no.State no.State = true
same_type no.PropertyChanges no.PropertyChanges = true
same_type no.ListModel no.ListModel = true
same_type no.ListElement no.ListElement = true
same_type no.Repeater no.Repeater = true
same_type no.Loader no.Loader = true
same_type no.Host no.Host = true
same_type _ _ = false

abbrev pub same_ref : TypeRef → TypeRef → Bool
same_ref (Builtin a) (Builtin b) = same_type a b
same_ref (OfDocument a) (OfDocument b) = nat_eq a.0 b.0
same_ref _ _ = false

abbrev pub is_a : Program → ℕ → ℕ → TypeRef → Bool
is_a p d o t = list_any (same_ref t) (types p d o)

abbrev pub is_type : Program → ℕ → ℕ → TypeNo → Bool
is_type p d o t = is_a p d o (Builtin t)

-- ---- names

-- what a name of an object means: a cell by its place, a signal with its parameters, a function, a method, an alias with
-- the object that declares it and the names of its target, or the children of an Item
pub data NameMeaning : Type 0 where
  a_cell : ℕ → PropKind → Access → NameMeaning
  a_signal_of : List Units → NameMeaning
  a_function_of : ℕ → ℕ → Function → NameMeaning
  a_method : NameMeaning
  an_alias_of : ℕ → ℕ → List Units → NameMeaning
  the_children : NameMeaning

-- a name with its place; one of a built-in type has none
pub record Named : Type 0 where
  pub name : Units
  pub at : Place
  pub what : NameMeaning

abbrev named : Units → Place → NameMeaning → Named
named name at what = record { name = name; at = at; what = what }

abbrev nowhere : Place
nowhere = record { line = 0; column = 0 }

abbrev names_of_cell : TypeCell → List Named
names_of_cell cell =
    if is_shown cell.access
    then
    named cell.name nowhere (a_cell cell.place cell.kind cell.access) ∷
    named (changed cell.name) nowhere (a_signal_of []) ∷ []
    else []

abbrev names_of_children : TypeNo → List Named
names_of_children no.Item = named (codes "data") nowhere the_children ∷ []
names_of_children _ = []

abbrev pub names_of_type : TypeNo → List Named
names_of_type t =
    flat_map names_of_cell (own_cells t) ++
    map (λ m. named (name_of m) nowhere a_method) (own_methods t) ++
    map (λ (s : TypeSignal). named s.name nowhere (a_signal_of s.parameters)) (own_signals t) ++
    names_of_children t

abbrev pub access_of : Adjective → Access
access_of adjective.ReadOnly = ReadOnly
access_of _ = Writable

-- Each declared property has a signal of its changes, an alias has none.
abbrev pub names_of_member : Program → ℕ → ℕ → ℕ → WrittenMember → List Named
names_of_member p d o place (a_property q a k n at v) =
    named n at (a_cell place (kind_named p d k) (access_of a)) ∷ named (changed n) at (a_signal_of []) ∷ []
names_of_member p d o place (an_alias q def n at target t) = named n at (an_alias_of d o target) ∷ []
names_of_member p d o place (a_signal q n at names) = named n at (a_signal_of names) ∷ []
names_of_member p d o place (a_function q f n at) = named n at (a_function_of d o f) ∷ []
names_of_member p d o place _ = []

abbrev pub cells_of_member : WrittenMember → ℕ
cells_of_member (a_property q a k n at v) = 1
cells_of_member _ = 0

abbrev pub names_of_members : Program → ℕ → ℕ → ℕ → List WrittenMember → List Named
names_of_members p d o place [] = []
names_of_members p d o place (m ∷ rest) =
    names_of_member p d o place m ++ names_of_members p d o (place + cells_of_member m) rest

abbrev pub cells_of_members : List WrittenMember → ℕ
cells_of_members [] = 0
cells_of_members (m ∷ rest) = cells_of_member m + cells_of_members rest

abbrev pub names_of_layer : Program → ℕ → Layer → List Named
names_of_layer p place (of_type t) = names_of_type t
names_of_layer p place (of_object d o) = names_of_members p d o place (object_at p d o).members

abbrev pub cells_of_layer : Program → Layer → ℕ
cells_of_layer p (of_type t) = length (own_cells t)
cells_of_layer p (of_object d o) = cells_of_members (object_at p d o).members

abbrev pub names_of_layers : Program → ℕ → List Layer → List Named
names_of_layers p place [] = []
names_of_layers p place (layer ∷ rest) =
    names_of_layer p place layer ++ names_of_layers p (place + cells_of_layer p layer) rest

-- all names of an object in the order of places
abbrev pub names : Program → ℕ → ℕ → List Named
names p d o = names_of_layers p 0 (layers p d o)

-- those that it has by its type, and those that it is written with
abbrev pub type_names : Program → ℕ → ℕ → List Named
type_names p d o = names_of_layers p 0 (layers_below_object p d o)

abbrev pub own_names : Program → ℕ → ℕ → List Named
own_names p d o = names_of_members p d o 0 (object_at p d o).members

abbrev pub meaning_in : List Named → Units → Option NameMeaning
meaning_in [] name = None
meaning_in (n ∷ rest) name = if bytes_eq n.name name then Some n.what else meaning_in rest name

-- what a name means for an object: of several the first counts
abbrev pub meaning : Program → ℕ → ℕ → Units → Option NameMeaning
meaning p d o name = meaning_in (names p d o) name

-- ---- handlers

abbrev pub parameters_of : NameMeaning → Option (List Units)
parameters_of (a_signal_of names) = Some names
parameters_of _ = None

abbrev pub handled_by : Units → Named → Option (List Units)
handled_by handler n = if bytes_eq (handler_of n.name) handler then parameters_of n.what else None

abbrev pub joined_names : Option (List Units) → Option (List Units) → Option (List Units)
joined_names None b = b
joined_names (Some a) None = Some a
joined_names (Some a) (Some b) = Some (a ++ b)

abbrev pub handled_in : Units → List Named → Option (List Units)
handled_in handler [] = None
handled_in handler (n ∷ rest) = joined_names (handled_by handler n) (handled_in handler rest)

-- whether a name is a handler's of an object, and the parameters of all signals that it handles: of `go` and `Go` both
abbrev pub handled : Program → ℕ → ℕ → Units → Option (List Units)
handled p d o handler = handled_in handler (names p d o)

-- ---- default properties

-- where child objects of an object go: to a property, to an Item's children, into a Component, among the rows of a
-- ListModel
pub data DefaultProperty : Type 0 where
  no_default : DefaultProperty
  to_property : Units → DefaultProperty
  to_children : DefaultProperty
  to_component : DefaultProperty
  to_rows : DefaultProperty

abbrev pub name_of_place : TypeNo → ℕ → Units
name_of_place t place = unwrap_or (option_map (λ (cell : TypeCell). cell.name) (slice_get (cells_of t) place)) []

abbrev pub default_by : TypeNo → DefaultMember → DefaultProperty
default_by t (member.Property place) = to_property (name_of_place t place)
default_by t member.Children = to_children
default_by t member.Held = to_component
default_by t member.Rows = to_rows

abbrev pub default_of_member : WrittenMember → Option DefaultProperty
default_of_member (a_property q adjective.Default k n at v) = Some (to_property n)
default_of_member (an_alias q true n at target t) = Some (to_property n)
default_of_member _ = None

abbrev pub last_default : List WrittenMember → Option DefaultProperty
last_default [] = None
last_default (m ∷ rest) = option_or (last_default rest) (default_of_member m)

abbrev pub default_of_layer : Program → Layer → Option DefaultProperty
default_of_layer p (of_type t) = option_map (default_by t) (default_member t)
default_of_layer p (of_object d o) = last_default (object_at p d o).members

abbrev pub default_of_layers : Program → List Layer → Option DefaultProperty
default_of_layers p [] = None
default_of_layers p (layer ∷ rest) = option_or (default_of_layers p rest) (default_of_layer p layer)

-- of several declared defaults the last counts, that of the object's own text included
abbrev pub default_of : Program → ℕ → ℕ → DefaultProperty
default_of p d o = unwrap_or (default_of_layers p (layers p d o)) no_default
