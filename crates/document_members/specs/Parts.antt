-- Single parts of a member, and what taking parts from the last on gives.
use Rattle.std.specs.Prelude.{◌≡◌, ℕ, Bool, true, false, List, [], ◌∷◌, map, reverse, Option, Some, None}
use Rattle.qml_base.specs.declared.numbers.Place.{Place}
use Rattle.qml_syntax.specs.declared.node.Node.{Node}
use Rattle.qml_syntax.specs.declared.node.Node.TheVariants as node
use Rattle.qml_syntax.specs.Tree.{Units, Names, Kind, Function, function, Object, Value, no_signal_pars}
use Rattle.qml_syntax.specs.Nodes.{Item, of_name, of_dot, of_signal_par, of_function, of_member, Parts, Table, below, below_path, below_members, below_signal_pars, top_kind, some_kind, top_value, top_function, top_object, path_in, signal_pars_in}
use Rattle.qml_syntax.specs.Onto.{signal_pars_onto}
use Rattle.qml_syntax.specs.Opened.{top, parts_of}
use Rattle.qml_syntax.specs.Places.{part_at}
use Rattle.program_names.specs.Written.{parameter_names}
use Rattle.document_members.specs.declared.member.NamePath.{NamePath}
use Rattle.document_members.specs.declared.parts.Name.{Name}
use Rattle.document_members.specs.declared.parts.Head.{Head}

-- the parts at these places, the last in front
abbrev pub items : Table → List ℕ → Parts
items t ps = map (part_at t) (reverse ps)

abbrev pub nowhere : Place
nowhere = record { line = 0; column = 0 }

-- ---- by a node, and by the part that it is the node of

abbrev pub no_name : Name
no_name = record { text = []; at = nowhere }

abbrev pub name_by : Node → Name
name_by (node.First n p) = record { text = n; at = p }
name_by _ = no_name

abbrev pub name_in : Item → Name
name_in (of_name n p) = record { text = n; at = p }
name_in _ = no_name

abbrev pub dot_by : Node → Option Units
dot_by (node.Dot n) = Some n
dot_by _ = None

abbrev pub dot_in : Item → Option Units
dot_in (of_dot n) = Some n
dot_in _ = None

abbrev pub parameter_by : Node → Option Units
parameter_by (node.SignalParameter n) = Some n
parameter_by _ = None

abbrev pub parameter_in : Item → Option Units
parameter_in (of_signal_par q n) = Some n
parameter_in _ = None

abbrev pub member_by : Node → Bool
member_by (node.Id p c) = true
member_by (node.Property p a) = true
member_by (node.Bare p a c) = true
member_by (node.Alias p d c) = true
member_by (node.Signal p c) = true
member_by (node.SignalWith p c) = true
member_by node.Method = true
member_by node.Given = true
member_by node.Group = true
member_by node.Child = true
member_by node.Semi = true
member_by _ = false

abbrev pub member_in : Item → Bool
member_in (of_member m b) = true
member_in _ = false

abbrev pub word_by : Node → Option Place
word_by (node.Function p) = Some p
word_by _ = None

abbrev pub word_in : Item → Option Place
word_in (of_function (function p n r ps q ss)) = Some p
word_in _ = None

-- ---- what a part is, and what stands for a part of another kind

abbrev pub value_in : Item → Value
value_in i = top_value (i ∷ [])

abbrev pub kind_in : Item → Kind
kind_in i = some_kind (top_kind (i ∷ []))

abbrev pub function_in : Item → Function
function_in i = top_function (i ∷ [])

abbrev pub object_in : Item → Object
object_in i = top_object (i ∷ [])

-- the first part as a name
abbrev pub first_name_of : Item → Name
first_name_of i = name_in (top (parts_of i))

abbrev pub head_by : Option Place → Name → Head
head_by (Some word) name = record { word = word; name = name }
head_by None name = record { word = nowhere; name = no_name }

-- the head of a function
abbrev pub head_of : Item → Head
head_of i = head_by (word_in i) (first_name_of i)

-- ---- taking parts

abbrev pub PopsPlace : Table → List ℕ → List ℕ → ℕ → Type 0
PopsPlace t old new p = (part_at t p ≡ top (items t old)) × (items t new ≡ below (items t old))

abbrev pub PopsName : Table → List ℕ → List ℕ → Name → Type 0
PopsName t old new name = (name ≡ name_in (top (items t old))) × (items t new ≡ below (items t old))

abbrev pub parts_of_path : NamePath → (Units × Place) × Names
parts_of_path path = ((path.first, path.at), path.rest.items)

abbrev pub PopsPath : Table → List ℕ → List ℕ → NamePath → Type 0
PopsPath t old new path =
    (parts_of_path path ≡ path_in (items t old)) × (items t new ≡ below_path (items t old))

abbrev pub PopsParameters : Table → List ℕ → List ℕ → List Units → Type 0
PopsParameters t old new names =
    (names ≡ parameter_names (Some (signal_pars_onto (signal_pars_in (items t old)) no_signal_pars))) ×
    (items t new ≡ below_signal_pars (items t old))

abbrev pub PopsMembers : Table → List ℕ → List ℕ → Type 0
PopsMembers t old new = items t new ≡ below_members (items t old)
