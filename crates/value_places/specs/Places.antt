-- The first token of a value and of an object, by the rows of objects: of an object that of its type's name.
use Rattle.std.specs.Prelude.{ℕ, List, slice_get, Option, Some, None}
use Rattle.qml_base.specs.declared.numbers.Place.{Place}
use Rattle.qml_syntax.specs.declared.node.Node.{Node}
use Rattle.qml_syntax.specs.declared.node.Node.TheVariants as node
use Rattle.qml_syntax.specs.Nodes.{Item, of_stmt, of_object, of_objects, Table}
use Rattle.qml_syntax.specs.Places.{part_at}
use Rattle.document_rows.specs.declared.rows.ObjectRow.{ObjectRow}
use Rattle.type_uses.specs.Uses.{nowhere, node_at}
use Rattle.value_reading.specs.FirstTokens.{place_in}
use Rattle.value_places.specs.declared.places.Form.{Form}
use Rattle.value_places.specs.declared.places.Form.TheVariants as form

-- what stands at a node
abbrev pub form_of : Node → Form
form_of node.Object = form.Object
form_of (node.ObjectList p) = form.List
form_of (node.Empty p) = form.Statement
form_of (node.Expression c) = form.Statement
form_of (node.Block p) = form.Statement
form_of (node.Declare p q c) = form.Statement
form_of (node.When p) = form.Statement
form_of (node.Either p) = form.Statement
form_of (node.While p) = form.Statement
form_of (node.For p) = form.Statement
form_of (node.Give p c) = form.Statement
form_of (node.GiveValue p c) = form.Statement
form_of (node.Stop p c) = form.Statement
form_of (node.Again p c) = form.Statement
form_of _ = form.Other

abbrev pub form_in : Item → Form
form_in (of_object o) = form.Object
form_in (of_objects p os) = form.List
form_in (of_stmt s) = form.Statement
form_in _ = form.Other

-- the place of an object, by what stands at its node and the first token there
abbrev pub object_by : Form → Place → Place
object_by form.Object p = p
object_by _ p = nowhere

abbrev pub object_at_row : Table → Option ObjectRow → Place
object_at_row t None = nowhere
object_at_row t (Some x) = object_by (form_of (node_at t x.node)) (place_in (part_at t x.node))

abbrev pub object_place : Table → List ObjectRow → ℕ → Place
object_place t objects o = object_at_row t (slice_get objects o)

-- the place of a value, by the same and by that of the object of a number
abbrev pub value_by : Form → Place → Place → Place
value_by form.Object object p = object
value_by form.List object p = p
value_by form.Statement object p = p
value_by form.Other object p = nowhere

abbrev pub value_place : Table → List ObjectRow → ℕ → ℕ → Place
value_place t objects first at =
    value_by (form_of (node_at t at)) (object_place t objects first) (place_in (part_at t at))
