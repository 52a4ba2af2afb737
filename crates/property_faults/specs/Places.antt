-- The places of members.
use Rattle.std.specs.Prelude.{ℕ, Bool, true, false, if◌then◌else◌, List, [], ◌∷◌}
use Rattle.qml_base.specs.declared.numbers.Place.{Place}
use Rattle.qml_syntax.specs.declared.node.Node.{Node}
use Rattle.qml_syntax.specs.declared.node.Node.TheVariants as node
use Rattle.qml_syntax.specs.Nodes.{Table}
use Rattle.qml_syntax.specs.Places.{places_of}
use Rattle.type_uses.specs.Uses.{nowhere, node_at, nodes_at}
use Rattle.document_members.specs.declared.member.Member.{Member}
use Rattle.document_members.specs.declared.member.Member.TheVariants as m

abbrev pub name_place : Node → Place
name_place (node.First n p) = p
name_place _ = nowhere

abbrev pub is_object_node : Node → Bool
is_object_node node.Object = true
is_object_node _ = false

abbrev pub place_of_nodes : List Node → Place
place_of_nodes [] = nowhere
place_of_nodes (x ∷ xs) = name_place x

-- the first token of the object at a place
abbrev pub object_place : Table → ℕ → Place
object_place t at = if is_object_node (node_at t at) then place_of_nodes (nodes_at t (places_of t at)) else nowhere

-- the first token of a member
abbrev pub first_place : Table → Member → Place
first_place t (m.Id word name at) = word
first_place t (m.Property p a k name at v) = p
first_place t (m.Alias p d name at target) = p
first_place t (m.Signal p name at parameters) = p
first_place t (m.Method p f name at) = p
first_place t (m.Given path v) = path.at
first_place t (m.Group path) = path.at
first_place t (m.Child o) = object_place t o

-- what is told of a member that stands in a group
abbrev pub place_in_group : Table → Member → Place
place_in_group t (m.Id word name at) = word
place_in_group t (m.Property p a k name at v) = at
place_in_group t (m.Alias p d name at target) = at
place_in_group t (m.Signal p name at parameters) = at
place_in_group t (m.Method p f name at) = at
place_in_group t (m.Given path v) = path.at
place_in_group t (m.Group path) = path.at
place_in_group t (m.Child o) = object_place t o
