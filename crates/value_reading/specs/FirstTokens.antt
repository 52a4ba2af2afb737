-- The first token of a part of a tree.
use Rattle.std.specs.Prelude.{◌≡◌, ◌<◌, ℕ, true, false, List, [], ◌∷◌, Option, Some, None}
use Rattle.qml_base.specs.declared.numbers.Place.{Place}
use Rattle.qml_syntax.specs.declared.node.Node.{Node}
use Rattle.qml_syntax.specs.declared.node.Node.TheVariants as node
use Rattle.qml_syntax.specs.Depth.{place_of, place_of_stmt}
use Rattle.qml_syntax.specs.Nodes.{Item, of_expr, of_stmt, of_sign, of_choice, of_target, of_name, of_object, of_objects, Table}
use Rattle.qml_syntax.specs.Places.{part_at}
use Rattle.program_names.specs.Written.{place_of_object}
use Rattle.type_uses.specs.Uses.{nowhere}
use Rattle.value_reading.specs.declared.descending.Found.{Found}
use Rattle.value_reading.specs.declared.descending.Found.TheVariants as found

-- of a statement, an expression, an object or a list of objects, and of what these begin with
abbrev pub place_in : Item → Place
place_in (of_expr e) = place_of e
place_in (of_stmt s) = place_of_stmt s
place_in (of_sign f g p) = p
place_in (of_choice f c e) = place_of c
place_in (of_target f t g p) = place_of t
place_in (of_name n p) = p
place_in (of_object o) = place_of_object o
place_in (of_objects p os) = p
place_in _ = nowhere

-- that of the first of some parts
abbrev pub place_of_first : List Item → Place
place_of_first [] = nowhere
place_of_first (i ∷ is) = place_in i

-- the place that a node tells; none where the first token is that of its first part
abbrev pub own_place : Node → Option Place
own_place (node.Name n p) = Some p
own_place (node.Number n p) = Some p
own_place (node.Text n p) = Some p
own_place (node.Literal x p) = Some p
own_place (node.Paren p) = Some p
own_place (node.List p c) = Some p
own_place (node.Fields p c) = Some p
own_place (node.Sign f g p) = Some p
own_place (node.Signed true g p) = Some p
own_place (node.Signed false g p) = None
own_place node.Steps = None
own_place (node.Postfix i p) = None
own_place (node.Chain f op p) = None
own_place (node.Choice f) = None
own_place node.Choose = None
own_place (node.Target f g p) = None
own_place node.Assign = None
own_place (node.Empty p) = Some p
own_place (node.Expression c) = None
own_place (node.Block p) = Some p
own_place (node.Declare p q c) = Some p
own_place (node.When p) = Some p
own_place (node.Either p) = Some p
own_place (node.While p) = Some p
own_place (node.For p) = Some p
own_place (node.Give p c) = Some p
own_place (node.GiveValue p c) = Some p
own_place (node.Stop p c) = Some p
own_place (node.Again p c) = Some p
own_place (node.First n p) = Some p
own_place node.Object = None
own_place (node.ObjectList p) = Some p
own_place _ = Some nowhere

-- where the first token of the part at a place is: there, or in a part before it
abbrev pub Leads : Table → ℕ → Found → Type 0
Leads t at (found.At p) = p ≡ place_in (part_at t at)
Leads t at (found.In q) = (place_in (part_at t q) ≡ place_in (part_at t at)) × (q < at)
