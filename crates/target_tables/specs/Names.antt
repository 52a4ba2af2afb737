-- The name that a value is, where it is one alone, by the value's node and its first part.
use Rattle.std.specs.Prelude.{ℕ, Bool, true, false, List, [], ◌∷◌, Option, Some, None}
use Rattle.qml_syntax.specs.Tree.{Units, name, expr}
use Rattle.qml_syntax.specs.declared.node.Node.{Node}
use Rattle.qml_syntax.specs.declared.node.Node.TheVariants as node
use Rattle.qml_syntax.specs.Nodes.{Item, of_stmt, Table}
use Rattle.qml_syntax.specs.Places.{places_of}
use Rattle.type_uses.specs.Uses.{node_at}

-- that of a statement
abbrev pub name_in : Item → Option Units
name_in (of_stmt (expr (name n p) c)) = Some n
name_in _ = None

-- ---- by nodes

abbrev pub name_by : Node → Option Units
name_by (node.Name n p) = Some n
name_by _ = None

abbrev pub name_of_first : Table → List ℕ → Option Units
name_of_first t [] = None
name_of_first t (q ∷ qs) = name_by (node_at t q)

abbrev pub first_name : Table → ℕ → Option Units
first_name t at = name_of_first t (places_of t at)

-- whether a node is that of an expression as a statement
abbrev pub is_expression : Node → Bool
is_expression (node.Expression c) = true
is_expression _ = false
