-- Bindings as nodes tell them.
use Rattle.std.specs.Prelude.{ℕ, ◌+◌, Bool, true, false, not, ◌&&◌, ◌||◌, if◌then◌else◌, List, [], ◌∷◌, Option, Some, None, is_some}
use Rattle.qml_syntax.specs.declared.node.Node.{Node}
use Rattle.qml_syntax.specs.declared.node.Node.TheVariants as node
use Rattle.qml_syntax.specs.declared.operators.Prefix.TheVariants.{Minus}
use Rattle.qml_syntax.specs.Tree.{Units}
use Rattle.qml_syntax.specs.Nodes.{Table}
use Rattle.qml_syntax.specs.Places.{places_of, behind}
use Rattle.program_names.specs.Names.{is_handler_name}
use Rattle.document_rows.specs.declared.rows.MemberRow.{MemberRow}
use Rattle.type_uses.specs.Uses.{node_at}

abbrev pub is_expression : Node → Bool
is_expression (node.Expression c) = true
is_expression _ = false

abbrev pub is_plain : Node → Bool
is_plain (node.Number n p) = true
is_plain (node.Text n p) = true
is_plain (node.Literal x p) = true
is_plain _ = false

-- one `-` alone before its operand
abbrev pub is_minus : Node → Bool
is_minus (node.Signed true Minus p) = true
is_minus _ = false

abbrev pub is_number : Node → Bool
is_number (node.Number n p) = true
is_number _ = false

abbrev pub is_objects : Node → Bool
is_objects node.Object = true
is_objects (node.ObjectList p) = true
is_objects _ = false

abbrev pub is_dot : Node → Bool
is_dot (node.Dot n) = true
is_dot _ = false

abbrev pub is_property : Node → Bool
is_property (node.Property p d) = true
is_property _ = false

abbrev pub is_given : Node → Bool
is_given node.Given = true
is_given _ = false

abbrev pub units_in : Node → Units
units_in (node.First n p) = n
units_in (node.Dot n) = n
units_in _ = []

-- ---- values

abbrev pub first_number : Table → List ℕ → Bool
first_number t [] = false
first_number t (p ∷ ps) = is_number (node_at t p)

abbrev pub plain_at : Table → ℕ → Bool
plain_at t p = is_plain (node_at t p) || is_minus (node_at t p) && first_number t (places_of t p)

abbrev pub first_plain : Table → List ℕ → Bool
first_plain t [] = false
first_plain t (p ∷ ps) = plain_at t p

abbrev pub literal_at : Table → ℕ → Bool
literal_at t p = is_expression (node_at t p) && first_plain t (places_of t p)

abbrev pub bound_at : Table → ℕ → Bool
bound_at t p = not (is_objects (node_at t p)) && not (literal_at t p)

-- ---- members

-- the value of a property stands behind its kind and its name
abbrev pub third_bound : Table → List ℕ → Bool
third_bound t (k ∷ n ∷ v ∷ ps) = bound_at t v
third_bound t _ = false

-- the value behind a path, of which the last name so far is this
abbrev pub given_after : Table → ℕ → List ℕ → Bool
given_after t last [] = false
given_after t last (p ∷ ps) =
    if is_dot (node_at t p) then given_after t p ps else bound_at t p && not (is_handler_name (units_in (node_at t last)))

abbrev pub given_bound : Table → List ℕ → Bool
given_bound t [] = false
given_bound t (p ∷ ps) = given_after t p ps

-- in a group a property is none
abbrev pub binding_at : Table → Option ℕ → ℕ → Bool
binding_at t group p =
    (is_property (node_at t p) && not (is_some group) && third_bound t (places_of t p)) ||
    (is_given (node_at t p) && given_bound t (places_of t p))

abbrev pub bindings_in_rows : Table → List MemberRow → ℕ
bindings_in_rows t [] = 0
bindings_in_rows t (m ∷ ms) = (if binding_at t m.group m.node then 1 else 0) + bindings_in_rows t ms

-- a part with those behind it
abbrev pub from_part : Table → Option ℕ → List ℕ
from_part t None = []
from_part t (Some p) = p ∷ behind t p
