-- The parts of a tree by their places, and parts in a row as what they are parts of.
use Rattle.std.specs.Prelude.{◌≡◌, ℕ, Bool as 𝔹, true, false, List, [], ◌∷◌, map, Option, Some, None}
use Rattle.qml_base.specs.declared.numbers.Place.{Place}
use Rattle.qml_syntax.specs.declared.operators.Operator.{Operator}
use Rattle.qml_syntax.specs.declared.operators.Operator.TheVariants as op
use Rattle.qml_syntax.specs.declared.operators.Prefix.{Prefix}
use Rattle.qml_syntax.specs.declared.operators.Prefix.TheVariants as prefix
use Rattle.qml_syntax.specs.declared.operators.Assignment.{Assignment}
use Rattle.qml_syntax.specs.declared.operators.Assignment.TheVariants as update
use Rattle.qml_syntax.specs.declared.node.Node.{Node}
use Rattle.qml_syntax.specs.declared.node.Node.TheVariants as node
use Rattle.qml_syntax.specs.declared.literal.Declaration.{Declaration}
use Rattle.qml_syntax.specs.Tree.{Expr, Exprs, no_exprs, an_expr, Fields, no_fields, a_field, Steps, no_steps, a_step, Links, no_links, a_link, Choices, no_choices, a_choice, Stmt, Stmts, no_stmts, a_stmt, Maybe, nothing}
use Rattle.qml_syntax.specs.Nodes.{Item, of_key, of_step, of_link, of_choice, Table, top_expr, top_stmt, top_maybe, no_stmt}
use Rattle.qml_syntax.specs.Opened.{node_of}
use Rattle.qml_syntax.specs.Places.{part_at, behind}

-- the part whose node stands at a place, and the parts behind it in the node that takes it
pub record Laid : Type 0 where
  pub item : ℕ → Item
  pub rest : ℕ → List Item

abbrev pub laid : Table → Laid
laid t = record { item = part_at t; rest = λ p. map (part_at t) (behind t p) }

-- ---- nodes

abbrev pub op_of : Node → Operator
op_of (node.Chain f o p) = o
op_of _ = op.Plus

abbrev pub link_op : Node → Option Operator
link_op (node.Link f o p) = Some o
link_op _ = None

abbrev pub place_in : Node → Place
place_in (node.Chain f o p) = p
place_in _ = record { line = 0; column = 0 }

-- the name that stands in a node
abbrev pub name_at : Node → List ℕ
name_at (node.Name n p) = n
name_at (node.Member n p) = n
name_at (node.Var n p) = n
name_at (node.ParameterName n) = n
name_at (node.Key q n p) = n
name_at _ = []

-- the name that stands at a place
abbrev pub name_of : Laid → ℕ → List ℕ
name_of c p = name_at (node_of (c.item p))

abbrev pub is_step_node : Node → 𝔹
is_step_node (node.Member n p) = true
is_step_node (node.Element p) = true
is_step_node (node.Call p) = true
is_step_node (node.Binding p) = true
is_step_node _ = false

-- how a target is assigned to
abbrev pub assignment_in : Node → Assignment
assignment_in (node.Target f g p) = g
assignment_in _ = update.Plain

abbrev pub is_target : Node → 𝔹
is_target (node.Target f g p) = true
is_target _ = false

abbrev pub is_chain : Node → 𝔹
is_chain (node.Chain f o p) = true
is_chain _ = false

abbrev pub is_choice : Node → 𝔹
is_choice (node.Choice f) = true
is_choice _ = false

abbrev pub is_name : Node → 𝔹
is_name (node.Name n p) = true
is_name _ = false

abbrev pub is_key : Node → 𝔹
is_key (node.Key q n p) = true
is_key _ = false

abbrev pub is_bump : Prefix → 𝔹
is_bump prefix.Increment = true
is_bump prefix.Decrement = true
is_bump _ = false

abbrev pub is_expr_node : Node → 𝔹
is_expr_node (node.Name n p) = true
is_expr_node (node.Number n p) = true
is_expr_node (node.Text n p) = true
is_expr_node (node.Literal l p) = true
is_expr_node (node.Paren p) = true
is_expr_node (node.List p b) = true
is_expr_node (node.Fields p b) = true
is_expr_node node.Steps = true
is_expr_node (node.Postfix i p) = true
is_expr_node (node.Signed f g p) = true
is_expr_node (node.Chain f o p) = true
is_expr_node node.Choose = true
is_expr_node node.Assign = true
is_expr_node _ = false

abbrev pub is_stmt_node : Node → 𝔹
is_stmt_node (node.Empty p) = true
is_stmt_node (node.Expression c) = true
is_stmt_node (node.Block p) = true
is_stmt_node (node.Declare p k c) = true
is_stmt_node (node.When p) = true
is_stmt_node (node.Either p) = true
is_stmt_node (node.While p) = true
is_stmt_node (node.For p) = true
is_stmt_node (node.Give p c) = true
is_stmt_node (node.GiveValue p c) = true
is_stmt_node (node.Stop p c) = true
is_stmt_node (node.Again p c) = true
is_stmt_node _ = false

-- ---- parts in a row

-- the operators behind an operand, with their operands; the last operator is the node's own
abbrev pub links_in : Node → List Item → Links
links_in x [] = no_links
links_in x (of_link f o p d ∷ is) = a_link o p d (links_in x is)
links_in x (i ∷ is) = a_link (op_of x) (place_in x) (top_expr (i ∷ [])) (links_in x is)

abbrev pub choices_in : List Item → Choices
choices_in (of_choice f c e ∷ is) = a_choice c e (choices_in is)
choices_in _ = no_choices

abbrev pub last_in : List Item → Expr
last_in (of_choice f c e ∷ is) = last_in is
last_in is = top_expr is

abbrev pub steps_in : List Item → Steps
steps_in (of_step i ∷ is) = a_step i (steps_in is)
steps_in _ = no_steps

abbrev pub exprs_in : List Item → Exprs
exprs_in [] = no_exprs
exprs_in (i ∷ is) = an_expr (top_expr (i ∷ [])) (exprs_in is)

-- keys, each with its value behind it
abbrev pub fields_in : List Item → Fields
fields_in (of_key q n p ∷ i ∷ is) = a_field q n p (top_expr (i ∷ [])) (fields_in is)
fields_in _ = no_fields

abbrev pub stmts_in : List Item → Stmts
stmts_in [] = no_stmts
stmts_in (i ∷ is) = a_stmt (top_stmt (i ∷ [])) (stmts_in is)

-- ---- behind the beginning of a `for`: its test, its update and its statement

abbrev pub test_in : List Item → Maybe
test_in [] = nothing
test_in (i ∷ is) = top_maybe (i ∷ [])

abbrev pub update_in : List Item → Maybe
update_in (i ∷ j ∷ is) = top_maybe (j ∷ [])
update_in _ = nothing

abbrev pub for_body_in : List Item → Stmt
for_body_in (i ∷ j ∷ is) = top_stmt is
for_body_in _ = no_stmt

-- test, update and statement of a `for` that begins at a place
abbrev pub ForParts : Laid → ℕ → ℕ → ℕ → ℕ → Type 0
ForParts c p r u d = (c.rest p ≡ c.item r ∷ c.rest r) × (c.rest r ≡ c.item u ∷ c.rest u) × (c.rest u ≡ c.item d ∷ c.rest d)

abbrev pub is_present : Node → 𝔹
is_present node.Present = true
is_present _ = false

-- ---- names that are declared

abbrev pub is_var_node : Node → 𝔹
is_var_node (node.Var n p) = true
is_var_node _ = false

-- ---- operands of chains

-- the operator in a part of a chain, with where its operand stands
abbrev pub IsOperand : Laid → ℕ → ℕ → Operator → ℕ → Type 0
IsOperand c at q o r = (p : Place) × (links_in (node_of (c.item at)) (c.item q ∷ c.rest q) ≡ a_link o p (top_expr (c.item r ∷ [])) (links_in (node_of (c.item at)) (c.rest q)))
