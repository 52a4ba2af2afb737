-- The `Qt.binding`s in the parts of code, each before those in its function, in the order of writing.
use Rattle.std.specs.Prelude.{◌≡◌, ◌+◌, ◌<◌, ℕ, Bool as 𝔹, true, false, List, [], ◌∷◌, ◌++◌, map, reverse, if◌then◌else◌, Option, Some, None}
use Rattle.std.specs.List.{flat_map, sum_by}
use Rattle.qml_base.specs.declared.numbers.Place.{Place}
use Rattle.qml_syntax.specs.declared.node.Node.{Node}
use Rattle.qml_syntax.specs.declared.node.Node.TheVariants as node
use Rattle.qml_syntax.specs.Tree.{Expr, list, Step, member, element, call, binding, expr, declare, auto, First, no_first, first_expr, first_declare, Maybe, nothing, just}
use Rattle.qml_syntax.specs.Nodes.{Item, mark, of_expr, of_step, of_stmt, of_link, of_choice, of_target, of_first, of_maybe, of_body, of_function}
use Rattle.qml_syntax.specs.Opened.{node_of, parts_of}
use Rattle.qml_syntax.specs.Starts.{nodes_of}
use Rattle.js_locals.specs.Laid.{Laid}
use Rattle.unit_rows.specs.Bindings.{BindingFunction, in_stmt, in_all, in_function}
use Rattle.unit_rows.specs.Placed.{statements_in}

abbrev pub in_expression : Expr → List BindingFunction
in_expression e = in_stmt (expr e auto)

abbrev pub in_step : Step → List BindingFunction
in_step (member n q) = []
in_step (element q e) = in_expression e
in_step (call q es) = in_expression (list q es false)
in_step (binding q ss) = record { at = q; statements = ss } ∷ in_all ss

abbrev pub in_first : First → List BindingFunction
in_first no_first = []
in_first (first_expr e) = in_expression e
in_first (first_declare q g vs) = in_stmt (declare q g vs auto)

abbrev pub in_maybe : Maybe → List BindingFunction
in_maybe nothing = []
in_maybe (just e) = in_expression e

-- those in a part of code; of other parts none counts
abbrev pub bindings_in : Item → List BindingFunction
bindings_in (of_expr e) = in_expression e
bindings_in (of_step s) = in_step s
bindings_in (of_stmt s) = in_stmt s
bindings_in (of_link f o p e) = in_expression e
bindings_in (of_choice f c e) = in_expression c ++ in_expression e
bindings_in (of_target f e g p) = in_expression e
bindings_in (of_first i) = in_first i
bindings_in (of_maybe e) = in_maybe e
bindings_in (of_body ss) = in_all ss
bindings_in (of_function f) = in_function f
bindings_in _ = []

-- a place of a call, and where the node of this call stands
abbrev pub binding_seen : Laid → Place × ℕ → BindingFunction
binding_seen c (q, p) = record { at = q; statements = statements_in (c.item p) }

-- ---- by nodes

-- whether a node's parts are code
abbrev pub has_code : Node → 𝔹
has_code (node.Paren p) = true
has_code (node.List p c) = true
has_code (node.Fields p c) = true
has_code node.Steps = true
has_code (node.Postfix i p) = true
has_code (node.Signed f g p) = true
has_code (node.Chain f o p) = true
has_code (node.Link f o p) = true
has_code (node.Choice f) = true
has_code node.Choose = true
has_code (node.Target f g p) = true
has_code node.Assign = true
has_code (node.Element p) = true
has_code (node.Call p) = true
has_code (node.Binding p) = true
has_code (node.Expression c) = true
has_code (node.Block p) = true
has_code (node.Declare p g c) = true
has_code (node.When p) = true
has_code (node.Either p) = true
has_code (node.While p) = true
has_code (node.For p) = true
has_code (node.GiveValue p c) = true
has_code node.FirstExpression = true
has_code (node.FirstDeclare p g) = true
has_code node.Present = true
has_code node.Body = true
has_code (node.Function p) = true
has_code _ = false

-- the place that a call of `Qt.binding` has
abbrev pub call_place : Node → Option Place
call_place (node.Binding q) = Some q
call_place _ = None

abbrev pub call_at : Option Place → Item → List BindingFunction
call_at (Some q) i = record { at = q; statements = statements_in i } ∷ []
call_at None i = []

-- the part itself, where it is such a call
abbrev pub own_binding : Item → List BindingFunction
own_binding i = call_at (call_place (node_of i)) i

-- ---- going through rows of parts, each from a place on

abbrev pub in_row : List Item → List BindingFunction
in_row is = flat_map bindings_in is

abbrev pub in_rows : Laid → List ℕ → List BindingFunction
in_rows c [] = []
in_rows c (p ∷ ps) = in_row (c.item p ∷ c.rest p) ++ in_rows c ps

abbrev pub nodes_left : Laid → List ℕ → ℕ
nodes_left c [] = 0
nodes_left c (p ∷ ps) = sum_by nodes_of (c.item p ∷ c.rest p) + nodes_left c ps

-- those of the part at a place itself are added
abbrev pub OwnAdded : Laid → ℕ → List (Place × ℕ) → List (Place × ℕ) → Type 0
OwnAdded c at old new = map (binding_seen c) new ≡ map (binding_seen c) old ++ own_binding (c.item at)

-- what the code finds at a place
abbrev pub IsMissing : Laid → ℕ → Type 0
IsMissing c at = c.item at ≡ mark

abbrev pub node_in : Laid → ℕ → Node
node_in c at = node_of (c.item at)

-- the parts inside the part at a place, where they are code
abbrev pub inside : Laid → ℕ → List Item
inside c at = if has_code (node_of (c.item at)) then parts_of (c.item at) else []

-- rows that are left, of which the first begins at a place, become others
pub record Walks (c : Laid) (at : ℕ) (ps qs : List ℕ) (old new : List (Place × ℕ)) : Type 0 where
  pub same : map (binding_seen c) new ++ in_rows c qs ≡ map (binding_seen c) old ++ in_rows c (at ∷ ps)
  pub fewer : nodes_left c qs < nodes_left c (at ∷ ps)

-- the latest row stands last
abbrev pub WalksOn : Laid → ℕ → List ℕ → List ℕ → List (Place × ℕ) → List (Place × ℕ) → Type 0
WalksOn c at ps qs old new = Walks c at (reverse ps) (reverse qs) old new

-- these are the calls in the part at a place
abbrev pub AreBindingsIn : Laid → ℕ → List (Place × ℕ) → Type 0
AreBindingsIn c at found = map (binding_seen c) found ≡ bindings_in (c.item at)
