-- One level of a tree: the node of a part, and the parts that it takes, in the order of writing. Where a node takes any
-- number of parts, the first is the mark.
use Rattle.std.specs.Prelude.{◌≡◌, ℕ, ◌+◌, ◌-◌, ◌<◌, All, map, Bool, true, false, List, [], ◌∷◌, Option, Some, None, length, drop}
use Rattle.qml_base.specs.declared.numbers.Place.{Place}
use Rattle.qml_syntax.specs.declared.operators.Operator.{Operator}
use Rattle.qml_syntax.specs.declared.operators.Prefix.{Prefix}
use Rattle.qml_syntax.specs.declared.node.Node.{Node}
use Rattle.qml_syntax.specs.declared.node.Node.TheVariants as node
use Rattle.qml_syntax.specs.Tree.{Expr, name, number, text, literal, paren, list, fields, steps, bumped, signed, chain, choose, assign, Exprs, no_exprs, an_expr, Fields, no_fields, a_field, Step, member, element, call, binding, Steps, no_steps, a_step, Signs, no_signs, a_sign, Links, no_links, a_link, Choices, no_choices, a_choice, Targets, no_targets, a_target, Stmt, empty, expr, block, declare, when, either, while, for, give, stop, again, Stmts, no_stmts, a_stmt, Vars, last_var, a_var, Maybe, nothing, just, First, no_first, first_expr, first_declare, Whole, whole_expr, whole_stmt, whole_body, Names, Import, import_module, import_text, TypeName, own_type, type_of, Kind, kind_var, kind_name, kind_list, Pars, no_pars, a_par, Function, function, SignalPars, no_signal_pars, a_signal_par, object, Members, no_members, a_member, Member, id, property, bare, alias, signal, method, given, group, child, Value, value_object, value_list, value_stmt, Objects, last_object, an_object, document, script, whole_document, whole_script}
use Rattle.qml_syntax.specs.Nodes.{Item, mark, of_expr, of_step, of_stmt, of_key, of_sign, of_link, of_choice, of_target, of_var, of_first, of_maybe, of_body, Parts, Table, parts_in, of_name, of_dot, of_file, of_qualifier, of_import, of_kind, of_par_name, of_par, of_signal_par, of_function, of_member, of_object, of_objects, of_document, of_script}
use Rattle.qml_syntax.specs.Listed.{end_of, last_sign, listed_whole}

-- ---- the node of a part

abbrev pub last_link : Bool → Operator → Place → Links → Node
last_link first op p no_links = node.Chain first op p
last_link first op p (a_link o q d ls) = last_link false o q ls

abbrev pub expr_node : Expr → Node
expr_node (name n p) = node.Name n p
expr_node (number n p) = node.Number n p
expr_node (text n p) = node.Text n p
expr_node (literal x p) = node.Literal x p
expr_node (paren p e) = node.Paren p
expr_node (list p es c) = node.List p c
expr_node (fields p fs c) = node.Fields p c
expr_node (steps e i is) = node.Steps
expr_node (bumped e i p) = node.Postfix i p
expr_node (signed g p ss e) = last_sign true g p ss
expr_node (chain e op p d ls) = last_link true op p ls
expr_node (choose c e cs d) = node.Choose
expr_node (assign t g p ts v) = node.Assign

abbrev pub step_node : Step → Node
step_node (member n p) = node.Member n p
step_node (element p e) = node.Element p
step_node (call p es) = node.Call p
step_node (binding p ss) = node.Binding p

abbrev pub stmt_node : Stmt → Node
stmt_node (empty p) = node.Empty p
stmt_node (expr e c) = node.Expression (end_of c)
stmt_node (block p ss) = node.Block p
stmt_node (declare p q vs c) = node.Declare p q (end_of c)
stmt_node (when p e d) = node.When p
stmt_node (either p e d r) = node.Either p
stmt_node (while p e d) = node.While p
stmt_node (for p i e f d) = node.For p
stmt_node (give p nothing c) = node.Give p (end_of c)
stmt_node (give p (just e) c) = node.GiveValue p (end_of c)
stmt_node (stop p c) = node.Stop p (end_of c)
stmt_node (again p c) = node.Again p (end_of c)

abbrev pub first_node : First → Node
first_node no_first = node.NoFirst
first_node (first_expr e) = node.FirstExpression
first_node (first_declare p q vs) = node.FirstDeclare p q

abbrev pub maybe_node : Maybe → Node
maybe_node nothing = node.Absent
maybe_node (just e) = node.Present

abbrev pub kind_node : Option Kind → Node
kind_node None = node.NoKind
kind_node (Some kind_var) = node.KindVar
kind_node (Some (kind_name n p ns)) = node.KindName
kind_node (Some (kind_list n p)) = node.KindList n p

abbrev pub import_node : Import → Node
import_node (import_module n p ns v q c) = node.ImportModule v (end_of c)
import_node (import_text n p q c) = node.ImportFile (end_of c)

abbrev pub member_node : Member → Node
member_node (id p n r c) = node.Id p (end_of c)
member_node (property p d q n r v) = node.Property p d
member_node (bare p d q n r c) = node.Bare p d (end_of c)
member_node (alias p d n r t z ns c) = node.Alias p d (end_of c)
member_node (signal p n r None c) = node.Signal p (end_of c)
member_node (signal p n r (Some ps) c) = node.SignalWith p (end_of c)
member_node (method f) = node.Method
member_node (given n p ns v) = node.Given
member_node (group n p ns ms) = node.Group
member_node (child o) = node.Child

abbrev pub node_of : Item → Node
node_of mark = node.Mark
node_of (of_expr e) = expr_node e
node_of (of_step i) = step_node i
node_of (of_stmt d) = stmt_node d
node_of (of_key q n p) = node.Key q n p
node_of (of_sign f g p) = node.Sign f g p
node_of (of_link f op p d) = node.Link f op p
node_of (of_choice f c e) = node.Choice f
node_of (of_target f t g p) = node.Target f g p
node_of (of_var n p) = node.Var n p
node_of (of_first i) = first_node i
node_of (of_maybe e) = maybe_node e
node_of (of_body ss) = node.Body
node_of (of_name n p) = node.First n p
node_of (of_dot n) = node.Dot n
node_of (of_file n p) = node.File n p
node_of (of_qualifier None) = node.Plain
node_of (of_qualifier (Some q)) = node.Qualifier q
node_of (of_import i) = import_node i
node_of (of_kind q) = kind_node q
node_of (of_par_name n) = node.ParameterName n
node_of (of_par n q) = node.Parameter
node_of (of_signal_par q n) = node.SignalParameter n
node_of (of_function (function p n r ps q ss)) = node.Function p
node_of (of_member x false) = member_node x
node_of (of_member x true) = node.Semi
node_of (of_object o) = node.Object
node_of (of_objects p os) = node.ObjectList p
node_of (of_document d) = node.Document
node_of (of_script (script b fs)) = node.Script b

-- ---- the parts that it takes

abbrev pub exprs_parts : Exprs → List Item
exprs_parts no_exprs = []
exprs_parts (an_expr e es) = of_expr e ∷ exprs_parts es

abbrev pub fields_parts : Fields → List Item
fields_parts no_fields = []
fields_parts (a_field q n p e fs) = of_key q n p ∷ of_expr e ∷ fields_parts fs

abbrev pub steps_parts : Steps → List Item
steps_parts no_steps = []
steps_parts (a_step i is) = of_step i ∷ steps_parts is

abbrev pub stmts_parts : Stmts → List Item
stmts_parts no_stmts = []
stmts_parts (a_stmt d ss) = of_stmt d ∷ stmts_parts ss

-- a value, where there is one, before other parts
abbrev pub value_parts : Maybe → List Item → List Item
value_parts nothing is = is
value_parts (just e) is = of_expr e ∷ is

abbrev pub vars_parts : Vars → List Item
vars_parts (last_var n p i) = of_var n p ∷ value_parts i []
vars_parts (a_var n p i vs) = of_var n p ∷ value_parts i (vars_parts vs)

-- all prefixes but the last, and the operand
abbrev pub signs_parts : Bool → Prefix → Place → Signs → Expr → List Item
signs_parts first g p no_signs e = of_expr e ∷ []
signs_parts first g p (a_sign h q ss) e = of_sign first g p ∷ signs_parts false h q ss e

-- all operators but the last, each with its right operand, and the last operand
abbrev pub links_parts : Bool → Operator → Place → Expr → Links → List Item
links_parts first op p d no_links = of_expr d ∷ []
links_parts first op p d (a_link o q e ls) = of_link first op p d ∷ links_parts false o q e ls

abbrev pub choices_parts : Choices → Expr → List Item
choices_parts no_choices d = of_expr d ∷ []
choices_parts (a_choice c e cs) d = of_choice false c e ∷ choices_parts cs d

abbrev pub targets_parts : Targets → Expr → List Item
targets_parts no_targets v = of_expr v ∷ []
targets_parts (a_target t g p ts) v = of_target false t g p ∷ targets_parts ts v

abbrev pub expr_parts : Expr → List Item
expr_parts (paren p e) = of_expr e ∷ []
expr_parts (list p es c) = mark ∷ exprs_parts es
expr_parts (fields p fs c) = mark ∷ fields_parts fs
expr_parts (steps e i is) = of_expr e ∷ of_step i ∷ steps_parts is
expr_parts (bumped e i p) = of_expr e ∷ []
expr_parts (signed g p ss e) = signs_parts true g p ss e
expr_parts (chain e op p d ls) = of_expr e ∷ links_parts true op p d ls
expr_parts (choose c e cs d) = of_choice true c e ∷ choices_parts cs d
expr_parts (assign t g p ts v) = of_target true t g p ∷ targets_parts ts v
expr_parts _ = []

abbrev pub step_parts : Step → List Item
step_parts (member n p) = []
step_parts (element p e) = of_expr e ∷ []
step_parts (call p es) = mark ∷ exprs_parts es
step_parts (binding p ss) = mark ∷ stmts_parts ss

abbrev pub stmt_parts : Stmt → List Item
stmt_parts (expr e c) = of_expr e ∷ []
stmt_parts (block p ss) = mark ∷ stmts_parts ss
stmt_parts (declare p q vs c) = mark ∷ vars_parts vs
stmt_parts (when p e d) = of_expr e ∷ of_stmt d ∷ []
stmt_parts (either p e d r) = of_expr e ∷ of_stmt d ∷ of_stmt r ∷ []
stmt_parts (while p e d) = of_expr e ∷ of_stmt d ∷ []
stmt_parts (for p i e f d) = of_first i ∷ of_maybe e ∷ of_maybe f ∷ of_stmt d ∷ []
stmt_parts (give p e c) = value_parts e []
stmt_parts _ = []

abbrev pub first_parts : First → List Item
first_parts no_first = []
first_parts (first_expr e) = of_expr e ∷ []
first_parts (first_declare p q vs) = mark ∷ vars_parts vs

-- the names behind dots, before other parts
abbrev pub dots_parts : Names → List Item → List Item
dots_parts [] is = is
dots_parts (n ∷ ns) is = of_dot n ∷ dots_parts ns is

abbrev pub type_parts : TypeName → List Item → List Item
type_parts (own_type n p) is = of_name n p ∷ is
type_parts (type_of q p n) is = of_name q p ∷ of_dot n ∷ is

abbrev pub imports_parts : List Import → List Item → List Item
imports_parts [] is = is
imports_parts (i ∷ more) is = of_import i ∷ imports_parts more is

abbrev pub pars_parts : Pars → List Item → List Item
pars_parts no_pars is = is
pars_parts (a_par n q ps) is = of_par n q ∷ pars_parts ps is

abbrev pub signal_pars_parts : SignalPars → List Item
signal_pars_parts no_signal_pars = []
signal_pars_parts (a_signal_par q n ps) = of_signal_par q n ∷ signal_pars_parts ps

abbrev pub functions_parts : List Function → List Item
functions_parts [] = []
functions_parts (f ∷ fs) = of_function f ∷ functions_parts fs

abbrev pub members_parts : Members → List Item
members_parts no_members = []
members_parts (a_member x b ms) = of_member x b ∷ members_parts ms

abbrev pub objects_parts : Objects → List Item
objects_parts (last_object o) = of_object o ∷ []
objects_parts (an_object o os) = of_object o ∷ objects_parts os

abbrev pub value_item : Value → Item
value_item (value_object o) = of_object o
value_item (value_list p os) = of_objects p os
value_item (value_stmt d) = of_stmt d

abbrev pub import_parts : Import → List Item
import_parts (import_module n p ns v q c) = of_name n p ∷ dots_parts ns (of_qualifier q ∷ [])
import_parts (import_text n p q c) = of_file n p ∷ of_qualifier q ∷ []

abbrev pub kind_parts : Option Kind → List Item
kind_parts (Some (kind_name n p ns)) = of_name n p ∷ dots_parts ns []
kind_parts _ = []

abbrev pub function_parts : Function → List Item
function_parts (function p n r ps q ss) = of_name n r ∷ mark ∷ pars_parts ps (of_kind q ∷ of_body ss ∷ [])

abbrev pub member_parts : Member → List Item
member_parts (id p n r c) = of_name n r ∷ []
member_parts (property p d q n r v) = of_kind (Some q) ∷ of_name n r ∷ value_item v ∷ []
member_parts (bare p d q n r c) = of_kind (Some q) ∷ of_name n r ∷ []
member_parts (alias p d n r t z ns c) = of_name n r ∷ of_name t z ∷ dots_parts ns []
member_parts (signal p n r None c) = of_name n r ∷ []
member_parts (signal p n r (Some ps) c) = of_name n r ∷ mark ∷ signal_pars_parts ps
member_parts (method f) = of_function f ∷ []
member_parts (given n p ns v) = of_name n p ∷ dots_parts ns (value_item v ∷ [])
member_parts (group n p ns ms) = of_name n p ∷ dots_parts ns (mark ∷ members_parts ms)
member_parts (child o) = of_object o ∷ []

abbrev pub parts_of : Item → List Item
parts_of (of_expr e) = expr_parts e
parts_of (of_step i) = step_parts i
parts_of (of_stmt d) = stmt_parts d
parts_of (of_link f op p d) = of_expr d ∷ []
parts_of (of_choice f c e) = of_expr c ∷ of_expr e ∷ []
parts_of (of_target f t g p) = of_expr t ∷ []
parts_of (of_first i) = first_parts i
parts_of (of_maybe e) = value_parts e []
parts_of (of_body ss) = mark ∷ stmts_parts ss
parts_of (of_import i) = import_parts i
parts_of (of_kind q) = kind_parts q
parts_of (of_par n q) = of_par_name n ∷ of_kind q ∷ []
parts_of (of_signal_par q n) = of_kind (Some q) ∷ []
parts_of (of_function f) = function_parts f
parts_of (of_member x false) = member_parts x
parts_of (of_member x true) = of_member x false ∷ []
parts_of (of_object (object x ms)) = type_parts x (mark ∷ members_parts ms)
parts_of (of_objects p os) = mark ∷ objects_parts os
parts_of (of_document (document is o)) = mark ∷ imports_parts is (of_object o ∷ [])
parts_of (of_script (script b fs)) = mark ∷ functions_parts fs
parts_of _ = []

-- ---- places in a table

-- the first nodes, this many
abbrev pub first : ℕ → Table → Table
first k t = drop (length t - k) t

abbrev pub top : Parts → Item
top [] = mark
top (i ∷ s) = i

-- the part whose node stands behind this many others
abbrev pub item_at : Table → ℕ → Item
item_at t k = top (parts_in (first (k + 1) t))

-- the node at a place, and the places of its parts in the order of writing: all before it
pub record IsLevel (t : Table) (at : ℕ) (x : Node) (places : List ℕ) : Type 0 where
  pub within : at < length t
  pub node : x ≡ node_of (item_at t at)
  pub parts : map (item_at t) places ≡ parts_of (item_at t at)
  pub before : All (λ p. p < at) places

-- ---- whole trees

abbrev pub whole_of : Item → Option Whole
whole_of (of_expr e) = Some (whole_expr e)
whole_of (of_stmt d) = Some (whole_stmt d)
whole_of (of_body ss) = Some (whole_body ss)
whole_of (of_document d) = Some (whole_document d)
whole_of (of_script s) = Some (whole_script s)
whole_of _ = None

abbrev pub only_whole : Parts → Option Whole
only_whole (i ∷ []) = whole_of i
only_whole _ = None

abbrev pub root_of : Whole → Item
root_of (whole_expr e) = of_expr e
root_of (whole_stmt d) = of_stmt d
root_of (whole_body ss) = of_body ss
root_of (whole_document d) = of_document d
root_of (whole_script s) = of_script s

-- the tree of these nodes, if they are those of one
abbrev pub whole_in : Table → Option Whole
whole_in t = only_whole (parts_in t)

-- whether these nodes are those of a tree, in their order
abbrev pub IsListing : Table → Type 0
IsListing t = (w : Whole) × (listed_whole w ≡ t)
