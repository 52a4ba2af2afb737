-- Nodes of trees, children before their parents, as the parts that they leave.
use Rattle.std.specs.Prelude.{Bool, true, false, List, [], ◌∷◌, Option, Some, None}
use Rattle.qml_base.specs.declared.numbers.Place.{Place}
use Rattle.qml_syntax.specs.declared.operators.Operator.{Operator}
use Rattle.qml_syntax.specs.declared.operators.Prefix.{Prefix}
use Rattle.qml_syntax.specs.declared.operators.Assignment.{Assignment}
use Rattle.qml_syntax.specs.declared.node.Close as code
use Rattle.qml_syntax.specs.declared.node.Close.TheVariants as end
use Rattle.qml_syntax.specs.declared.node.Node.{Node}
use Rattle.qml_syntax.specs.declared.node.Node.TheVariants as node
use Rattle.qml_syntax.specs.Tree.{Units, Close, semi, auto, Expr, name, number, text, literal, paren, list, fields, bumped, no_exprs, no_fields, Step, member, element, call, binding, no_signs, no_links, no_choices, no_targets, Stmt, empty, expr, block, declare, when, either, while, for, give, stop, again, Stmts, no_stmts, Vars, last_var, Maybe, nothing, just, First, no_first, first_expr, first_declare, Names, Import, import_module, import_text, TypeName, own_type, type_of, Kind, kind_var, kind_name, kind_list, no_pars, Function, function, no_signal_pars, Object, object, no_members, Member, id, property, bare, alias, signal, method, given, group, child, Value, value_object, value_list, value_stmt, Objects, last_object, Document, document, Script, script}
use Rattle.qml_syntax.specs.Onto.{Field, Sign, Link, Choice, Target, Var, exprs_onto, fields_onto, stepped, signed_onto, chain_onto, choose_onto, assign_onto, vars_onto, stmts_onto}
use Rattle.qml_syntax.specs.Onto.{MarkedMember, Par, SignalPar, onto, members_onto, objects_onto, pars_onto, signal_pars_onto}

-- a part that no node has taken
pub data Item : Type 0 where
  mark : Item
  of_expr : Expr → Item
  of_step : Step → Item
  of_stmt : Stmt → Item
  of_key : Bool → Units → Place → Item
  of_sign : Bool → Prefix → Place → Item
  of_link : Bool → Operator → Place → Expr → Item
  of_choice : Bool → Expr → Expr → Item
  of_target : Bool → Expr → Assignment → Place → Item
  of_var : Units → Place → Item
  of_first : First → Item
  of_maybe : Maybe → Item
  of_body : Stmts → Item
  of_name : Units → Place → Item  -- the first of a path, or one that is declared
  of_dot : Units → Item
  of_file : Units → Place → Item
  of_qualifier : Option Units → Item
  of_import : Import → Item
  of_kind : Option Kind → Item
  of_par_name : Units → Item
  of_par : Units → Option Kind → Item
  of_signal_par : Kind → Units → Item
  of_function : Function → Item
  of_member : Member → Bool → Item  -- with a `;` behind it or not
  of_object : Object → Item
  of_objects : Place → Objects → Item
  of_document : Document → Item
  of_script : Script → Item

-- the latest part in front
abbrev pub Parts : Type 0
Parts = List Item

-- ---- single parts, with what stands for a part of another kind

abbrev pub no_expr : Expr
no_expr = name [] (record { line = 0; column = 0 })

abbrev pub no_stmt : Stmt
no_stmt = empty (record { line = 0; column = 0 })

abbrev pub below : Parts → Parts
below [] = []
below (i ∷ s) = s

abbrev pub top_expr : Parts → Expr
top_expr (of_expr e ∷ s) = e
top_expr _ = no_expr

abbrev pub top_stmt : Parts → Stmt
top_stmt (of_stmt d ∷ s) = d
top_stmt _ = no_stmt

abbrev pub top_first : Parts → First
top_first (of_first i ∷ s) = i
top_first _ = no_first

abbrev pub top_maybe : Parts → Maybe
top_maybe (of_maybe e ∷ s) = e
top_maybe _ = nothing

-- ---- parts in a row, and what is below them and their mark

abbrev pub exprs_in : Parts → List Expr
exprs_in (of_expr e ∷ s) = e ∷ exprs_in s
exprs_in _ = []

abbrev pub below_exprs : Parts → Parts
below_exprs (of_expr e ∷ s) = below_exprs s
below_exprs s = below s

abbrev pub stmts_in : Parts → List Stmt
stmts_in (of_stmt d ∷ s) = d ∷ stmts_in s
stmts_in _ = []

abbrev pub below_stmts : Parts → Parts
below_stmts (of_stmt d ∷ s) = below_stmts s
below_stmts s = below s

abbrev pub fields_in : Parts → List Field
fields_in (of_expr e ∷ of_key q n p ∷ s) = (q, n, p, e) ∷ fields_in s
fields_in _ = []

abbrev pub below_fields : Parts → Parts
below_fields (of_expr e ∷ of_key q n p ∷ s) = below_fields s
below_fields s = below s

abbrev pub vars_in : Parts → List Var
vars_in (of_expr e ∷ of_var n p ∷ s) = (n, p, just e) ∷ vars_in s
vars_in (of_var n p ∷ s) = (n, p, nothing) ∷ vars_in s
vars_in _ = []

abbrev pub below_vars : Parts → Parts
below_vars (of_expr e ∷ of_var n p ∷ s) = below_vars s
below_vars (of_var n p ∷ s) = below_vars s
below_vars s = below s

-- the names and values of a declaration, as a tree has them
abbrev pub vars_of : List Var → Vars
vars_of [] = last_var [] (record { line = 0; column = 0 }) nothing
vars_of (v ∷ back) = vars_onto back (last_var v.0 v.1 v.2)

-- ---- an expression with steps behind it

abbrev pub steps_in : Parts → List Step
steps_in (of_step i ∷ s) = i ∷ steps_in s
steps_in _ = []

abbrev pub below_steps : Parts → Parts
below_steps (of_step i ∷ s) = below_steps s
below_steps s = s

-- ---- chains: each part says whether it is the first

abbrev pub signs_in : Parts → List Sign
signs_in (of_sign true h p ∷ s) = (h, p) ∷ []
signs_in (of_sign false h p ∷ s) = (h, p) ∷ signs_in s
signs_in _ = []

abbrev pub below_signs : Parts → Parts
below_signs (of_sign true h p ∷ s) = s
below_signs (of_sign false h p ∷ s) = below_signs s
below_signs s = s

abbrev pub links_in : Parts → List Link
links_in (of_link true op p d ∷ s) = (op, p, d) ∷ []
links_in (of_link false op p d ∷ s) = (op, p, d) ∷ links_in s
links_in _ = []

abbrev pub below_links : Parts → Parts
below_links (of_link true op p d ∷ s) = s
below_links (of_link false op p d ∷ s) = below_links s
below_links s = s

abbrev pub choices_in : Parts → List Choice
choices_in (of_choice true c e ∷ s) = (c, e) ∷ []
choices_in (of_choice false c e ∷ s) = (c, e) ∷ choices_in s
choices_in _ = []

abbrev pub below_choices : Parts → Parts
below_choices (of_choice true c e ∷ s) = s
below_choices (of_choice false c e ∷ s) = below_choices s
below_choices s = s

abbrev pub targets_in : Parts → List Target
targets_in (of_target true t h p ∷ s) = (t, h, p) ∷ []
targets_in (of_target false t h p ∷ s) = (t, h, p) ∷ targets_in s
targets_in _ = []

abbrev pub below_targets : Parts → Parts
below_targets (of_target true t h p ∷ s) = s
below_targets (of_target false t h p ∷ s) = below_targets s
below_targets s = s

-- where the part before was not the first, the chain goes on with those below
abbrev pub signs_behind : Bool → Parts → List Sign
signs_behind true s = []
signs_behind false s = signs_in s

abbrev pub below_signs_behind : Bool → Parts → Parts
below_signs_behind true s = s
below_signs_behind false s = below_signs s

abbrev pub links_behind : Bool → Parts → List Link
links_behind true s = []
links_behind false s = links_in s

abbrev pub below_links_behind : Bool → Parts → Parts
below_links_behind true s = s
below_links_behind false s = below_links s

abbrev pub choose_of : List Choice → Expr → Expr
choose_of [] d = d
choose_of (x ∷ back) d = choose_onto back x.0 x.1 no_choices d

abbrev pub assign_of : List Target → Expr → Expr
assign_of [] v = v
assign_of (x ∷ back) v = assign_onto back x.0 x.1 x.2 no_targets v

-- ---- parts of documents and script files

abbrev pub no_object : Object
no_object = object (own_type [] (record { line = 0; column = 0 })) no_members

abbrev pub top_name : Parts → Units × Place
top_name (of_name n p ∷ s) = (n, p)
top_name _ = ([], record { line = 0; column = 0 })

abbrev pub top_file : Parts → Units × Place
top_file (of_file n p ∷ s) = (n, p)
top_file _ = ([], record { line = 0; column = 0 })

abbrev pub top_qualifier : Parts → Option Units
top_qualifier (of_qualifier q ∷ s) = q
top_qualifier _ = None

abbrev pub top_kind : Parts → Option Kind
top_kind (of_kind q ∷ s) = q
top_kind _ = None

abbrev pub some_kind : Option Kind → Kind
some_kind (Some q) = q
some_kind None = kind_var

abbrev pub top_par_name : Parts → Units
top_par_name (of_par_name n ∷ s) = n
top_par_name _ = []

abbrev pub top_body : Parts → Stmts
top_body (of_body ss ∷ s) = ss
top_body _ = no_stmts

abbrev pub top_function : Parts → Function
top_function (of_function f ∷ s) = f
top_function _ = function (record { line = 0; column = 0 }) [] (record { line = 0; column = 0 }) no_pars None no_stmts

abbrev pub top_member : Parts → Member
top_member (of_member x b ∷ s) = x
top_member _ = child no_object

abbrev pub top_object : Parts → Object
top_object (of_object o ∷ s) = o
top_object _ = no_object

abbrev pub top_value : Parts → Value
top_value (of_object o ∷ s) = value_object o
top_value (of_objects p os ∷ s) = value_list p os
top_value s = value_stmt (top_stmt s)

-- a path: its first name and those behind dots
abbrev pub dots_in : Parts → List Units
dots_in (of_dot n ∷ s) = n ∷ dots_in s
dots_in _ = []

abbrev pub below_dots : Parts → Parts
below_dots (of_dot n ∷ s) = below_dots s
below_dots s = s

abbrev pub path_in : Parts → (Units × Place) × Names
path_in s = (top_name (below_dots s), onto (dots_in s) [])

abbrev pub below_path : Parts → Parts
below_path s = below (below_dots s)

abbrev pub type_named : (Units × Place) × Names → TypeName
type_named (x, []) = own_type x.0 x.1
type_named (x, n ∷ ns) = type_of x.0 x.1 n

abbrev pub imports_in : Parts → List Import
imports_in (of_import i ∷ s) = i ∷ imports_in s
imports_in _ = []

abbrev pub below_imports : Parts → Parts
below_imports (of_import i ∷ s) = below_imports s
below_imports s = below s

abbrev pub pars_in : Parts → List Par
pars_in (of_par n q ∷ s) = (n, q) ∷ pars_in s
pars_in _ = []

abbrev pub below_pars : Parts → Parts
below_pars (of_par n q ∷ s) = below_pars s
below_pars s = below s

abbrev pub signal_pars_in : Parts → List SignalPar
signal_pars_in (of_signal_par q n ∷ s) = (q, n) ∷ signal_pars_in s
signal_pars_in _ = []

abbrev pub below_signal_pars : Parts → Parts
below_signal_pars (of_signal_par q n ∷ s) = below_signal_pars s
below_signal_pars s = below s

abbrev pub functions_in : Parts → List Function
functions_in (of_function f ∷ s) = f ∷ functions_in s
functions_in _ = []

abbrev pub below_functions : Parts → Parts
below_functions (of_function f ∷ s) = below_functions s
below_functions s = below s

abbrev pub members_in : Parts → List MarkedMember
members_in (of_member x b ∷ s) = (x, b) ∷ members_in s
members_in _ = []

abbrev pub below_members : Parts → Parts
below_members (of_member x b ∷ s) = below_members s
below_members s = below s

abbrev pub objects_in : Parts → List Object
objects_in (of_object o ∷ s) = o ∷ objects_in s
objects_in _ = []

abbrev pub below_objects : Parts → Parts
below_objects (of_object o ∷ s) = below_objects s
below_objects s = below s

abbrev pub objects_of : List Object → Objects
objects_of [] = last_object no_object
objects_of (o ∷ back) = objects_onto back (last_object o)

-- ---- what a node does to the parts

abbrev pub close_of : code.Close → Close
close_of end.Semi = semi
close_of end.Auto = auto

-- a node of a path, an import, a kind or a function
abbrev pub apply_named : Node → Parts → Parts
apply_named (node.First n p) s = of_name n p ∷ s
apply_named (node.Dot n) s = of_dot n ∷ s
apply_named (node.File n p) s = of_file n p ∷ s
apply_named node.Plain s = of_qualifier None ∷ s
apply_named (node.Qualifier n) s = of_qualifier (Some n) ∷ s
apply_named (node.ImportModule v c) s = of_import (import_module (path_in (below s)).0.0 (path_in (below s)).0.1 (path_in (below s)).1 v (top_qualifier s) (close_of c)) ∷ below_path (below s)
apply_named (node.ImportFile c) s = of_import (import_text (top_file (below s)).0 (top_file (below s)).1 (top_qualifier s) (close_of c)) ∷ below (below s)
apply_named node.KindVar s = of_kind (Some kind_var) ∷ s
apply_named node.KindName s = of_kind (Some (kind_name (path_in s).0.0 (path_in s).0.1 (path_in s).1)) ∷ below_path s
apply_named (node.KindList n p) s = of_kind (Some (kind_list n p)) ∷ s
apply_named node.NoKind s = of_kind None ∷ s
apply_named (node.ParameterName n) s = of_par_name n ∷ s
apply_named node.Parameter s = of_par (top_par_name (below s)) (top_kind s) ∷ below (below s)
apply_named (node.SignalParameter n) s = of_signal_par (some_kind (top_kind s)) n ∷ below s
apply_named (node.Function p) s = of_function (function p (top_name (below_pars (below (below s)))).0 (top_name (below_pars (below (below s)))).1 (pars_onto (pars_in (below (below s))) no_pars) (top_kind (below s)) (top_body s)) ∷ below (below_pars (below (below s)))
apply_named _ s = s

-- a node of an object, or a whole
abbrev pub apply_member : Node → Parts → Parts
apply_member (node.Id p c) s = of_member (id p (top_name s).0 (top_name s).1 (close_of c)) false ∷ below s
apply_member (node.Property p d) s = of_member (property p d (some_kind (top_kind (below (below s)))) (top_name (below s)).0 (top_name (below s)).1 (top_value s)) false ∷ below (below (below s))
apply_member (node.Bare p d c) s = of_member (bare p d (some_kind (top_kind (below s))) (top_name s).0 (top_name s).1 (close_of c)) false ∷ below (below s)
apply_member (node.Alias p d c) s = of_member (alias p d (top_name (below_path s)).0 (top_name (below_path s)).1 (path_in s).0.0 (path_in s).0.1 (path_in s).1 (close_of c)) false ∷ below (below_path s)
apply_member (node.Signal p c) s = of_member (signal p (top_name s).0 (top_name s).1 None (close_of c)) false ∷ below s
apply_member (node.SignalWith p c) s = of_member (signal p (top_name (below_signal_pars s)).0 (top_name (below_signal_pars s)).1 (Some (signal_pars_onto (signal_pars_in s) no_signal_pars)) (close_of c)) false ∷ below (below_signal_pars s)
apply_member node.Method s = of_member (method (top_function s)) false ∷ below s
apply_member node.Given s = of_member (given (path_in (below s)).0.0 (path_in (below s)).0.1 (path_in (below s)).1 (top_value s)) false ∷ below_path (below s)
apply_member node.Group s = of_member (group (path_in (below_members s)).0.0 (path_in (below_members s)).0.1 (path_in (below_members s)).1 (members_onto (members_in s) no_members)) false ∷ below_path (below_members s)
apply_member node.Child s = of_member (child (top_object s)) false ∷ below s
apply_member node.Semi s = of_member (top_member s) true ∷ below s
apply_member node.Object s = of_object (object (type_named (path_in (below_members s))) (members_onto (members_in s) no_members)) ∷ below_path (below_members s)
apply_member (node.ObjectList p) s = of_objects p (objects_of (objects_in s)) ∷ below_objects s
apply_member node.Document s = of_document (document (onto (imports_in (below s)) []) (top_object s)) ∷ below_imports (below s)
apply_member (node.Script b) s = of_script (script b (onto (functions_in s) [])) ∷ below_functions s
apply_member x s = apply_named x s

abbrev pub apply : Node → Parts → Parts
apply node.Mark s = mark ∷ s
apply (node.Name n p) s = of_expr (name n p) ∷ s
apply (node.Number n p) s = of_expr (number n p) ∷ s
apply (node.Text n p) s = of_expr (text n p) ∷ s
apply (node.Literal x p) s = of_expr (literal x p) ∷ s
apply (node.Paren p) s = of_expr (paren p (top_expr s)) ∷ below s
apply (node.List p c) s = of_expr (list p (exprs_onto (exprs_in s) no_exprs) c) ∷ below_exprs s
apply (node.Fields p c) s = of_expr (fields p (fields_onto (fields_in s) no_fields) c) ∷ below_fields s
apply (node.Key q n p) s = of_key q n p ∷ s
apply (node.Member n p) s = of_step (member n p) ∷ s
apply (node.Element p) s = of_step (element p (top_expr s)) ∷ below s
apply (node.Call p) s = of_step (call p (exprs_onto (exprs_in s) no_exprs)) ∷ below_exprs s
apply (node.Binding p) s = of_step (binding p (stmts_onto (stmts_in s) no_stmts)) ∷ below_stmts s
apply node.Steps s = of_expr (stepped (top_expr (below_steps s)) (steps_in s)) ∷ below (below_steps s)
apply (node.Postfix i p) s = of_expr (bumped (top_expr s) i p) ∷ below s
apply (node.Sign f h p) s = of_sign f h p ∷ s
apply (node.Signed f h p) s = of_expr (signed_onto (signs_behind f (below s)) h p no_signs (top_expr s)) ∷ below_signs_behind f (below s)
apply (node.Link f op p) s = of_link f op p (top_expr s) ∷ below s
apply (node.Chain f op p) s = of_expr (chain_onto (top_expr (below_links_behind f (below s))) (links_behind f (below s)) op p (top_expr s) no_links) ∷ below (below_links_behind f (below s))
apply (node.Choice f) s = of_choice f (top_expr (below s)) (top_expr s) ∷ below (below s)
apply node.Choose s = of_expr (choose_of (choices_in (below s)) (top_expr s)) ∷ below_choices (below s)
apply (node.Target f h p) s = of_target f (top_expr s) h p ∷ below s
apply node.Assign s = of_expr (assign_of (targets_in (below s)) (top_expr s)) ∷ below_targets (below s)
apply (node.Empty p) s = of_stmt (empty p) ∷ s
apply (node.Expression c) s = of_stmt (expr (top_expr s) (close_of c)) ∷ below s
apply (node.Block p) s = of_stmt (block p (stmts_onto (stmts_in s) no_stmts)) ∷ below_stmts s
apply (node.Var n p) s = of_var n p ∷ s
apply (node.Declare p q c) s = of_stmt (declare p q (vars_of (vars_in s)) (close_of c)) ∷ below_vars s
apply (node.When p) s = of_stmt (when p (top_expr (below s)) (top_stmt s)) ∷ below (below s)
apply (node.Either p) s = of_stmt (either p (top_expr (below (below s))) (top_stmt (below s)) (top_stmt s)) ∷ below (below (below s))
apply (node.While p) s = of_stmt (while p (top_expr (below s)) (top_stmt s)) ∷ below (below s)
apply (node.For p) s = of_stmt (for p (top_first (below (below (below s)))) (top_maybe (below (below s))) (top_maybe (below s)) (top_stmt s)) ∷ below (below (below (below s)))
apply node.NoFirst s = of_first no_first ∷ s
apply node.FirstExpression s = of_first (first_expr (top_expr s)) ∷ below s
apply (node.FirstDeclare p q) s = of_first (first_declare p q (vars_of (vars_in s))) ∷ below_vars s
apply node.Absent s = of_maybe nothing ∷ s
apply node.Present s = of_maybe (just (top_expr s)) ∷ below s
apply (node.Give p c) s = of_stmt (give p nothing (close_of c)) ∷ s
apply (node.GiveValue p c) s = of_stmt (give p (just (top_expr s)) (close_of c)) ∷ below s
apply (node.Stop p c) s = of_stmt (stop p (close_of c)) ∷ s
apply (node.Again p c) s = of_stmt (again p (close_of c)) ∷ s
apply node.Body s = of_body (stmts_onto (stmts_in s) no_stmts) ∷ below_stmts s
apply x s = apply_member x s

-- ---- nodes in a row, the latest in front

abbrev pub Table : Type 0
Table = List Node

-- the parts that these nodes leave
abbrev pub parts_in : Table → Parts
parts_in [] = []
parts_in (x ∷ xs) = apply x (parts_in xs)

abbrev pub is_mark : Node → Bool
is_mark node.Mark = true
is_mark _ = false

abbrev pub at_mark : Table → Bool
at_mark [] = false
at_mark (x ∷ xs) = is_mark x
