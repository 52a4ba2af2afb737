-- The nodes of a tree, children before their parents, on top of those before. The latest node stands in front.
use Rattle.std.specs.Prelude.{Bool, true, false, List, [], ◌∷◌, Option, Some, None}
use Rattle.qml_base.specs.declared.numbers.Place.{Place}
use Rattle.qml_syntax.specs.declared.operators.Operator.{Operator}
use Rattle.qml_syntax.specs.declared.operators.Prefix.{Prefix}
use Rattle.qml_syntax.specs.declared.node.Close as code
use Rattle.qml_syntax.specs.declared.node.Close.TheVariants as end
use Rattle.qml_syntax.specs.declared.node.Node.{Node}
use Rattle.qml_syntax.specs.declared.node.Node.TheVariants as node
use Rattle.qml_syntax.specs.Tree.{Close, semi, auto, Expr, name, number, text, literal, paren, list, fields, steps, bumped, signed, chain, choose, assign, Exprs, no_exprs, an_expr, Fields, no_fields, a_field, Step, member, element, call, binding, Steps, no_steps, a_step, Signs, no_signs, a_sign, Links, no_links, a_link, Choices, no_choices, a_choice, Targets, no_targets, a_target, Stmt, empty, expr, block, declare, when, either, while, for, give, stop, again, Stmts, no_stmts, a_stmt, Vars, last_var, a_var, Maybe, nothing, just, First, no_first, first_expr, first_declare, Whole, whole_expr, whole_stmt, whole_body, Units, Names, Import, import_module, import_text, TypeName, own_type, type_of, Kind, kind_var, kind_name, kind_list, Pars, no_pars, a_par, Function, function, SignalPars, no_signal_pars, a_signal_par, Object, object, Members, no_members, a_member, Member, id, property, bare, alias, signal, method, given, group, child, Value, value_object, value_list, value_stmt, Objects, last_object, an_object, Document, document, Script, script, whole_document, whole_script}
use Rattle.qml_syntax.specs.Nodes.{Table}

abbrev pub end_of : Close → code.Close
end_of semi = end.Semi
end_of auto = end.Auto

-- all prefixes but the last, and the node of the last; each says whether it is the first
abbrev pub listed_signs : Bool → Prefix → Place → Signs → Table → Table
listed_signs first g p no_signs s = s
listed_signs first g p (a_sign h q ss) s = listed_signs false h q ss (node.Sign first g p ∷ s)

abbrev pub last_sign : Bool → Prefix → Place → Signs → Node
last_sign first g p no_signs = node.Signed first g p
last_sign first g p (a_sign h q ss) = last_sign false h q ss

abbrev mutual
  pub listed : Expr → Table → Table
  listed (name n p) s = node.Name n p ∷ s
  listed (number n p) s = node.Number n p ∷ s
  listed (text n p) s = node.Text n p ∷ s
  listed (literal x p) s = node.Literal x p ∷ s
  listed (paren p e) s = node.Paren p ∷ listed e s
  listed (list p es c) s = node.List p c ∷ listed_exprs es (node.Mark ∷ s)
  listed (fields p fs c) s = node.Fields p c ∷ listed_fields fs (node.Mark ∷ s)
  listed (steps e i is) s = node.Steps ∷ listed_steps is (listed_step i (listed e s))
  listed (bumped e i p) s = node.Postfix i p ∷ listed e s
  listed (signed g p ss e) s = last_sign true g p ss ∷ listed e (listed_signs true g p ss s)
  listed (chain e op p d ls) s = listed_links true op p ls (listed d (listed e s))
  listed (choose c e cs d) s = node.Choose ∷ listed d (listed_choices cs (node.Choice true ∷ listed e (listed c s)))
  listed (assign t g p ts v) s = node.Assign ∷ listed v (listed_targets ts (node.Target true g p ∷ listed t s))

  pub listed_exprs : Exprs → Table → Table
  listed_exprs no_exprs s = s
  listed_exprs (an_expr e es) s = listed_exprs es (listed e s)

  pub listed_fields : Fields → Table → Table
  listed_fields no_fields s = s
  listed_fields (a_field q n p e fs) s = listed_fields fs (listed e (node.Key q n p ∷ s))

  pub listed_step : Step → Table → Table
  listed_step (member n p) s = node.Member n p ∷ s
  listed_step (element p e) s = node.Element p ∷ listed e s
  listed_step (call p es) s = node.Call p ∷ listed_exprs es (node.Mark ∷ s)
  listed_step (binding p ss) s = node.Binding p ∷ listed_stmts ss (node.Mark ∷ s)

  pub listed_steps : Steps → Table → Table
  listed_steps no_steps s = s
  listed_steps (a_step i is) s = listed_steps is (listed_step i s)

  -- behind the right operand of an operator
  pub listed_links : Bool → Operator → Place → Links → Table → Table
  listed_links first op p no_links s = node.Chain first op p ∷ s
  listed_links first op p (a_link o q d ls) s = listed_links false o q ls (listed d (node.Link first op p ∷ s))

  pub listed_choices : Choices → Table → Table
  listed_choices no_choices s = s
  listed_choices (a_choice c e cs) s = listed_choices cs (node.Choice false ∷ listed e (listed c s))

  pub listed_targets : Targets → Table → Table
  listed_targets no_targets s = s
  listed_targets (a_target t g p ts) s = listed_targets ts (node.Target false g p ∷ listed t s)

  pub listed_stmt : Stmt → Table → Table
  listed_stmt (empty p) s = node.Empty p ∷ s
  listed_stmt (expr e c) s = node.Expression (end_of c) ∷ listed e s
  listed_stmt (block p ss) s = node.Block p ∷ listed_stmts ss (node.Mark ∷ s)
  listed_stmt (declare p q vs c) s = node.Declare p q (end_of c) ∷ listed_vars vs (node.Mark ∷ s)
  listed_stmt (when p e d) s = node.When p ∷ listed_stmt d (listed e s)
  listed_stmt (either p e d r) s = node.Either p ∷ listed_stmt r (listed_stmt d (listed e s))
  listed_stmt (while p e d) s = node.While p ∷ listed_stmt d (listed e s)
  listed_stmt (for p i e f d) s = node.For p ∷ listed_stmt d (listed_maybe f (listed_maybe e (listed_first i s)))
  listed_stmt (give p e c) s = listed_give p c e s
  listed_stmt (stop p c) s = node.Stop p (end_of c) ∷ s
  listed_stmt (again p c) s = node.Again p (end_of c) ∷ s

  pub listed_give : Place → Close → Maybe → Table → Table
  listed_give p c nothing s = node.Give p (end_of c) ∷ s
  listed_give p c (just e) s = node.GiveValue p (end_of c) ∷ listed e s

  pub listed_stmts : Stmts → Table → Table
  listed_stmts no_stmts s = s
  listed_stmts (a_stmt d ss) s = listed_stmts ss (listed_stmt d s)

  pub listed_vars : Vars → Table → Table
  listed_vars (last_var n p i) s = listed_value i (node.Var n p ∷ s)
  listed_vars (a_var n p i vs) s = listed_vars vs (listed_value i (node.Var n p ∷ s))

  pub listed_value : Maybe → Table → Table
  listed_value nothing s = s
  listed_value (just e) s = listed e s

  pub listed_maybe : Maybe → Table → Table
  listed_maybe nothing s = node.Absent ∷ s
  listed_maybe (just e) s = node.Present ∷ listed e s

  pub listed_first : First → Table → Table
  listed_first no_first s = node.NoFirst ∷ s
  listed_first (first_expr e) s = node.FirstExpression ∷ listed e s
  listed_first (first_declare p q vs) s = node.FirstDeclare p q ∷ listed_vars vs (node.Mark ∷ s)

-- ---- documents and script files

abbrev pub listed_dots : Names → Table → Table
listed_dots [] s = s
listed_dots (n ∷ ns) s = listed_dots ns (node.Dot n ∷ s)

abbrev pub listed_type : TypeName → Table → Table
listed_type (own_type n p) s = node.First n p ∷ s
listed_type (type_of q p n) s = node.Dot n ∷ node.First q p ∷ s

abbrev pub listed_kind : Kind → Table → Table
listed_kind kind_var s = node.KindVar ∷ s
listed_kind (kind_name n p ns) s = node.KindName ∷ listed_dots ns (node.First n p ∷ s)
listed_kind (kind_list n p) s = node.KindList n p ∷ s

abbrev pub listed_qualifier : Option Units → Table → Table
listed_qualifier None s = node.Plain ∷ s
listed_qualifier (Some q) s = node.Qualifier q ∷ s

abbrev pub listed_import : Import → Table → Table
listed_import (import_module n p ns v q c) s = node.ImportModule v (end_of c) ∷ listed_qualifier q (listed_dots ns (node.First n p ∷ s))
listed_import (import_text n p q c) s = node.ImportFile (end_of c) ∷ listed_qualifier q (node.File n p ∷ s)

abbrev pub listed_imports : List Import → Table → Table
listed_imports [] s = s
listed_imports (i ∷ is) s = listed_imports is (listed_import i s)

abbrev pub listed_par_kind : Option Kind → Table → Table
listed_par_kind None s = node.NoKind ∷ s
listed_par_kind (Some q) s = listed_kind q s

abbrev pub listed_pars : Pars → Table → Table
listed_pars no_pars s = s
listed_pars (a_par n q ps) s = listed_pars ps (node.Parameter ∷ listed_par_kind q (node.ParameterName n ∷ s))

abbrev pub listed_function : Function → Table → Table
listed_function (function p n r ps q ss) s = node.Function p ∷ node.Body ∷ listed_stmts ss (node.Mark ∷ listed_par_kind q (listed_pars ps (node.Mark ∷ node.First n r ∷ s)))

abbrev pub listed_functions : List Function → Table → Table
listed_functions [] s = s
listed_functions (f ∷ fs) s = listed_functions fs (listed_function f s)

abbrev pub listed_signal_pars : SignalPars → Table → Table
listed_signal_pars no_signal_pars s = s
listed_signal_pars (a_signal_par q n ps) s = listed_signal_pars ps (node.SignalParameter n ∷ listed_kind q s)

abbrev pub listed_signal : Place → Option SignalPars → Close → Table → Table
listed_signal p None c s = node.Signal p (end_of c) ∷ s
listed_signal p (Some ps) c s = node.SignalWith p (end_of c) ∷ listed_signal_pars ps (node.Mark ∷ s)

abbrev pub listed_semi : Bool → Table → Table
listed_semi true s = node.Semi ∷ s
listed_semi false s = s

abbrev mutual
  pub listed_object : Object → Table → Table
  listed_object (object x ms) s = node.Object ∷ listed_members ms (node.Mark ∷ listed_type x s)

  pub listed_members : Members → Table → Table
  listed_members no_members s = s
  listed_members (a_member x b ms) s = listed_members ms (listed_semi b (listed_member x s))

  pub listed_member : Member → Table → Table
  listed_member (id p n r c) s = node.Id p (end_of c) ∷ node.First n r ∷ s
  listed_member (property p d q n r v) s = node.Property p d ∷ listed_content v (node.First n r ∷ listed_kind q s)
  listed_member (bare p d q n r c) s = node.Bare p d (end_of c) ∷ node.First n r ∷ listed_kind q s
  listed_member (alias p d n r t z ns c) s = node.Alias p d (end_of c) ∷ listed_dots ns (node.First t z ∷ node.First n r ∷ s)
  listed_member (signal p n r ps c) s = listed_signal p ps c (node.First n r ∷ s)
  listed_member (method f) s = node.Method ∷ listed_function f s
  listed_member (given n p ns v) s = node.Given ∷ listed_content v (listed_dots ns (node.First n p ∷ s))
  listed_member (group n p ns ms) s = node.Group ∷ listed_members ms (node.Mark ∷ listed_dots ns (node.First n p ∷ s))
  listed_member (child o) s = node.Child ∷ listed_object o s

  -- a member's value
  pub listed_content : Value → Table → Table
  listed_content (value_object o) s = listed_object o s
  listed_content (value_list p os) s = node.ObjectList p ∷ listed_objects os (node.Mark ∷ s)
  listed_content (value_stmt d) s = listed_stmt d s

  pub listed_objects : Objects → Table → Table
  listed_objects (last_object o) s = listed_object o s
  listed_objects (an_object o os) s = listed_objects os (listed_object o s)

abbrev pub listed_document : Document → Table
listed_document (document is o) = node.Document ∷ listed_object o (listed_imports is (node.Mark ∷ []))

abbrev pub listed_script : Script → Table
listed_script (script b fs) = node.Script b ∷ listed_functions fs (node.Mark ∷ [])

-- the nodes of a whole
abbrev pub listed_whole : Whole → Table
listed_whole (whole_expr e) = listed e []
listed_whole (whole_stmt d) = listed_stmt d []
listed_whole (whole_body ss) = node.Body ∷ listed_stmts ss (node.Mark ∷ [])
listed_whole (whole_document d) = listed_document d
listed_whole (whole_script s) = listed_script s
