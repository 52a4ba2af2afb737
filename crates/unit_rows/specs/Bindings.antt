-- The functions of the `Qt.binding`s in code, with the places of their calls, in the order of writing; those in such a
-- function come behind it.
use Rattle.std.specs.Prelude.{List, [], ◌∷◌, ◌++◌}
use Rattle.qml_base.specs.declared.numbers.Place.{Place}
use Rattle.qml_syntax.specs.Tree.{Expr, name, number, text, literal, paren, list, fields, steps, bumped, signed, chain, choose, assign, Exprs, no_exprs, an_expr, Fields, no_fields, a_field, Step, member, element, call, binding, Steps, no_steps, a_step, Links, no_links, a_link, Choices, no_choices, a_choice, Targets, no_targets, a_target, Stmt, empty, expr, block, declare, when, either, while, for, give, stop, again, Stmts, no_stmts, a_stmt, Vars, last_var, a_var, Maybe, nothing, just, First, no_first, first_expr, first_declare, Function, function}

pub record BindingFunction : Type 0 where
  pub at : Place
  pub statements : Stmts

abbrev a_binding : Place → Stmts → List BindingFunction
a_binding at ss = record { at = at; statements = ss } ∷ []

abbrev mutual
  in_expr : Expr → List BindingFunction
  in_expr (name n q) = []
  in_expr (number n q) = []
  in_expr (text t q) = []
  in_expr (literal k q) = []
  in_expr (paren q e) = in_expr e
  in_expr (list q es c) = in_list es
  in_expr (fields q fs c) = in_fields fs
  in_expr (steps e s ss) = in_expr e ++ in_step s ++ in_steps ss
  in_expr (bumped e g q) = in_expr e
  in_expr (signed g q ss e) = in_expr e
  in_expr (chain e o q f ls) = in_expr e ++ in_expr f ++ in_links ls
  in_expr (choose c e cs f) = in_expr c ++ in_expr e ++ in_choices cs ++ in_expr f
  in_expr (assign t g q ts v) = in_expr t ++ in_targets ts ++ in_expr v

  in_list : Exprs → List BindingFunction
  in_list no_exprs = []
  in_list (an_expr e es) = in_expr e ++ in_list es

  in_fields : Fields → List BindingFunction
  in_fields no_fields = []
  in_fields (a_field k n q e fs) = in_expr e ++ in_fields fs

  in_step : Step → List BindingFunction
  in_step (member n q) = []
  in_step (element q e) = in_expr e
  in_step (call q es) = in_list es
  in_step (binding q ss) = a_binding q ss ++ in_all ss

  in_steps : Steps → List BindingFunction
  in_steps no_steps = []
  in_steps (a_step s ss) = in_step s ++ in_steps ss

  in_links : Links → List BindingFunction
  in_links no_links = []
  in_links (a_link o q e ls) = in_expr e ++ in_links ls

  in_choices : Choices → List BindingFunction
  in_choices no_choices = []
  in_choices (a_choice c e cs) = in_expr c ++ in_expr e ++ in_choices cs

  in_targets : Targets → List BindingFunction
  in_targets no_targets = []
  in_targets (a_target t g q ts) = in_expr t ++ in_targets ts

  pub in_stmt : Stmt → List BindingFunction
  in_stmt (empty q) = []
  in_stmt (expr e c) = in_expr e
  in_stmt (block q ss) = in_all ss
  in_stmt (declare q g vs c) = in_vars vs
  in_stmt (when q e s) = in_expr e ++ in_stmt s
  in_stmt (either q e s r) = in_expr e ++ in_stmt s ++ in_stmt r
  in_stmt (while q e s) = in_expr e ++ in_stmt s
  in_stmt (for q i e f s) = in_first i ++ in_maybe e ++ in_maybe f ++ in_stmt s
  in_stmt (give q e c) = in_maybe e
  in_stmt (stop q c) = []
  in_stmt (again q c) = []

  pub in_all : Stmts → List BindingFunction
  in_all no_stmts = []
  in_all (a_stmt s ss) = in_stmt s ++ in_all ss

  in_vars : Vars → List BindingFunction
  in_vars (last_var n q i) = in_maybe i
  in_vars (a_var n q i vs) = in_maybe i ++ in_vars vs

  in_maybe : Maybe → List BindingFunction
  in_maybe nothing = []
  in_maybe (just e) = in_expr e

  in_first : First → List BindingFunction
  in_first no_first = []
  in_first (first_expr e) = in_expr e
  in_first (first_declare q g vs) = in_vars vs

abbrev pub in_function : Function → List BindingFunction
in_function (function p n q ps k ss) = in_all ss
