-- The nodes of a tree do not depend on those before them.
use Rattle.std.proofs.Common.{◌≡◌, Bool, true, false, ◌∷◌, ◌++◌, refl, ap, ◌∙◌}
use Rattle.qml_base.specs.declared.numbers.Place.{Place}
use Rattle.qml_syntax.specs.declared.operators.Operator.{Operator}
use Rattle.qml_syntax.specs.declared.operators.Prefix.{Prefix}
use Rattle.qml_syntax.specs.declared.node.Node.TheVariants as node
use Rattle.qml_syntax.specs.Tree.{Close, Expr, name, number, text, literal, paren, list, fields, steps, bumped, signed, chain, choose, assign, Exprs, no_exprs, an_expr, Fields, no_fields, a_field, Step, member, element, call, binding, Steps, no_steps, a_step, Signs, no_signs, a_sign, Links, no_links, a_link, Choices, no_choices, a_choice, Targets, no_targets, a_target, Stmt, empty, expr, block, declare, when, either, while, for, give, stop, again, Stmts, no_stmts, a_stmt, Vars, last_var, a_var, Maybe, nothing, just, First, no_first, first_expr, first_declare}
use Rattle.qml_syntax.specs.Nodes.{Table}
use Rattle.qml_syntax.specs.Listed.{end_of, last_sign, listed, listed_exprs, listed_fields, listed_step, listed_steps, listed_signs, listed_links, listed_choices, listed_targets, listed_stmt, listed_give, listed_stmts, listed_vars, listed_value, listed_maybe, listed_first}

pub over_signs : (first : Bool) (g : Prefix) (p : Place) (ss : Signs) (s b : Table) → listed_signs first g p ss (s ++ b) ≡ listed_signs first g p ss s ++ b
over_signs first g p no_signs s b = refl
over_signs first g p (a_sign h q ss) s b = over_signs false h q ss (node.Sign first g p ∷ s) b

mutual
  pub over : (e : Expr) (s b : Table) → listed e (s ++ b) ≡ listed e s ++ b
  over (name n p) s b = refl
  over (number n p) s b = refl
  over (text n p) s b = refl
  over (literal x p) s b = refl
  over (paren p e) s b = ap (λ z. node.Paren p ∷ z) (over e s b)
  over (list p es c) s b = ap (λ z. node.List p c ∷ z) (over_exprs es (node.Mark ∷ s) b)
  over (fields p fs c) s b = ap (λ z. node.Fields p c ∷ z) (over_fields fs (node.Mark ∷ s) b)
  over (steps e i is) s b = ap (λ z. node.Steps ∷ z) (ap (λ z. listed_steps is z) (ap (λ z. listed_step i z) (over e s b) ∙ over_step i (listed e s) b) ∙ over_steps is (listed_step i (listed e s)) b)
  over (bumped e i p) s b = ap (λ z. node.Postfix i p ∷ z) (over e s b)
  over (signed g p ss e) s b = ap (λ z. last_sign true g p ss ∷ z) (ap (λ z. listed e z) (over_signs true g p ss s b) ∙ over e (listed_signs true g p ss s) b)
  over (chain e op p d ls) s b = ap (λ z. listed_links true op p ls z) (ap (λ z. listed d z) (over e s b) ∙ over d (listed e s) b) ∙ over_links true op p ls (listed d (listed e s)) b
  over (choose c e cs d) s b = ap (λ z. node.Choose ∷ z) (ap (λ z. listed d z) (ap (λ z. listed_choices cs z) (ap (λ z. node.Choice true ∷ z) (ap (λ z. listed e z) (over c s b) ∙ over e (listed c s) b)) ∙ over_choices cs (node.Choice true ∷ listed e (listed c s)) b) ∙ over d (listed_choices cs (node.Choice true ∷ listed e (listed c s))) b)
  over (assign t g p ts v) s b = ap (λ z. node.Assign ∷ z) (ap (λ z. listed v z) (ap (λ z. listed_targets ts z) (ap (λ z. node.Target true g p ∷ z) (over t s b)) ∙ over_targets ts (node.Target true g p ∷ listed t s) b) ∙ over v (listed_targets ts (node.Target true g p ∷ listed t s)) b)

  pub over_exprs : (es : Exprs) (s b : Table) → listed_exprs es (s ++ b) ≡ listed_exprs es s ++ b
  over_exprs no_exprs s b = refl
  over_exprs (an_expr e es) s b = ap (λ z. listed_exprs es z) (over e s b) ∙ over_exprs es (listed e s) b

  pub over_fields : (fs : Fields) (s b : Table) → listed_fields fs (s ++ b) ≡ listed_fields fs s ++ b
  over_fields no_fields s b = refl
  over_fields (a_field q n p e fs) s b = ap (λ z. listed_fields fs z) (over e (node.Key q n p ∷ s) b) ∙ over_fields fs (listed e (node.Key q n p ∷ s)) b

  pub over_step : (i : Step) (s b : Table) → listed_step i (s ++ b) ≡ listed_step i s ++ b
  over_step (member n p) s b = refl
  over_step (element p e) s b = ap (λ z. node.Element p ∷ z) (over e s b)
  over_step (call p es) s b = ap (λ z. node.Call p ∷ z) (over_exprs es (node.Mark ∷ s) b)
  over_step (binding p ss) s b = ap (λ z. node.Binding p ∷ z) (over_stmts ss (node.Mark ∷ s) b)

  pub over_steps : (is : Steps) (s b : Table) → listed_steps is (s ++ b) ≡ listed_steps is s ++ b
  over_steps no_steps s b = refl
  over_steps (a_step i is) s b = ap (λ z. listed_steps is z) (over_step i s b) ∙ over_steps is (listed_step i s) b

  pub over_links : (first : Bool) (op : Operator) (p : Place) (ls : Links) (s b : Table) → listed_links first op p ls (s ++ b) ≡ listed_links first op p ls s ++ b
  over_links first op p no_links s b = refl
  over_links first op p (a_link o q d ls) s b = ap (λ z. listed_links false o q ls z) (over d (node.Link first op p ∷ s) b) ∙ over_links false o q ls (listed d (node.Link first op p ∷ s)) b

  pub over_choices : (cs : Choices) (s b : Table) → listed_choices cs (s ++ b) ≡ listed_choices cs s ++ b
  over_choices no_choices s b = refl
  over_choices (a_choice c e cs) s b = ap (λ z. listed_choices cs z) (ap (λ z. node.Choice false ∷ z) (ap (λ z. listed e z) (over c s b) ∙ over e (listed c s) b)) ∙ over_choices cs (node.Choice false ∷ listed e (listed c s)) b

  pub over_targets : (ts : Targets) (s b : Table) → listed_targets ts (s ++ b) ≡ listed_targets ts s ++ b
  over_targets no_targets s b = refl
  over_targets (a_target t g p ts) s b = ap (λ z. listed_targets ts z) (ap (λ z. node.Target false g p ∷ z) (over t s b)) ∙ over_targets ts (node.Target false g p ∷ listed t s) b

  pub over_stmt : (d : Stmt) (s b : Table) → listed_stmt d (s ++ b) ≡ listed_stmt d s ++ b
  over_stmt (empty p) s b = refl
  over_stmt (expr e c) s b = ap (λ z. node.Expression (end_of c) ∷ z) (over e s b)
  over_stmt (block p ss) s b = ap (λ z. node.Block p ∷ z) (over_stmts ss (node.Mark ∷ s) b)
  over_stmt (declare p q vs c) s b = ap (λ z. node.Declare p q (end_of c) ∷ z) (over_vars vs (node.Mark ∷ s) b)
  over_stmt (when p e d) s b = ap (λ z. node.When p ∷ z) (ap (λ z. listed_stmt d z) (over e s b) ∙ over_stmt d (listed e s) b)
  over_stmt (either p e d r) s b = ap (λ z. node.Either p ∷ z) (ap (λ z. listed_stmt r z) (ap (λ z. listed_stmt d z) (over e s b) ∙ over_stmt d (listed e s) b) ∙ over_stmt r (listed_stmt d (listed e s)) b)
  over_stmt (while p e d) s b = ap (λ z. node.While p ∷ z) (ap (λ z. listed_stmt d z) (over e s b) ∙ over_stmt d (listed e s) b)
  over_stmt (for p i e f d) s b = ap (λ z. node.For p ∷ z) (ap (λ z. listed_stmt d z) (ap (λ z. listed_maybe f z) (ap (λ z. listed_maybe e z) (over_first i s b) ∙ over_maybe e (listed_first i s) b) ∙ over_maybe f (listed_maybe e (listed_first i s)) b) ∙ over_stmt d (listed_maybe f (listed_maybe e (listed_first i s))) b)
  over_stmt (give p e c) s b = over_give p c e s b
  over_stmt (stop p c) s b = refl
  over_stmt (again p c) s b = refl

  pub over_give : (p : Place) (c : Close) (e : Maybe) (s b : Table) → listed_give p c e (s ++ b) ≡ listed_give p c e s ++ b
  over_give p c nothing s b = refl
  over_give p c (just e) s b = ap (λ z. node.GiveValue p (end_of c) ∷ z) (over e s b)

  pub over_stmts : (ss : Stmts) (s b : Table) → listed_stmts ss (s ++ b) ≡ listed_stmts ss s ++ b
  over_stmts no_stmts s b = refl
  over_stmts (a_stmt d ss) s b = ap (λ z. listed_stmts ss z) (over_stmt d s b) ∙ over_stmts ss (listed_stmt d s) b

  pub over_vars : (vs : Vars) (s b : Table) → listed_vars vs (s ++ b) ≡ listed_vars vs s ++ b
  over_vars (last_var n p i) s b = over_value i (node.Var n p ∷ s) b
  over_vars (a_var n p i vs) s b = ap (λ z. listed_vars vs z) (over_value i (node.Var n p ∷ s) b) ∙ over_vars vs (listed_value i (node.Var n p ∷ s)) b

  pub over_value : (i : Maybe) (s b : Table) → listed_value i (s ++ b) ≡ listed_value i s ++ b
  over_value nothing s b = refl
  over_value (just e) s b = over e s b

  pub over_maybe : (e : Maybe) (s b : Table) → listed_maybe e (s ++ b) ≡ listed_maybe e s ++ b
  over_maybe nothing s b = refl
  over_maybe (just e) s b = ap (λ z. node.Present ∷ z) (over e s b)

  pub over_first : (i : First) (s b : Table) → listed_first i (s ++ b) ≡ listed_first i s ++ b
  over_first no_first s b = refl
  over_first (first_expr e) s b = ap (λ z. node.FirstExpression ∷ z) (over e s b)
  over_first (first_declare p q vs) s b = ap (λ z. node.FirstDeclare p q ∷ z) (over_vars vs (node.Mark ∷ s) b)
