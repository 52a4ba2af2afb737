-- What is listed is the part that its nodes leave.
use Rattle.std.proofs.Common.{◌≡◌, Bool, true, false, List, [], ◌∷◌, refl, ap, ◌∙◌}
use Rattle.qml_base.specs.declared.numbers.Place.{Place}
use Rattle.qml_syntax.specs.declared.operators.Operator.{Operator}
use Rattle.qml_syntax.specs.declared.operators.Prefix.{Prefix}
use Rattle.qml_syntax.specs.declared.node.Node.TheVariants as node
use Rattle.qml_syntax.specs.Tree.{Expr, name, number, text, literal, paren, list, fields, steps, bumped, signed, chain, choose, assign, Exprs, no_exprs, an_expr, Fields, no_fields, a_field, Step, member, element, call, binding, Steps, no_steps, a_step, Signs, no_signs, a_sign, Links, no_links, a_link, Choices, no_choices, a_choice, Targets, no_targets, a_target, Stmt, empty, expr, block, declare, when, either, while, for, give, stop, again, Stmts, no_stmts, a_stmt, Vars, last_var, a_var, Maybe, nothing, just, First, no_first, first_expr, first_declare}
use Rattle.qml_syntax.specs.Nodes.{Item, of_expr, of_step, of_stmt, of_link, of_first, of_maybe, Parts, Table, apply, parts_in}
use Rattle.qml_syntax.specs.Listed.{end_of, last_sign, listed, listed_exprs, listed_fields, listed_step, listed_steps, listed_signs, listed_links, listed_choices, listed_targets, listed_stmt, listed_stmts, listed_vars, listed_value, listed_maybe, listed_first}
use Rattle.qml_syntax.specs.Opened.{last_link, exprs_parts, fields_parts, steps_parts, stmts_parts, value_parts, vars_parts, signs_parts, links_parts, choices_parts, targets_parts}
use Rattle.qml_syntax.proofs.MadeLemmas.{stacked, made}

parts_signs : (first : Bool) (g : Prefix) (p : Place) (ss : Signs) (e : Expr) (s : Table) → of_expr e ∷ parts_in (listed_signs first g p ss s) ≡ stacked (signs_parts first g p ss e) (parts_in s)
parts_signs first g p no_signs e s = refl
parts_signs first g p (a_sign h q ss) e s = parts_signs false h q ss e (node.Sign first g p ∷ s)

mutual
  pub parts : (e : Expr) (s : Table) → parts_in (listed e s) ≡ of_expr e ∷ parts_in s
  parts (name n p) s = made (of_expr (name n p)) (parts_in s)
  parts (number n p) s = made (of_expr (number n p)) (parts_in s)
  parts (text n p) s = made (of_expr (text n p)) (parts_in s)
  parts (literal x p) s = made (of_expr (literal x p)) (parts_in s)
  parts (paren p e) s = ap (λ z. apply (node.Paren p) z) (parts e s) ∙ made (of_expr (paren p e)) (parts_in s)
  parts (list p es c) s = ap (λ z. apply (node.List p c) z) (parts_exprs es (node.Mark ∷ s)) ∙ made (of_expr (list p es c)) (parts_in s)
  parts (fields p fs c) s = ap (λ z. apply (node.Fields p c) z) (parts_fields fs (node.Mark ∷ s)) ∙ made (of_expr (fields p fs c)) (parts_in s)
  parts (steps e i is) s = ap (λ z. apply node.Steps z) (parts_steps is (listed_step i (listed e s)) ∙ ap (λ z. stacked (steps_parts is) z) (parts_step i (listed e s) ∙ ap (λ z. of_step i ∷ z) (parts e s))) ∙ made (of_expr (steps e i is)) (parts_in s)
  parts (bumped e i p) s = ap (λ z. apply (node.Postfix i p) z) (parts e s) ∙ made (of_expr (bumped e i p)) (parts_in s)
  parts (signed g p ss e) s = ap (λ z. apply (last_sign true g p ss) z) (parts e (listed_signs true g p ss s) ∙ parts_signs true g p ss e s) ∙ made (of_expr (signed g p ss e)) (parts_in s)
  parts (chain e op p d ls) s = parts_links true op p d ls (listed d (listed e s)) (of_expr e ∷ parts_in s) (parts d (listed e s) ∙ ap (λ z. of_expr d ∷ z) (parts e s)) ∙ made (of_expr (chain e op p d ls)) (parts_in s)
  parts (choose c e cs d) s = ap (λ z. apply node.Choose z) (parts d (listed_choices cs (node.Choice true ∷ listed e (listed c s))) ∙ parts_choices cs d (node.Choice true ∷ listed e (listed c s)) ∙ ap (λ z. stacked (choices_parts cs d) z) (ap (λ z. apply (node.Choice true) z) (parts e (listed c s) ∙ ap (λ z. of_expr e ∷ z) (parts c s)))) ∙ made (of_expr (choose c e cs d)) (parts_in s)
  parts (assign t g p ts v) s = ap (λ z. apply node.Assign z) (parts v (listed_targets ts (node.Target true g p ∷ listed t s)) ∙ parts_targets ts v (node.Target true g p ∷ listed t s) ∙ ap (λ z. stacked (targets_parts ts v) z) (ap (λ z. apply (node.Target true g p) z) (parts t s))) ∙ made (of_expr (assign t g p ts v)) (parts_in s)

  pub parts_exprs : (es : Exprs) (s : Table) → parts_in (listed_exprs es s) ≡ stacked (exprs_parts es) (parts_in s)
  parts_exprs no_exprs s = refl
  parts_exprs (an_expr e es) s = parts_exprs es (listed e s) ∙ ap (λ z. stacked (exprs_parts es) z) (parts e s)

  pub parts_fields : (fs : Fields) (s : Table) → parts_in (listed_fields fs s) ≡ stacked (fields_parts fs) (parts_in s)
  parts_fields no_fields s = refl
  parts_fields (a_field q n p e fs) s = parts_fields fs (listed e (node.Key q n p ∷ s)) ∙ ap (λ z. stacked (fields_parts fs) z) (parts e (node.Key q n p ∷ s))

  pub parts_step : (i : Step) (s : Table) → parts_in (listed_step i s) ≡ of_step i ∷ parts_in s
  parts_step (member n p) s = made (of_step (member n p)) (parts_in s)
  parts_step (element p e) s = ap (λ z. apply (node.Element p) z) (parts e s) ∙ made (of_step (element p e)) (parts_in s)
  parts_step (call p es) s = ap (λ z. apply (node.Call p) z) (parts_exprs es (node.Mark ∷ s)) ∙ made (of_step (call p es)) (parts_in s)
  parts_step (binding p ss) s = ap (λ z. apply (node.Binding p) z) (parts_stmts ss (node.Mark ∷ s)) ∙ made (of_step (binding p ss)) (parts_in s)

  pub parts_steps : (is : Steps) (s : Table) → parts_in (listed_steps is s) ≡ stacked (steps_parts is) (parts_in s)
  parts_steps no_steps s = refl
  parts_steps (a_step i is) s = parts_steps is (listed_step i s) ∙ ap (λ z. stacked (steps_parts is) z) (parts_step i s)

  pub parts_stmt : (d : Stmt) (s : Table) → parts_in (listed_stmt d s) ≡ of_stmt d ∷ parts_in s
  parts_stmt (empty p) s = made (of_stmt (empty p)) (parts_in s)
  parts_stmt (expr e c) s = ap (λ z. apply (node.Expression (end_of c)) z) (parts e s) ∙ made (of_stmt (expr e c)) (parts_in s)
  parts_stmt (block p ss) s = ap (λ z. apply (node.Block p) z) (parts_stmts ss (node.Mark ∷ s)) ∙ made (of_stmt (block p ss)) (parts_in s)
  parts_stmt (declare p q vs c) s = ap (λ z. apply (node.Declare p q (end_of c)) z) (parts_vars vs (node.Mark ∷ s)) ∙ made (of_stmt (declare p q vs c)) (parts_in s)
  parts_stmt (when p e d) s = ap (λ z. apply (node.When p) z) (parts_stmt d (listed e s) ∙ ap (λ z. of_stmt d ∷ z) (parts e s)) ∙ made (of_stmt (when p e d)) (parts_in s)
  parts_stmt (either p e d r) s = ap (λ z. apply (node.Either p) z) (parts_stmt r (listed_stmt d (listed e s)) ∙ ap (λ z. of_stmt r ∷ z) (parts_stmt d (listed e s) ∙ ap (λ z. of_stmt d ∷ z) (parts e s))) ∙ made (of_stmt (either p e d r)) (parts_in s)
  parts_stmt (while p e d) s = ap (λ z. apply (node.While p) z) (parts_stmt d (listed e s) ∙ ap (λ z. of_stmt d ∷ z) (parts e s)) ∙ made (of_stmt (while p e d)) (parts_in s)
  parts_stmt (for p i e f d) s = ap (λ z. apply (node.For p) z) (parts_stmt d (listed_maybe f (listed_maybe e (listed_first i s))) ∙ ap (λ z. of_stmt d ∷ z) (parts_maybe f (listed_maybe e (listed_first i s)) ∙ ap (λ z. of_maybe f ∷ z) (parts_maybe e (listed_first i s) ∙ ap (λ z. of_maybe e ∷ z) (parts_first i s)))) ∙ made (of_stmt (for p i e f d)) (parts_in s)
  parts_stmt (give p nothing c) s = made (of_stmt (give p nothing c)) (parts_in s)
  parts_stmt (give p (just e) c) s = ap (λ z. apply (node.GiveValue p (end_of c)) z) (parts e s) ∙ made (of_stmt (give p (just e) c)) (parts_in s)
  parts_stmt (stop p c) s = made (of_stmt (stop p c)) (parts_in s)
  parts_stmt (again p c) s = made (of_stmt (again p c)) (parts_in s)

  pub parts_stmts : (ss : Stmts) (s : Table) → parts_in (listed_stmts ss s) ≡ stacked (stmts_parts ss) (parts_in s)
  parts_stmts no_stmts s = refl
  parts_stmts (a_stmt d ss) s = parts_stmts ss (listed_stmt d s) ∙ ap (λ z. stacked (stmts_parts ss) z) (parts_stmt d s)

  pub parts_maybe : (e : Maybe) (s : Table) → parts_in (listed_maybe e s) ≡ of_maybe e ∷ parts_in s
  parts_maybe nothing s = made (of_maybe nothing) (parts_in s)
  parts_maybe (just e) s = ap (λ z. apply node.Present z) (parts e s) ∙ made (of_maybe (just e)) (parts_in s)

  pub parts_first : (i : First) (s : Table) → parts_in (listed_first i s) ≡ of_first i ∷ parts_in s
  parts_first no_first s = made (of_first no_first) (parts_in s)
  parts_first (first_expr e) s = ap (λ z. apply node.FirstExpression z) (parts e s) ∙ made (of_first (first_expr e)) (parts_in s)
  parts_first (first_declare p q vs) s = ap (λ z. apply (node.FirstDeclare p q) z) (parts_vars vs (node.Mark ∷ s)) ∙ made (of_first (first_declare p q vs)) (parts_in s)

  pub parts_links : (first : Bool) (op : Operator) (p : Place) (d : Expr) (ls : Links) (t : Table) (z : Parts) → parts_in t ≡ of_expr d ∷ z → parts_in (listed_links first op p ls t) ≡ apply (last_link first op p ls) (stacked (links_parts first op p d ls) z)
  parts_links first op p d no_links t z h = ap (λ w. apply (node.Chain first op p) w) h
  parts_links first op p d (a_link o q e ls) t z h = parts_links false o q e ls (listed e (node.Link first op p ∷ t)) (of_link first op p d ∷ z) (parts e (node.Link first op p ∷ t) ∙ ap (λ w. of_expr e ∷ apply (node.Link first op p) w) h)

  pub parts_choices : (cs : Choices) (d : Expr) (s : Table) → of_expr d ∷ parts_in (listed_choices cs s) ≡ stacked (choices_parts cs d) (parts_in s)
  parts_choices no_choices d s = refl
  parts_choices (a_choice c e cs) d s = parts_choices cs d (node.Choice false ∷ listed e (listed c s)) ∙ ap (λ z. stacked (choices_parts cs d) (apply (node.Choice false) z)) (parts e (listed c s) ∙ ap (λ z. of_expr e ∷ z) (parts c s))

  pub parts_targets : (ts : Targets) (v : Expr) (s : Table) → of_expr v ∷ parts_in (listed_targets ts s) ≡ stacked (targets_parts ts v) (parts_in s)
  parts_targets no_targets v s = refl
  parts_targets (a_target t g p ts) v s = parts_targets ts v (node.Target false g p ∷ listed t s) ∙ ap (λ z. stacked (targets_parts ts v) (apply (node.Target false g p) z)) (parts t s)

  pub parts_vars : (vs : Vars) (s : Table) → parts_in (listed_vars vs s) ≡ stacked (vars_parts vs) (parts_in s)
  parts_vars (last_var n p i) s = parts_value i [] (node.Var n p ∷ s)
  parts_vars (a_var n p i vs) s = parts_vars vs (listed_value i (node.Var n p ∷ s)) ∙ parts_value i (vars_parts vs) (node.Var n p ∷ s)

  pub parts_value : (i : Maybe) (is : List Item) (s : Table) → stacked is (parts_in (listed_value i s)) ≡ stacked (value_parts i is) (parts_in s)
  parts_value nothing is s = refl
  parts_value (just e) is s = ap (λ z. stacked is z) (parts e s)
