-- The first nodes of a listing, however many, are those of the parts that they leave.
use Rattle.std.proofs.Common.{◌≡◌, Bool, true, false, [], ◌∷◌, refl, ap, ◌∙◌}
use Rattle.qml_base.specs.declared.numbers.Place.{Place}
use Rattle.qml_syntax.specs.declared.operators.Operator.{Operator}
use Rattle.qml_syntax.specs.declared.operators.Prefix.{Prefix}
use Rattle.qml_syntax.specs.declared.node.Node.TheVariants as node
use Rattle.qml_syntax.specs.Tree.{Expr, name, number, text, literal, paren, list, fields, steps, bumped, signed, chain, choose, assign, Exprs, no_exprs, an_expr, Fields, no_fields, a_field, Step, member, element, call, binding, Steps, no_steps, a_step, Signs, no_signs, a_sign, Links, no_links, a_link, Choices, no_choices, a_choice, Targets, no_targets, a_target, Stmt, empty, expr, block, declare, when, either, while, for, give, stop, again, Stmts, no_stmts, a_stmt, Vars, last_var, a_var, Maybe, nothing, just, First, no_first, first_expr, first_declare}
use Rattle.qml_syntax.specs.Nodes.{Item, mark, of_expr, of_step, of_stmt, of_key, of_sign, of_link, of_choice, of_target, of_var, of_first, of_maybe, of_body, Table, apply, parts_in}
use Rattle.qml_syntax.specs.Listed.{listed, listed_exprs, listed_fields, listed_step, listed_steps, listed_signs, listed_links, listed_choices, listed_targets, listed_stmt, listed_stmts, listed_vars, listed_value, listed_maybe, listed_first}
use Rattle.qml_syntax.specs.Starts.{listed_item, listed_parts, AllWhole}
use Rattle.qml_syntax.proofs.PartsLemmas.{parts, parts_step, parts_stmt, parts_stmts, parts_first, parts_maybe}
use Rattle.qml_syntax.proofs.MadeLemmas.{made}
use Rattle.qml_syntax.proofs.DocumentPartsFound.{parts_in_document}

pub parts_item : (i : Item) (s : Table) → parts_in (listed_item i s) ≡ i ∷ parts_in s
parts_item mark s = refl
parts_item (of_expr e) s = parts e s
parts_item (of_step i) s = parts_step i s
parts_item (of_stmt d) s = parts_stmt d s
parts_item (of_key q n p) s = refl
parts_item (of_sign f g p) s = refl
parts_item (of_link f op p d) s = ap (λ z. apply (node.Link f op p) z) (parts d s)
parts_item (of_choice f c e) s = ap (λ z. apply (node.Choice f) z) (parts e (listed c s) ∙ ap (λ z. of_expr e ∷ z) (parts c s))
parts_item (of_target f t g p) s = ap (λ z. apply (node.Target f g p) z) (parts t s)
parts_item (of_var n p) s = refl
parts_item (of_first i) s = parts_first i s
parts_item (of_maybe e) s = parts_maybe e s
parts_item (of_body ss) s = ap (λ z. apply node.Body z) (parts_stmts ss (node.Mark ∷ s)) ∙ made (of_body ss) (parts_in s)
parts_item i s = parts_in_document i tt s

pub whole : (s : Table) → AllWhole s → listed_parts (parts_in s) ≡ s
whole [] h = refl
whole (x ∷ xs) h = h.0

pub whole_item : (i : Item) (s : Table) → AllWhole s → listed_parts (parts_in (listed_item i s)) ≡ listed_item i s
whole_item i s h = ap (λ z. listed_parts z) (parts_item i s) ∙ ap (λ z. listed_item i z) (whole s h)

all_signs : (first : Bool) (g : Prefix) (p : Place) (ss : Signs) (s : Table) → AllWhole s → AllWhole (listed_signs first g p ss s)
all_signs first g p no_signs s ok = ok
all_signs first g p (a_sign h q ss) s ok = all_signs false h q ss (node.Sign first g p ∷ s) (whole_item (of_sign first g p) s ok, ok)

mutual
  pub all : (e : Expr) (s : Table) → AllWhole s → AllWhole (listed e s)
  all (name n p) s ok = (whole_item (of_expr (name n p)) s ok, ok)
  all (number n p) s ok = (whole_item (of_expr (number n p)) s ok, ok)
  all (text n p) s ok = (whole_item (of_expr (text n p)) s ok, ok)
  all (literal x p) s ok = (whole_item (of_expr (literal x p)) s ok, ok)
  all (paren p e) s ok = (whole_item (of_expr (paren p e)) s ok, all e s ok)
  all (list p es c) s ok = (whole_item (of_expr (list p es c)) s ok, all_exprs es (node.Mark ∷ s) (whole_item mark s ok, ok))
  all (fields p fs c) s ok = (whole_item (of_expr (fields p fs c)) s ok, all_fields fs (node.Mark ∷ s) (whole_item mark s ok, ok))
  all (steps e i is) s ok = (whole_item (of_expr (steps e i is)) s ok, all_steps is (listed_step i (listed e s)) (all_step i (listed e s) (all e s ok)))
  all (bumped e i p) s ok = (whole_item (of_expr (bumped e i p)) s ok, all e s ok)
  all (signed g p ss e) s ok = (whole_item (of_expr (signed g p ss e)) s ok, all e (listed_signs true g p ss s) (all_signs true g p ss s ok))
  all (chain e op p d ls) s ok = all_links true op p d ls (listed e s) (all e s ok) (whole_item (of_expr (chain e op p d ls)) s ok) (all d (listed e s) (all e s ok))
  all (choose c e cs d) s ok = (whole_item (of_expr (choose c e cs d)) s ok, all d (listed_choices cs (node.Choice true ∷ listed e (listed c s))) (all_choices cs (node.Choice true ∷ listed e (listed c s)) (whole_item (of_choice true c e) s ok, all e (listed c s) (all c s ok))))
  all (assign t g p ts v) s ok = (whole_item (of_expr (assign t g p ts v)) s ok, all v (listed_targets ts (node.Target true g p ∷ listed t s)) (all_targets ts (node.Target true g p ∷ listed t s) (whole_item (of_target true t g p) s ok, all t s ok)))

  all_exprs : (es : Exprs) (s : Table) → AllWhole s → AllWhole (listed_exprs es s)
  all_exprs no_exprs s ok = ok
  all_exprs (an_expr e es) s ok = all_exprs es (listed e s) (all e s ok)

  all_fields : (fs : Fields) (s : Table) → AllWhole s → AllWhole (listed_fields fs s)
  all_fields no_fields s ok = ok
  all_fields (a_field q n p e fs) s ok = all_fields fs (listed e (node.Key q n p ∷ s)) (all e (node.Key q n p ∷ s) (whole_item (of_key q n p) s ok, ok))

  all_step : (i : Step) (s : Table) → AllWhole s → AllWhole (listed_step i s)
  all_step (member n p) s ok = (whole_item (of_step (member n p)) s ok, ok)
  all_step (element p e) s ok = (whole_item (of_step (element p e)) s ok, all e s ok)
  all_step (call p es) s ok = (whole_item (of_step (call p es)) s ok, all_exprs es (node.Mark ∷ s) (whole_item mark s ok, ok))
  all_step (binding p ss) s ok = (whole_item (of_step (binding p ss)) s ok, all_stmts ss (node.Mark ∷ s) (whole_item mark s ok, ok))

  all_steps : (is : Steps) (s : Table) → AllWhole s → AllWhole (listed_steps is s)
  all_steps no_steps s ok = ok
  all_steps (a_step i is) s ok = all_steps is (listed_step i s) (all_step i s ok)

  all_choices : (cs : Choices) (s : Table) → AllWhole s → AllWhole (listed_choices cs s)
  all_choices no_choices s ok = ok
  all_choices (a_choice c e cs) s ok = all_choices cs (node.Choice false ∷ listed e (listed c s)) (whole_item (of_choice false c e) s ok, all e (listed c s) (all c s ok))

  all_targets : (ts : Targets) (s : Table) → AllWhole s → AllWhole (listed_targets ts s)
  all_targets no_targets s ok = ok
  all_targets (a_target t g p ts) s ok = all_targets ts (node.Target false g p ∷ listed t s) (whole_item (of_target false t g p) s ok, all t s ok)

  pub all_stmt : (d : Stmt) (s : Table) → AllWhole s → AllWhole (listed_stmt d s)
  all_stmt (empty p) s ok = (whole_item (of_stmt (empty p)) s ok, ok)
  all_stmt (expr e c) s ok = (whole_item (of_stmt (expr e c)) s ok, all e s ok)
  all_stmt (block p ss) s ok = (whole_item (of_stmt (block p ss)) s ok, all_stmts ss (node.Mark ∷ s) (whole_item mark s ok, ok))
  all_stmt (declare p q vs c) s ok = (whole_item (of_stmt (declare p q vs c)) s ok, all_vars vs (node.Mark ∷ s) (whole_item mark s ok, ok))
  all_stmt (when p e d) s ok = (whole_item (of_stmt (when p e d)) s ok, all_stmt d (listed e s) (all e s ok))
  all_stmt (either p e d r) s ok = (whole_item (of_stmt (either p e d r)) s ok, all_stmt r (listed_stmt d (listed e s)) (all_stmt d (listed e s) (all e s ok)))
  all_stmt (while p e d) s ok = (whole_item (of_stmt (while p e d)) s ok, all_stmt d (listed e s) (all e s ok))
  all_stmt (for p i e f d) s ok = (whole_item (of_stmt (for p i e f d)) s ok, all_stmt d (listed_maybe f (listed_maybe e (listed_first i s))) (all_maybe f (listed_maybe e (listed_first i s)) (all_maybe e (listed_first i s) (all_first i s ok))))
  all_stmt (give p nothing c) s ok = (whole_item (of_stmt (give p nothing c)) s ok, ok)
  all_stmt (give p (just e) c) s ok = (whole_item (of_stmt (give p (just e) c)) s ok, all e s ok)
  all_stmt (stop p c) s ok = (whole_item (of_stmt (stop p c)) s ok, ok)
  all_stmt (again p c) s ok = (whole_item (of_stmt (again p c)) s ok, ok)

  pub all_stmts : (ss : Stmts) (s : Table) → AllWhole s → AllWhole (listed_stmts ss s)
  all_stmts no_stmts s ok = ok
  all_stmts (a_stmt d ss) s ok = all_stmts ss (listed_stmt d s) (all_stmt d s ok)

  all_vars : (vs : Vars) (s : Table) → AllWhole s → AllWhole (listed_vars vs s)
  all_vars (last_var n p i) s ok = all_value i (node.Var n p ∷ s) (whole_item (of_var n p) s ok, ok)
  all_vars (a_var n p i vs) s ok = all_vars vs (listed_value i (node.Var n p ∷ s)) (all_value i (node.Var n p ∷ s) (whole_item (of_var n p) s ok, ok))

  all_value : (i : Maybe) (s : Table) → AllWhole s → AllWhole (listed_value i s)
  all_value nothing s ok = ok
  all_value (just e) s ok = all e s ok

  all_maybe : (e : Maybe) (s : Table) → AllWhole s → AllWhole (listed_maybe e s)
  all_maybe nothing s ok = (whole_item (of_maybe nothing) s ok, ok)
  all_maybe (just e) s ok = (whole_item (of_maybe (just e)) s ok, all e s ok)

  all_first : (i : First) (s : Table) → AllWhole s → AllWhole (listed_first i s)
  all_first no_first s ok = (whole_item (of_first no_first) s ok, ok)
  all_first (first_expr e) s ok = (whole_item (of_first (first_expr e)) s ok, all e s ok)
  all_first (first_declare p q vs) s ok = (whole_item (of_first (first_declare p q vs)) s ok, all_vars vs (node.Mark ∷ s) (whole_item mark s ok, ok))

  all_links : (first : Bool) (op : Operator) (p : Place) (d : Expr) (ls : Links) (s : Table) → AllWhole s → listed_parts (parts_in (listed_links first op p ls (listed d s))) ≡ listed_links first op p ls (listed d s) → AllWhole (listed d s) → AllWhole (listed_links first op p ls (listed d s))
  all_links first op p d no_links s h w k = (w, k)
  all_links first op p d (a_link o q e ls) s h w k = all_links false o q e ls (node.Link first op p ∷ listed d s) (whole_item (of_link first op p d) s h, k) w (all e (node.Link first op p ∷ listed d s) (whole_item (of_link first op p d) s h, k))
