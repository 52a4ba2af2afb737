-- Going over the nodes of a tree from the last to the first finds each node with how deep it stands.
use Rattle.std.proofs.Common.{◌≡◌, ℕ, ◌+◌, ◌≤◌, Bool, true, false, [], ◌∷◌, ◌++◌, refl, sym, ap, ◌∙◌, append_assoc, length, arith}
use Rattle.qml_base.specs.declared.numbers.Place.{Place}
use Rattle.qml_syntax.specs.declared.operators.Operator.{Operator}
use Rattle.qml_syntax.specs.declared.operators.Prefix.{Prefix}
use Rattle.qml_syntax.specs.declared.node.Node.TheVariants as node
use Rattle.qml_syntax.specs.declared.deep.Parts.TheVariants as part
use Rattle.qml_syntax.specs.declared.deep.Task.TheVariants as task
use Rattle.qml_syntax.specs.Tree.{Units, Close, Expr, name, number, text, literal, paren, list, fields, steps, bumped, signed, chain, choose, assign, Exprs, no_exprs, an_expr, Fields, no_fields, a_field, Step, member, element, call, binding, Steps, no_steps, a_step, Signs, no_signs, a_sign, Links, no_links, a_link, Choices, no_choices, a_choice, Targets, no_targets, a_target, Stmt, empty, expr, block, declare, when, either, while, for, give, stop, again, Stmts, no_stmts, a_stmt, Vars, last_var, a_var, Maybe, nothing, just, First, no_first, first_expr, first_declare}
use Rattle.qml_syntax.specs.Nodes.{Table}
use Rattle.qml_syntax.specs.Listed.{last_sign, listed, listed_choices, listed_exprs, listed_fields, listed_first, listed_give, listed_links, listed_maybe, listed_signs, listed_step, listed_steps, listed_stmt, listed_stmts, listed_targets, listed_value, listed_vars}
use Rattle.qml_syntax.specs.Depth.{place_of}
use Rattle.qml_syntax.specs.Standing.{Nodes, stands, nodes, nodes_exprs, nodes_fields, nodes_step, nodes_steps, nodes_links, nodes_choices, nodes_targets, nodes_stmt, nodes_stmts, nodes_vars, nodes_maybe, nodes_first}
use Rattle.qml_syntax.specs.WalkStanding.{Tasks, one, many, begun, depth, first_place, in_many, in_steps, found_from}
use Rattle.qml_syntax.proofs.WalkHeadLemmas.{Headed, head}

pub depth_within : (x : Tasks) → depth x ≤ length x
depth_within [] = omega arith
depth_within (task.Node p ∷ x) = omega (arith, depth_within x)
depth_within (task.Led ∷ x) = omega (arith, depth_within x)
depth_within (task.Parts part.Signs ∷ x) = omega (arith, depth_within x)
depth_within (task.Parts part.Named ∷ x) = omega (arith, depth_within x)
depth_within (task.Parts part.One ∷ x) = omega (arith, depth_within x)
depth_within (task.Parts part.Many ∷ x) = omega (arith, depth_within x)
depth_within (task.Parts part.Steps ∷ x) = omega (arith, depth_within x)

-- ---- a node in front is found, whatever comes then

pub node_next : (s : Table) (p : Place) (st : Tasks) (acc : Nodes) → found_from s (task.Node p ∷ st, acc) ≡ found_from s (st, stands (depth st + 1) p ∷ acc)
node_next [] p st acc = refl
node_next (n ∷ s) p st acc = refl

led_next : (s : Table) (st : Tasks) (acc : Nodes) → found_from s (task.Led ∷ st, acc) ≡ found_from s (st, stands (depth st + 1) (first_place acc) ∷ acc)
led_next [] st acc = refl
led_next (n ∷ s) st acc = refl

pub then_nodes : (s : Table) (st : Tasks) {a b : Nodes} → a ≡ b → found_from s (st, a) ≡ found_from s (st, b)
then_nodes s st p = ap (λ (z : Nodes). found_from s (st, z)) p

leads : (e : Expr) (d : ℕ) (acc : Nodes) → first_place (nodes d e ++ acc) ≡ place_of e
leads (name n p) d acc = refl
leads (number n p) d acc = refl
leads (text n p) d acc = refl
leads (literal x p) d acc = refl
leads (paren p e) d acc = refl
leads (list p es c) d acc = refl
leads (fields p fs c) d acc = refl
leads (steps e i is) d acc = refl
leads (bumped e i p) d acc = refl
leads (signed g p ss e) d acc = refl
leads (chain e op p f ls) d acc = refl
leads (choose c e cs f) d acc = refl
leads (assign t g p ts v) d acc = refl

led_by : (e : Expr) (s : Table) (st : Tasks) (acc : Nodes) → found_from s (task.Led ∷ st, nodes (depth st + 1 + 1) e ++ acc) ≡ found_from s (st, stands (depth st + 1) (place_of e) ∷ (nodes (depth st + 1 + 1) e ++ acc))
led_by e s st acc = led_next s st (nodes (depth st + 1 + 1) e ++ acc) ∙ then_nodes s st (ap (λ (z : Place). stands (depth st + 1) z ∷ (nodes (depth st + 1 + 1) e ++ acc)) (leads e (depth st + 1 + 1) acc))

-- ---- an expression as one of some parts

as_part : (t : Table) → Headed t → (st : Tasks) (acc : Nodes) → found_from t (many ∷ st, acc) ≡ found_from t (one ∷ many ∷ st, acc)
as_part t h st acc =
    ap (λ (z : Table). found_from z (many ∷ st, acc)) h.is
    ∙ ap (λ (b : Bool). found_from h.rest (in_many b h.last st acc)) h.no_mark
    ∙ ap (λ (z : Table). found_from z (one ∷ many ∷ st, acc)) (sym h.is)

as_first : (t : Table) → Headed t → (st : Tasks) (acc : Nodes) → found_from t (task.Parts part.Steps ∷ st, acc) ≡ found_from t (one ∷ st, acc)
as_first t h st acc =
    ap (λ (z : Table). found_from z (task.Parts part.Steps ∷ st, acc)) h.is
    ∙ ap (λ (b : Bool). found_from h.rest (in_steps b h.last st acc)) h.no_step
    ∙ ap (λ (z : Table). found_from z (one ∷ st, acc)) (sym h.is)

as_step : (i : Step) (s : Table) (st : Tasks) (acc : Nodes) → found_from (listed_step i s) (task.Parts part.Steps ∷ st, acc) ≡ found_from (listed_step i s) (one ∷ task.Parts part.Steps ∷ st, acc)
as_step (member n p) s st acc = refl
as_step (element p e) s st acc = refl
as_step (call p es) s st acc = refl
as_step (binding p ss) s st acc = refl

as_give : (e : Maybe) (p : Place) (c : Close) (s : Table) (st : Tasks) (acc : Nodes) → found_from (listed_give p c e s) (many ∷ st, acc) ≡ found_from (listed_give p c e s) (one ∷ many ∷ st, acc)
as_give nothing p c s st acc = refl
as_give (just e) p c s st acc = refl

as_statement : (d : Stmt) (s : Table) (st : Tasks) (acc : Nodes) → found_from (listed_stmt d s) (many ∷ st, acc) ≡ found_from (listed_stmt d s) (one ∷ many ∷ st, acc)
as_statement (empty p) s st acc = refl
as_statement (expr e c) s st acc = refl
as_statement (block p ss) s st acc = refl
as_statement (declare p q vs c) s st acc = refl
as_statement (when p e d) s st acc = refl
as_statement (either p e d r) s st acc = refl
as_statement (while p e d) s st acc = refl
as_statement (for p i e f d) s st acc = refl
as_statement (give p e c) s st acc = as_give e p c s st acc
as_statement (stop p c) s st acc = refl
as_statement (again p c) s st acc = refl

-- ---- parts of chains, with what their operand finds

-- a part whose nodes are these at their depth stands as an operand behind a prefix
behind_prefix : (first : Bool) (q : Place) (t s : Table) (at : ℕ → Nodes) (st : Tasks) (acc : Nodes) → ((z : Tasks) → found_from t (one ∷ z, acc) ≡ found_from s (z, at (depth z + 1) ++ acc)) → found_from t (one ∷ begun first q ∷ st, acc) ≡ found_from s (begun first q ∷ st, at (depth st + 1 + 1) ++ acc)
behind_prefix true q t s at st acc h = h (task.Node q ∷ st)
behind_prefix false q t s at st acc h = h (task.Parts part.Signs ∷ st)

signs_found : (ss : Signs) (first : Bool) (g : Prefix) (p : Place) (t : Table → Table) (s : Table) (found : Nodes) (st : Tasks) (acc : Nodes) → ((x : Bool) (q : Place) (z : Table) → found_from (t z) (one ∷ begun x q ∷ st, acc) ≡ found_from z (begun x q ∷ st, found ++ acc)) → found_from (last_sign first g p ss ∷ t (listed_signs first g p ss s)) (one ∷ st, acc) ≡ found_from s (begun first p ∷ st, found ++ acc)
signs_found no_signs first g p t s found st acc h = h first p s
signs_found (a_sign d q ss) first g p t s found st acc h = signs_found ss false d q t (node.Sign first g p ∷ s) found st acc h

mutual
  pub found : (e : Expr) (s : Table) (st : Tasks) (acc : Nodes) → found_from (listed e s) (one ∷ st, acc) ≡ found_from s (st, nodes (depth st + 1) e ++ acc)
  found (name n p) s st acc = node_next s p st acc
  found (number n p) s st acc = node_next s p st acc
  found (text n p) s st acc = node_next s p st acc
  found (literal x p) s st acc = node_next s p st acc
  found (paren p e) s st acc = found e s (task.Node p ∷ st) acc ∙ node_next s p st (nodes (depth st + 1 + 1) e ++ acc)
  found (list p es c) s st acc = exprs_found es (node.Mark ∷ s) (task.Node p ∷ st) acc ∙ node_next s p st (nodes_exprs (depth st + 1 + 1) es ++ acc)
  found (fields p fs c) s st acc = fields_found fs (node.Mark ∷ s) (task.Node p ∷ st) acc ∙ node_next s p st (nodes_fields (depth st + 1 + 1) fs ++ acc)
  found (steps e i is) s st acc = steps_found is (listed_step i (listed e s)) (task.Led ∷ st) acc ∙ as_step i (listed e s) (task.Led ∷ st) (nodes_steps (depth st + 1 + 1) is ++ acc) ∙ step_found i (listed e s) (task.Parts part.Steps ∷ task.Led ∷ st) (nodes_steps (depth st + 1 + 1) is ++ acc) ∙ as_first (listed e s) (head e s) (task.Led ∷ st) (nodes_step (depth st + 1 + 1) i ++ (nodes_steps (depth st + 1 + 1) is ++ acc)) ∙ found e s (task.Led ∷ st) (nodes_step (depth st + 1 + 1) i ++ (nodes_steps (depth st + 1 + 1) is ++ acc)) ∙ led_by e s st (nodes_step (depth st + 1 + 1) i ++ (nodes_steps (depth st + 1 + 1) is ++ acc)) ∙ then_nodes s st (simp append_assoc)
  found (bumped e i p) s st acc = found e s (task.Led ∷ st) acc ∙ led_by e s st acc
  found (signed g p ss e) s st acc = signs_found ss true g p (λ z. listed e z) s (nodes (depth st + 1 + 1) e) st acc (λ x q z. behind_prefix x q (listed e z) z (λ d. nodes d e) st acc (λ y. found e z y acc)) ∙ node_next s p st (nodes (depth st + 1 + 1) e ++ acc)
  found (chain e op p d ls) s st acc = links_found ls true op p (listed d (listed e s)) (listed e s) (nodes (depth st + 1 + 1) d) st acc (λ z. found d (listed e s) (one ∷ task.Led ∷ st) z) ∙ found e s (task.Led ∷ st) (nodes (depth st + 1 + 1) d ++ (nodes_links (depth st + 1 + 1) ls ++ acc)) ∙ led_by e s st (nodes (depth st + 1 + 1) d ++ (nodes_links (depth st + 1 + 1) ls ++ acc)) ∙ then_nodes s st (simp append_assoc)
  found (choose c e cs d) s st acc = found d (listed_choices cs (node.Choice true ∷ listed e (listed c s))) (one ∷ task.Led ∷ st) acc ∙ choices_found cs (node.Choice true ∷ listed e (listed c s)) (task.Led ∷ st) (nodes (depth st + 1 + 1) d ++ acc) ∙ found e (listed c s) (one ∷ task.Led ∷ st) (nodes_choices (depth st + 1 + 1) cs ++ (nodes (depth st + 1 + 1) d ++ acc)) ∙ found c s (task.Led ∷ st) (nodes (depth st + 1 + 1) e ++ (nodes_choices (depth st + 1 + 1) cs ++ (nodes (depth st + 1 + 1) d ++ acc))) ∙ led_by c s st (nodes (depth st + 1 + 1) e ++ (nodes_choices (depth st + 1 + 1) cs ++ (nodes (depth st + 1 + 1) d ++ acc))) ∙ then_nodes s st (simp append_assoc)
  found (assign t g p ts v) s st acc = found v (listed_targets ts (node.Target true g p ∷ listed t s)) (one ∷ task.Led ∷ st) acc ∙ targets_found ts (node.Target true g p ∷ listed t s) (task.Led ∷ st) (nodes (depth st + 1 + 1) v ++ acc) ∙ found t s (task.Led ∷ st) (nodes_targets (depth st + 1 + 1) ts ++ (nodes (depth st + 1 + 1) v ++ acc)) ∙ led_by t s st (nodes_targets (depth st + 1 + 1) ts ++ (nodes (depth st + 1 + 1) v ++ acc)) ∙ then_nodes s st (simp append_assoc)

  exprs_found : (es : Exprs) (s : Table) (st : Tasks) (acc : Nodes) → found_from (listed_exprs es s) (many ∷ st, acc) ≡ found_from s (many ∷ st, nodes_exprs (depth st + 1) es ++ acc)
  exprs_found no_exprs s st acc = refl
  exprs_found (an_expr e es) s st acc = exprs_found es (listed e s) st acc ∙ as_part (listed e s) (head e s) st (nodes_exprs (depth st + 1) es ++ acc) ∙ found e s (many ∷ st) (nodes_exprs (depth st + 1) es ++ acc) ∙ then_nodes s (many ∷ st) (simp append_assoc)

  fields_found : (fs : Fields) (s : Table) (st : Tasks) (acc : Nodes) → found_from (listed_fields fs s) (many ∷ st, acc) ≡ found_from s (many ∷ st, nodes_fields (depth st + 1) fs ++ acc)
  fields_found no_fields s st acc = refl
  fields_found (a_field q n p e fs) s st acc = fields_found fs (listed e (node.Key q n p ∷ s)) st acc ∙ as_part (listed e (node.Key q n p ∷ s)) (head e (node.Key q n p ∷ s)) st (nodes_fields (depth st + 1) fs ++ acc) ∙ found e (node.Key q n p ∷ s) (many ∷ st) (nodes_fields (depth st + 1) fs ++ acc) ∙ then_nodes s (many ∷ st) (simp append_assoc)

  step_found : (i : Step) (s : Table) (st : Tasks) (acc : Nodes) → found_from (listed_step i s) (one ∷ st, acc) ≡ found_from s (st, nodes_step (depth st + 1) i ++ acc)
  step_found (member n p) s st acc = refl
  step_found (element p e) s st acc = found e s st acc
  step_found (call p es) s st acc = exprs_found es (node.Mark ∷ s) st acc
  step_found (binding p ss) s st acc = stmts_found ss (node.Mark ∷ s) (task.Node p ∷ st) acc ∙ node_next s p st (nodes_stmts (depth st + 1 + 1) ss ++ acc)

  steps_found : (is : Steps) (s : Table) (st : Tasks) (acc : Nodes) → found_from (listed_steps is s) (task.Parts part.Steps ∷ st, acc) ≡ found_from s (task.Parts part.Steps ∷ st, nodes_steps (depth st + 1) is ++ acc)
  steps_found no_steps s st acc = refl
  steps_found (a_step i is) s st acc = steps_found is (listed_step i s) st acc ∙ as_step i s st (nodes_steps (depth st + 1) is ++ acc) ∙ step_found i s (task.Parts part.Steps ∷ st) (nodes_steps (depth st + 1) is ++ acc) ∙ then_nodes s (task.Parts part.Steps ∷ st) (simp append_assoc)

  links_found : (ls : Links) (first : Bool) (op : Operator) (p : Place) (t s : Table) (before : Nodes) (st : Tasks) (acc : Nodes) → ((z : Nodes) → found_from t (one ∷ one ∷ task.Led ∷ st, z) ≡ found_from s (one ∷ task.Led ∷ st, before ++ z)) → found_from (listed_links first op p ls t) (one ∷ st, acc) ≡ found_from s (one ∷ task.Led ∷ st, before ++ (nodes_links (depth st + 1 + 1) ls ++ acc))
  links_found no_links first op p t s before st acc h = h acc
  links_found (a_link o q d ls) first op p t s before st acc h = links_found ls false o q (listed d (node.Link first op p ∷ t)) (node.Link first op p ∷ t) (nodes (depth st + 1 + 1) d) st acc (λ z. found d (node.Link first op p ∷ t) (one ∷ task.Led ∷ st) z) ∙ h (nodes (depth st + 1 + 1) d ++ (nodes_links (depth st + 1 + 1) ls ++ acc)) ∙ then_nodes s (one ∷ task.Led ∷ st) (simp append_assoc)

  choices_found : (cs : Choices) (s : Table) (st : Tasks) (acc : Nodes) → found_from (listed_choices cs s) (one ∷ st, acc) ≡ found_from s (one ∷ st, nodes_choices (depth st + 1) cs ++ acc)
  choices_found no_choices s st acc = refl
  choices_found (a_choice c e cs) s st acc = choices_found cs (node.Choice false ∷ listed e (listed c s)) st acc ∙ found e (listed c s) (one ∷ one ∷ st) (nodes_choices (depth st + 1) cs ++ acc) ∙ found c s (one ∷ st) (nodes (depth st + 1) e ++ (nodes_choices (depth st + 1) cs ++ acc)) ∙ then_nodes s (one ∷ st) (simp append_assoc)

  targets_found : (ts : Targets) (s : Table) (st : Tasks) (acc : Nodes) → found_from (listed_targets ts s) (one ∷ st, acc) ≡ found_from s (one ∷ st, nodes_targets (depth st + 1) ts ++ acc)
  targets_found no_targets s st acc = refl
  targets_found (a_target t g p ts) s st acc = targets_found ts (node.Target false g p ∷ listed t s) st acc ∙ found t s (one ∷ st) (nodes_targets (depth st + 1) ts ++ acc) ∙ then_nodes s (one ∷ st) (simp append_assoc)

  pub stmt_found : (d : Stmt) (s : Table) (st : Tasks) (acc : Nodes) → found_from (listed_stmt d s) (one ∷ st, acc) ≡ found_from s (st, nodes_stmt (depth st + 1) d ++ acc)
  stmt_found (empty p) s st acc = node_next s p st acc
  stmt_found (expr e c) s st acc = found e s st acc
  stmt_found (block p ss) s st acc = stmts_found ss (node.Mark ∷ s) (task.Node p ∷ st) acc ∙ node_next s p st (nodes_stmts (depth st + 1 + 1) ss ++ acc)
  stmt_found (declare p q vs c) s st acc = vars_found vs (node.Mark ∷ s) (task.Node p ∷ st) acc ∙ node_next s p st (nodes_vars (depth st + 1 + 1) vs ++ acc)
  stmt_found (when p e d) s st acc = stmt_found d (listed e s) (one ∷ task.Node p ∷ st) acc ∙ found e s (task.Node p ∷ st) (nodes_stmt (depth st + 1 + 1) d ++ acc) ∙ node_next s p st (nodes (depth st + 1 + 1) e ++ (nodes_stmt (depth st + 1 + 1) d ++ acc)) ∙ then_nodes s st (simp append_assoc)
  stmt_found (either p e d r) s st acc = stmt_found r (listed_stmt d (listed e s)) (one ∷ one ∷ task.Node p ∷ st) acc ∙ stmt_found d (listed e s) (one ∷ task.Node p ∷ st) (nodes_stmt (depth st + 1 + 1) r ++ acc) ∙ found e s (task.Node p ∷ st) (nodes_stmt (depth st + 1 + 1) d ++ (nodes_stmt (depth st + 1 + 1) r ++ acc)) ∙ node_next s p st (nodes (depth st + 1 + 1) e ++ (nodes_stmt (depth st + 1 + 1) d ++ (nodes_stmt (depth st + 1 + 1) r ++ acc))) ∙ then_nodes s st (simp append_assoc)
  stmt_found (while p e d) s st acc = stmt_found d (listed e s) (one ∷ task.Node p ∷ st) acc ∙ found e s (task.Node p ∷ st) (nodes_stmt (depth st + 1 + 1) d ++ acc) ∙ node_next s p st (nodes (depth st + 1 + 1) e ++ (nodes_stmt (depth st + 1 + 1) d ++ acc)) ∙ then_nodes s st (simp append_assoc)
  stmt_found (for p i e f d) s st acc = stmt_found d (listed_maybe f (listed_maybe e (listed_first i s))) (one ∷ one ∷ one ∷ task.Node p ∷ st) acc ∙ maybe_found f (listed_maybe e (listed_first i s)) (one ∷ one ∷ task.Node p ∷ st) (nodes_stmt (depth st + 1 + 1) d ++ acc) ∙ maybe_found e (listed_first i s) (one ∷ task.Node p ∷ st) (nodes_maybe (depth st + 1 + 1) f ++ (nodes_stmt (depth st + 1 + 1) d ++ acc)) ∙ first_found i s (task.Node p ∷ st) (nodes_maybe (depth st + 1 + 1) e ++ (nodes_maybe (depth st + 1 + 1) f ++ (nodes_stmt (depth st + 1 + 1) d ++ acc))) ∙ node_next s p st (nodes_first (depth st + 1 + 1) i ++ (nodes_maybe (depth st + 1 + 1) e ++ (nodes_maybe (depth st + 1 + 1) f ++ (nodes_stmt (depth st + 1 + 1) d ++ acc)))) ∙ then_nodes s st (simp append_assoc)
  stmt_found (give p nothing c) s st acc = node_next s p st acc
  stmt_found (give p (just e) c) s st acc = found e s (task.Node p ∷ st) acc ∙ node_next s p st (nodes (depth st + 1 + 1) e ++ acc)
  stmt_found (stop p c) s st acc = node_next s p st acc
  stmt_found (again p c) s st acc = node_next s p st acc

  pub stmts_found : (ss : Stmts) (s : Table) (st : Tasks) (acc : Nodes) → found_from (listed_stmts ss s) (many ∷ st, acc) ≡ found_from s (many ∷ st, nodes_stmts (depth st + 1) ss ++ acc)
  stmts_found no_stmts s st acc = refl
  stmts_found (a_stmt d ss) s st acc = stmts_found ss (listed_stmt d s) st acc ∙ as_statement d s st (nodes_stmts (depth st + 1) ss ++ acc) ∙ stmt_found d s (many ∷ st) (nodes_stmts (depth st + 1) ss ++ acc) ∙ then_nodes s (many ∷ st) (simp append_assoc)

  vars_found : (vs : Vars) (s : Table) (st : Tasks) (acc : Nodes) → found_from (listed_vars vs s) (many ∷ st, acc) ≡ found_from s (many ∷ st, nodes_vars (depth st + 1) vs ++ acc)
  vars_found (last_var n p i) s st acc = value_found i n p s st acc
  vars_found (a_var n p i vs) s st acc = vars_found vs (listed_value i (node.Var n p ∷ s)) st acc ∙ value_found i n p s st (nodes_vars (depth st + 1) vs ++ acc) ∙ then_nodes s (many ∷ st) (simp append_assoc)

  value_found : (i : Maybe) (n : Units) (p : Place) (s : Table) (st : Tasks) (acc : Nodes) → found_from (listed_value i (node.Var n p ∷ s)) (many ∷ st, acc) ≡ found_from s (many ∷ st, nodes_maybe (depth st + 1) i ++ acc)
  value_found nothing n p s st acc = refl
  value_found (just e) n p s st acc = as_part (listed e (node.Var n p ∷ s)) (head e (node.Var n p ∷ s)) st acc ∙ found e (node.Var n p ∷ s) (many ∷ st) acc

  maybe_found : (e : Maybe) (s : Table) (st : Tasks) (acc : Nodes) → found_from (listed_maybe e s) (one ∷ st, acc) ≡ found_from s (st, nodes_maybe (depth st + 1) e ++ acc)
  maybe_found nothing s st acc = refl
  maybe_found (just e) s st acc = found e s st acc

  first_found : (i : First) (s : Table) (st : Tasks) (acc : Nodes) → found_from (listed_first i s) (one ∷ st, acc) ≡ found_from s (st, nodes_first (depth st + 1) i ++ acc)
  first_found no_first s st acc = refl
  first_found (first_expr e) s st acc = found e s st acc
  first_found (first_declare p q vs) s st acc = vars_found vs (node.Mark ∷ s) (task.Node p ∷ st) acc ∙ node_next s p st (nodes_vars (depth st + 1 + 1) vs ++ acc)
