-- A node takes the parts of its part.
use Rattle.std.proofs.Common.{◌≡◌, Bool, true, false, not, ◌∷◌, refl, ap, ◌∙◌}
use Rattle.std.specs.Prelude.{if◌then◌else◌}
use Rattle.qml_base.specs.declared.numbers.Place.{Place}
use Rattle.qml_syntax.specs.declared.operators.Operator.{Operator}
use Rattle.qml_syntax.specs.declared.operators.Prefix.{Prefix}
use Rattle.qml_syntax.specs.declared.taking.Taking.TheVariants as taking
use Rattle.qml_syntax.specs.declared.taking.Edge.TheVariants as edge
use Rattle.qml_syntax.specs.Tree.{Expr, name, number, text, literal, paren, list, fields, steps, bumped, signed, chain, choose, assign, Exprs, no_exprs, an_expr, Fields, no_fields, a_field, member, element, call, binding, Steps, no_steps, a_step, Signs, no_signs, a_sign, Links, no_links, a_link, Choices, no_choices, a_choice, Targets, no_targets, a_target, Stmt, empty, expr, block, declare, when, either, while, for, give, stop, again, Stmts, no_stmts, a_stmt, Vars, last_var, a_var, nothing, just, no_first, first_expr, first_declare, Step}
use Rattle.qml_syntax.specs.Nodes.{Item, mark, of_expr, of_step, of_stmt, of_key, of_sign, of_link, of_choice, of_target, of_var, of_first, of_maybe, of_body, Parts, is_mark, below}
use Rattle.qml_syntax.specs.Listed.{last_sign}
use Rattle.qml_syntax.specs.Opened.{last_link, node_of, expr_node, stmt_node, parts_of, exprs_parts, fields_parts, steps_parts, stmts_parts, vars_parts, signs_parts, links_parts, choices_parts, targets_parts}
use Rattle.qml_syntax.specs.Taken.{taking_of, is_step, past, left}
use Rattle.qml_syntax.proofs.MadeLemmas.{stacked}
use Rattle.qml_syntax.proofs.TakenDocument.{left_in_document}

sign_no_mark : (f : Bool) (g : Prefix) (p : Place) (ss : Signs) → is_mark (last_sign f g p ss) ≡ false
sign_no_mark f g p no_signs = refl
sign_no_mark f g p (a_sign h q ss) = sign_no_mark false h q ss

link_no_mark : (f : Bool) (op : Operator) (p : Place) (ls : Links) → is_mark (last_link f op p ls) ≡ false
link_no_mark f op p no_links = refl
link_no_mark f op p (a_link o q d ls) = link_no_mark false o q ls

expr_no_mark : (e : Expr) → is_mark (expr_node e) ≡ false
expr_no_mark (signed g p ss e) = sign_no_mark true g p ss
expr_no_mark (chain e op p d ls) = link_no_mark true op p ls
expr_no_mark _ = refl

stmt_no_mark : (d : Stmt) → is_mark (stmt_node d) ≡ false
stmt_no_mark (give p nothing c) = refl
stmt_no_mark (give p (just e) c) = refl
stmt_no_mark _ = refl

sign_no_step : (f : Bool) (g : Prefix) (p : Place) (ss : Signs) → not (is_step (last_sign f g p ss)) ≡ true
sign_no_step f g p no_signs = refl
sign_no_step f g p (a_sign h q ss) = sign_no_step false h q ss

link_no_step : (f : Bool) (op : Operator) (p : Place) (ls : Links) → not (is_step (last_link f op p ls)) ≡ true
link_no_step f op p no_links = refl
link_no_step f op p (a_link o q d ls) = link_no_step false o q ls

expr_no_step : (e : Expr) → not (is_step (expr_node e)) ≡ true
expr_no_step (signed g p ss e) = sign_no_step true g p ss
expr_no_step (chain e op p d ls) = link_no_step true op p ls
expr_no_step _ = refl

-- a step is no edge of steps
step_goes_on : (i : Step) (s : Parts) → past edge.Operand (of_step i ∷ s) ≡ past edge.Operand s
step_goes_on (member n p) s = refl
step_goes_on (element p e) s = refl
step_goes_on (call p es) s = refl
step_goes_on (binding p ss) s = refl

expr_goes_on : (e : Expr) (s : Parts) → past edge.Mark (of_expr e ∷ s) ≡ past edge.Mark s
expr_goes_on e s = ap (λ (v : Bool). if v then s else past edge.Mark s) (expr_no_mark e)

stmt_goes_on : (d : Stmt) (s : Parts) → past edge.Mark (of_stmt d ∷ s) ≡ past edge.Mark s
stmt_goes_on d s = ap (λ (v : Bool). if v then s else past edge.Mark s) (stmt_no_mark d)

exprs_left : (es : Exprs) (s : Parts) → past edge.Mark (stacked (exprs_parts es) s) ≡ past edge.Mark s
exprs_left no_exprs s = refl
exprs_left (an_expr e es) s = exprs_left es (of_expr e ∷ s) ∙ expr_goes_on e s

fields_left : (fs : Fields) (s : Parts) → past edge.Mark (stacked (fields_parts fs) s) ≡ past edge.Mark s
fields_left no_fields s = refl
fields_left (a_field q n p e fs) s = fields_left fs (of_expr e ∷ of_key q n p ∷ s) ∙ expr_goes_on e (of_key q n p ∷ s)

stmts_left : (ss : Stmts) (s : Parts) → past edge.Mark (stacked (stmts_parts ss) s) ≡ past edge.Mark s
stmts_left no_stmts s = refl
stmts_left (a_stmt d ss) s = stmts_left ss (of_stmt d ∷ s) ∙ stmt_goes_on d s

vars_left : (vs : Vars) (s : Parts) → past edge.Mark (stacked (vars_parts vs) s) ≡ past edge.Mark s
vars_left (last_var n p nothing) s = refl
vars_left (last_var n p (just e)) s = expr_goes_on e (of_var n p ∷ s)
vars_left (a_var n p nothing vs) s = vars_left vs (of_var n p ∷ s)
vars_left (a_var n p (just e) vs) s = vars_left vs (of_expr e ∷ of_var n p ∷ s) ∙ expr_goes_on e (of_var n p ∷ s)

steps_left : (is : Steps) (s : Parts) → past edge.Operand (stacked (steps_parts is) s) ≡ past edge.Operand s
steps_left no_steps s = refl
steps_left (a_step i is) s = steps_left is (of_step i ∷ s) ∙ step_goes_on i s

-- behind the first of a chain
signs_left : (g : Prefix) (p : Place) (ss : Signs) (e : Expr) (s : Parts) → past edge.First (below (stacked (signs_parts false g p ss e) s)) ≡ past edge.First s
signs_left g p no_signs e s = refl
signs_left g p (a_sign h q ss) e s = signs_left h q ss e (of_sign false g p ∷ s)

signs_taking : (g : Prefix) (p : Place) (ss : Signs) → taking_of (last_sign false g p ss) ≡ taking.Chain
signs_taking g p no_signs = refl
signs_taking g p (a_sign h q ss) = signs_taking h q ss

signed_left : (g : Prefix) (p : Place) (ss : Signs) (e : Expr) (s : Parts) → left (taking_of (last_sign true g p ss)) (stacked (signs_parts true g p ss e) s) ≡ s
signed_left g p no_signs e s = refl
signed_left g p (a_sign h q ss) e s = ap (λ z. left z (stacked (signs_parts false h q ss e) (of_sign true g p ∷ s))) (signs_taking h q ss) ∙ signs_left h q ss e (of_sign true g p ∷ s)

links_left : (op : Operator) (p : Place) (d : Expr) (ls : Links) (s : Parts) → past edge.First (below (stacked (links_parts false op p d ls) s)) ≡ past edge.First s
links_left op p d no_links s = refl
links_left op p d (a_link o q e ls) s = links_left o q e ls (of_link false op p d ∷ s)

links_taking : (op : Operator) (p : Place) (ls : Links) → taking_of (last_link false op p ls) ≡ taking.Operands
links_taking op p no_links = refl
links_taking op p (a_link o q d ls) = links_taking o q ls

chain_left : (op : Operator) (p : Place) (d : Expr) (ls : Links) (e : Expr) (s : Parts) → left (taking_of (last_link true op p ls)) (stacked (links_parts true op p d ls) (of_expr e ∷ s)) ≡ s
chain_left op p d no_links e s = refl
chain_left op p d (a_link o q b ls) e s = ap (λ z. left z (stacked (links_parts false o q b ls) (of_link true op p d ∷ of_expr e ∷ s))) (links_taking o q ls) ∙ ap (λ z. below z) (links_left o q b ls (of_link true op p d ∷ of_expr e ∷ s))

choices_left : (cs : Choices) (d : Expr) (s : Parts) → past edge.First (below (stacked (choices_parts cs d) s)) ≡ past edge.First s
choices_left no_choices d s = refl
choices_left (a_choice c e cs) d s = choices_left cs d (of_choice false c e ∷ s)

targets_left : (ts : Targets) (v : Expr) (s : Parts) → past edge.First (below (stacked (targets_parts ts v) s)) ≡ past edge.First s
targets_left no_targets v s = refl
targets_left (a_target t g p ts) v s = targets_left ts v (of_target false t g p ∷ s)

expr_left : (e : Expr) (s : Parts) → left (taking_of (expr_node e)) (stacked (parts_of (of_expr e)) s) ≡ s
expr_left (name n p) s = refl
expr_left (number n p) s = refl
expr_left (text n p) s = refl
expr_left (literal x p) s = refl
expr_left (paren p e) s = refl
expr_left (list p es c) s = exprs_left es (mark ∷ s)
expr_left (fields p fs c) s = fields_left fs (mark ∷ s)
expr_left (steps e i is) s = steps_left is (of_step i ∷ of_expr e ∷ s) ∙ step_goes_on i (of_expr e ∷ s) ∙ ap (λ (v : Bool). if v then s else past edge.Operand s) (expr_no_step e)
expr_left (bumped e i p) s = refl
expr_left (signed g p ss e) s = signed_left g p ss e s
expr_left (chain e op p d ls) s = chain_left op p d ls e s
expr_left (choose c e cs d) s = choices_left cs d (of_choice true c e ∷ s)
expr_left (assign t g p ts v) s = targets_left ts v (of_target true t g p ∷ s)

stmt_left : (d : Stmt) (s : Parts) → left (taking_of (stmt_node d)) (stacked (parts_of (of_stmt d)) s) ≡ s
stmt_left (empty p) s = refl
stmt_left (expr e c) s = refl
stmt_left (block p ss) s = stmts_left ss (mark ∷ s)
stmt_left (declare p q vs c) s = vars_left vs (mark ∷ s)
stmt_left (when p e d) s = refl
stmt_left (either p e d r) s = refl
stmt_left (while p e d) s = refl
stmt_left (for p i e f d) s = refl
stmt_left (give p nothing c) s = refl
stmt_left (give p (just e) c) s = refl
stmt_left (stop p c) s = refl
stmt_left (again p c) s = refl

pub item_left : (i : Item) (s : Parts) → left (taking_of (node_of i)) (stacked (parts_of i) s) ≡ s
item_left mark s = refl
item_left (of_expr e) s = expr_left e s
item_left (of_step (member n p)) s = refl
item_left (of_step (element p e)) s = refl
item_left (of_step (call p es)) s = exprs_left es (mark ∷ s)
item_left (of_step (binding p ss)) s = stmts_left ss (mark ∷ s)
item_left (of_stmt d) s = stmt_left d s
item_left (of_key q n p) s = refl
item_left (of_sign f g p) s = refl
item_left (of_link f op p d) s = refl
item_left (of_choice f c e) s = refl
item_left (of_target f t g p) s = refl
item_left (of_var n p) s = refl
item_left (of_first no_first) s = refl
item_left (of_first (first_expr e)) s = refl
item_left (of_first (first_declare p q vs)) s = vars_left vs (mark ∷ s)
item_left (of_maybe nothing) s = refl
item_left (of_maybe (just e)) s = refl
item_left (of_body ss) s = stmts_left ss (mark ∷ s)
item_left i s = left_in_document i tt s
