-- The nodes of a part are those of its parts and its own.
use Rattle.std.proofs.Common.{◌≡◌, Bool, true, false, ◌∷◌, ◌++◌, refl, ap, ◌∙◌}
use Rattle.qml_base.specs.declared.numbers.Place.{Place}
use Rattle.qml_syntax.specs.declared.operators.Operator.{Operator}
use Rattle.qml_syntax.specs.declared.operators.Prefix.{Prefix}
use Rattle.qml_syntax.specs.declared.node.Node.TheVariants as node
use Rattle.qml_syntax.specs.Tree.{Expr, name, number, text, literal, paren, list, fields, steps, bumped, signed, chain, choose, assign, Exprs, no_exprs, an_expr, Fields, no_fields, a_field, member, element, call, binding, Steps, no_steps, a_step, Signs, no_signs, a_sign, Links, no_links, a_link, Choices, no_choices, a_choice, Targets, no_targets, a_target, Stmt, empty, expr, block, declare, when, either, while, for, give, stop, again, Stmts, no_stmts, a_stmt, Vars, last_var, a_var, nothing, just, no_first, first_expr, first_declare}
use Rattle.qml_syntax.specs.Nodes.{Item, mark, of_expr, of_step, of_stmt, of_key, of_sign, of_link, of_choice, of_target, of_var, of_first, of_maybe, of_body, Parts, Table}
use Rattle.qml_syntax.specs.Listed.{end_of, last_sign, listed, listed_exprs, listed_fields, listed_steps, listed_signs, listed_links, listed_choices, listed_targets, listed_stmts, listed_vars}
use Rattle.qml_syntax.specs.Opened.{last_link, node_of, parts_of, exprs_parts, fields_parts, steps_parts, stmts_parts, vars_parts, signs_parts, links_parts, choices_parts, targets_parts}
use Rattle.qml_syntax.specs.Starts.{listed_item, listed_parts}
use Rattle.qml_syntax.proofs.ListedLemmas.{over, over_step, over_stmt, over_stmts, over_first, over_maybe}
use Rattle.qml_syntax.proofs.MadeLemmas.{stacked}
use Rattle.qml_syntax.proofs.OneLevelDocument.{level_in_document, over_in_document}

exprs_row : (es : Exprs) (s : Parts) → listed_exprs es (listed_parts s) ≡ listed_parts (stacked (exprs_parts es) s)
exprs_row no_exprs s = refl
exprs_row (an_expr e es) s = exprs_row es (of_expr e ∷ s)

fields_row : (fs : Fields) (s : Parts) → listed_fields fs (listed_parts s) ≡ listed_parts (stacked (fields_parts fs) s)
fields_row no_fields s = refl
fields_row (a_field q n p e fs) s = fields_row fs (of_expr e ∷ of_key q n p ∷ s)

steps_row : (is : Steps) (s : Parts) → listed_steps is (listed_parts s) ≡ listed_parts (stacked (steps_parts is) s)
steps_row no_steps s = refl
steps_row (a_step i is) s = steps_row is (of_step i ∷ s)

stmts_row : (ss : Stmts) (s : Parts) → listed_stmts ss (listed_parts s) ≡ listed_parts (stacked (stmts_parts ss) s)
stmts_row no_stmts s = refl
stmts_row (a_stmt d ss) s = stmts_row ss (of_stmt d ∷ s)

vars_row : (vs : Vars) (s : Parts) → listed_vars vs (listed_parts s) ≡ listed_parts (stacked (vars_parts vs) s)
vars_row (last_var n p nothing) s = refl
vars_row (last_var n p (just e)) s = refl
vars_row (a_var n p nothing vs) s = vars_row vs (of_var n p ∷ s)
vars_row (a_var n p (just e) vs) s = vars_row vs (of_expr e ∷ of_var n p ∷ s)

signs_row : (first : Bool) (g : Prefix) (p : Place) (ss : Signs) (e : Expr) (s : Parts) → listed e (listed_signs first g p ss (listed_parts s)) ≡ listed_parts (stacked (signs_parts first g p ss e) s)
signs_row first g p no_signs e s = refl
signs_row first g p (a_sign h q ss) e s = signs_row false h q ss e (of_sign first g p ∷ s)

links_row : (first : Bool) (op : Operator) (p : Place) (d : Expr) (ls : Links) (s : Parts) → listed_links first op p ls (listed d (listed_parts s)) ≡ last_link first op p ls ∷ listed_parts (stacked (links_parts first op p d ls) s)
links_row first op p d no_links s = refl
links_row first op p d (a_link o q e ls) s = links_row false o q e ls (of_link first op p d ∷ s)

choices_row : (cs : Choices) (d : Expr) (s : Parts) → listed d (listed_choices cs (listed_parts s)) ≡ listed_parts (stacked (choices_parts cs d) s)
choices_row no_choices d s = refl
choices_row (a_choice c e cs) d s = choices_row cs d (of_choice false c e ∷ s)

targets_row : (ts : Targets) (v : Expr) (s : Parts) → listed v (listed_targets ts (listed_parts s)) ≡ listed_parts (stacked (targets_parts ts v) s)
targets_row no_targets v s = refl
targets_row (a_target t g p ts) v s = targets_row ts v (of_target false t g p ∷ s)

level_expr : (e : Expr) (s : Parts) → listed e (listed_parts s) ≡ node_of (of_expr e) ∷ listed_parts (stacked (parts_of (of_expr e)) s)
level_expr (name n p) s = refl
level_expr (number n p) s = refl
level_expr (text n p) s = refl
level_expr (literal x p) s = refl
level_expr (paren p e) s = refl
level_expr (list p es c) s = ap (λ z. node.List p c ∷ z) (exprs_row es (mark ∷ s))
level_expr (fields p fs c) s = ap (λ z. node.Fields p c ∷ z) (fields_row fs (mark ∷ s))
level_expr (steps e i is) s = ap (λ z. node.Steps ∷ z) (steps_row is (of_step i ∷ of_expr e ∷ s))
level_expr (bumped e i p) s = refl
level_expr (signed g p ss e) s = ap (λ z. last_sign true g p ss ∷ z) (signs_row true g p ss e s)
level_expr (chain e op p d ls) s = links_row true op p d ls (of_expr e ∷ s)
level_expr (choose c e cs d) s = ap (λ z. node.Choose ∷ z) (choices_row cs d (of_choice true c e ∷ s))
level_expr (assign t g p ts v) s = ap (λ z. node.Assign ∷ z) (targets_row ts v (of_target true t g p ∷ s))

level_stmt : (d : Stmt) (s : Parts) → listed_item (of_stmt d) (listed_parts s) ≡ node_of (of_stmt d) ∷ listed_parts (stacked (parts_of (of_stmt d)) s)
level_stmt (empty p) s = refl
level_stmt (expr e c) s = refl
level_stmt (block p ss) s = ap (λ z. node.Block p ∷ z) (stmts_row ss (mark ∷ s))
level_stmt (declare p q vs c) s = ap (λ z. node.Declare p q (end_of c) ∷ z) (vars_row vs (mark ∷ s))
level_stmt (when p e d) s = refl
level_stmt (either p e d r) s = refl
level_stmt (while p e d) s = refl
level_stmt (for p i e f d) s = refl
level_stmt (give p nothing c) s = refl
level_stmt (give p (just e) c) s = refl
level_stmt (stop p c) s = refl
level_stmt (again p c) s = refl

pub one_level : (i : Item) (s : Parts) → listed_item i (listed_parts s) ≡ node_of i ∷ listed_parts (stacked (parts_of i) s)
one_level mark s = refl
one_level (of_expr e) s = level_expr e s
one_level (of_step (member n p)) s = refl
one_level (of_step (element p e)) s = refl
one_level (of_step (call p es)) s = ap (λ z. node.Call p ∷ z) (exprs_row es (mark ∷ s))
one_level (of_step (binding p ss)) s = ap (λ z. node.Binding p ∷ z) (stmts_row ss (mark ∷ s))
one_level (of_stmt d) s = level_stmt d s
one_level (of_key q n p) s = refl
one_level (of_sign f g p) s = refl
one_level (of_link f op p d) s = refl
one_level (of_choice f c e) s = refl
one_level (of_target f t g p) s = refl
one_level (of_var n p) s = refl
one_level (of_first no_first) s = refl
one_level (of_first (first_expr e)) s = refl
one_level (of_first (first_declare p q vs)) s = ap (λ z. node.FirstDeclare p q ∷ z) (vars_row vs (mark ∷ s))
one_level (of_maybe nothing) s = refl
one_level (of_maybe (just e)) s = refl
one_level (of_body ss) s = ap (λ z. node.Body ∷ z) (stmts_row ss (mark ∷ s))
one_level i s = level_in_document i tt s

pub over_item : (i : Item) (s r : Table) → listed_item i (s ++ r) ≡ listed_item i s ++ r
over_item mark s r = refl
over_item (of_expr e) s r = over e s r
over_item (of_step i) s r = over_step i s r
over_item (of_stmt d) s r = over_stmt d s r
over_item (of_key q n p) s r = refl
over_item (of_sign f g p) s r = refl
over_item (of_link f op p d) s r = ap (λ z. node.Link f op p ∷ z) (over d s r)
over_item (of_choice f c e) s r = ap (λ z. node.Choice f ∷ z) (ap (λ z. listed e z) (over c s r) ∙ over e (listed c s) r)
over_item (of_target f t g p) s r = ap (λ z. node.Target f g p ∷ z) (over t s r)
over_item (of_var n p) s r = refl
over_item (of_first i) s r = over_first i s r
over_item (of_maybe e) s r = over_maybe e s r
over_item (of_body ss) s r = ap (λ z. node.Body ∷ z) (over_stmts ss (node.Mark ∷ s) r)
over_item i s r = over_in_document i tt s r
