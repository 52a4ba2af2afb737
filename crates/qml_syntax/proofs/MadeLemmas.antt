-- A node makes of the parts of a part that very part.
use Rattle.std.proofs.Common.{◌≡◌, Bool, true, false, List, [], ◌∷◌, refl, ap, ◌∙◌}
use Rattle.qml_base.specs.declared.numbers.Place.{Place}
use Rattle.qml_syntax.specs.declared.operators.Operator.{Operator}
use Rattle.qml_syntax.specs.declared.operators.Prefix.{Prefix}
use Rattle.qml_syntax.specs.declared.operators.Assignment.{Assignment}
use Rattle.qml_syntax.specs.declared.node.Node.TheVariants as node
use Rattle.qml_syntax.specs.Tree.{Expr, name, number, text, literal, paren, list, fields, steps, bumped, signed, chain, choose, assign, Exprs, no_exprs, an_expr, Fields, no_fields, a_field, Step, member, element, call, binding, Steps, no_steps, a_step, Signs, no_signs, a_sign, Links, no_links, a_link, Choices, no_choices, a_choice, Targets, no_targets, a_target, Stmt, empty, expr, block, declare, when, either, while, for, give, stop, again, Stmts, no_stmts, a_stmt, Vars, last_var, a_var, nothing, just, no_first, first_expr, first_declare}
use Rattle.qml_syntax.specs.Nodes.{Item, mark, of_expr, of_step, of_stmt, of_key, of_sign, of_link, of_choice, of_target, of_var, of_first, of_maybe, of_body, Parts, apply, close_of, exprs_in, below_exprs, fields_in, below_fields, stmts_in, below_stmts, vars_in, vars_of, below_vars, steps_in, below_steps, top_expr, below, signs_behind, below_signs_behind, links_behind, below_links_behind, choices_in, below_choices, targets_in, below_targets}
use Rattle.qml_syntax.specs.Onto.{Choice, Target, exprs_onto, fields_onto, stmts_onto, vars_onto, steps_onto, stepped, signed_onto, chain_onto, choose_onto, assign_onto}
use Rattle.qml_syntax.specs.Listed.{end_of, last_sign}
use Rattle.qml_syntax.specs.Opened.{last_link, node_of, parts_of, exprs_parts, fields_parts, steps_parts, stmts_parts, vars_parts, signs_parts, links_parts, choices_parts, targets_parts}
use Rattle.qml_syntax.proofs.DocumentParts.{made_in_document, end_back}
pub use Rattle.qml_syntax.proofs.DocumentParts.{stacked}

pub exprs_all : (es : Exprs) (s : Parts) → exprs_onto (exprs_in (stacked (exprs_parts es) s)) no_exprs ≡ exprs_onto (exprs_in s) es
exprs_all no_exprs s = refl
exprs_all (an_expr e es) s = exprs_all es (of_expr e ∷ s)

pub exprs_past : (es : Exprs) (s : Parts) → below_exprs (stacked (exprs_parts es) s) ≡ below_exprs s
exprs_past no_exprs s = refl
exprs_past (an_expr e es) s = exprs_past es (of_expr e ∷ s)

pub fields_all : (fs : Fields) (s : Parts) → fields_onto (fields_in (stacked (fields_parts fs) s)) no_fields ≡ fields_onto (fields_in s) fs
fields_all no_fields s = refl
fields_all (a_field q n p e fs) s = fields_all fs (of_expr e ∷ of_key q n p ∷ s)

pub fields_past : (fs : Fields) (s : Parts) → below_fields (stacked (fields_parts fs) s) ≡ below_fields s
fields_past no_fields s = refl
fields_past (a_field q n p e fs) s = fields_past fs (of_expr e ∷ of_key q n p ∷ s)

pub stmts_all : (ss : Stmts) (s : Parts) → stmts_onto (stmts_in (stacked (stmts_parts ss) s)) no_stmts ≡ stmts_onto (stmts_in s) ss
stmts_all no_stmts s = refl
stmts_all (a_stmt d ss) s = stmts_all ss (of_stmt d ∷ s)

pub stmts_past : (ss : Stmts) (s : Parts) → below_stmts (stacked (stmts_parts ss) s) ≡ below_stmts s
stmts_past no_stmts s = refl
stmts_past (a_stmt d ss) s = stmts_past ss (of_stmt d ∷ s)

pub vars_all : (vs : Vars) (s : Parts) → vars_of (vars_in (stacked (vars_parts vs) s)) ≡ vars_onto (vars_in s) vs
vars_all (last_var n p nothing) s = refl
vars_all (last_var n p (just e)) s = refl
vars_all (a_var n p nothing vs) s = vars_all vs (of_var n p ∷ s)
vars_all (a_var n p (just e) vs) s = vars_all vs (of_expr e ∷ of_var n p ∷ s)

pub vars_past : (vs : Vars) (s : Parts) → below_vars (stacked (vars_parts vs) s) ≡ below_vars s
vars_past (last_var n p nothing) s = refl
vars_past (last_var n p (just e)) s = refl
vars_past (a_var n p nothing vs) s = vars_past vs (of_var n p ∷ s)
vars_past (a_var n p (just e) vs) s = vars_past vs (of_expr e ∷ of_var n p ∷ s)

pub steps_all : (is : Steps) (e : Expr) (i : Step) (s : Parts) → stepped e (steps_in (stacked (steps_parts is) (of_step i ∷ s))) ≡ steps_onto e i (steps_in s) is
steps_all no_steps e i s = refl
steps_all (a_step j is) e i s = steps_all is e j (of_step i ∷ s)

pub steps_past : (is : Steps) (s : Parts) → below_steps (stacked (steps_parts is) s) ≡ below_steps s
steps_past no_steps s = refl
steps_past (a_step i is) s = steps_past is (of_step i ∷ s)

made_list : (es : Exprs) (z : Parts) (f : Exprs → Item) → f (exprs_onto (exprs_in (stacked (exprs_parts es) (mark ∷ z))) no_exprs) ∷ below_exprs (stacked (exprs_parts es) (mark ∷ z)) ≡ f es ∷ z
made_list es z f = ap (λ w. f w ∷ below_exprs (stacked (exprs_parts es) (mark ∷ z))) (exprs_all es (mark ∷ z)) ∙ ap (λ w. f es ∷ w) (exprs_past es (mark ∷ z))

made_fields : (fs : Fields) (z : Parts) (f : Fields → Item) → f (fields_onto (fields_in (stacked (fields_parts fs) (mark ∷ z))) no_fields) ∷ below_fields (stacked (fields_parts fs) (mark ∷ z)) ≡ f fs ∷ z
made_fields fs z f = ap (λ w. f w ∷ below_fields (stacked (fields_parts fs) (mark ∷ z))) (fields_all fs (mark ∷ z)) ∙ ap (λ w. f fs ∷ w) (fields_past fs (mark ∷ z))

made_stmts : (ss : Stmts) (z : Parts) (f : Stmts → Item) → f (stmts_onto (stmts_in (stacked (stmts_parts ss) (mark ∷ z))) no_stmts) ∷ below_stmts (stacked (stmts_parts ss) (mark ∷ z)) ≡ f ss ∷ z
made_stmts ss z f = ap (λ w. f w ∷ below_stmts (stacked (stmts_parts ss) (mark ∷ z))) (stmts_all ss (mark ∷ z)) ∙ ap (λ w. f ss ∷ w) (stmts_past ss (mark ∷ z))

made_vars : (vs : Vars) (z : Parts) (f : Vars → Item) → f (vars_of (vars_in (stacked (vars_parts vs) (mark ∷ z)))) ∷ below_vars (stacked (vars_parts vs) (mark ∷ z)) ≡ f vs ∷ z
made_vars vs z f = ap (λ w. f w ∷ below_vars (stacked (vars_parts vs) (mark ∷ z))) (vars_all vs (mark ∷ z)) ∙ ap (λ w. f vs ∷ w) (vars_past vs (mark ∷ z))

made_steps : (e : Expr) (i : Step) (is : Steps) (z : Parts) → apply node.Steps (stacked (steps_parts is) (of_step i ∷ of_expr e ∷ z)) ≡ of_expr (steps e i is) ∷ z
made_steps e i is z =
    let s : Parts = stacked (steps_parts is) (of_step i ∷ of_expr e ∷ z) in
    ap (λ w. of_expr (stepped (top_expr w) (steps_in s)) ∷ below w) (steps_past is (of_step i ∷ of_expr e ∷ z)) ∙ ap (λ w. of_expr w ∷ z) (steps_all is e i (of_expr e ∷ z))

made_signed : (first : Bool) (g : Prefix) (p : Place) (ss : Signs) (e : Expr) (z : Parts) → apply (last_sign first g p ss) (stacked (signs_parts first g p ss e) z) ≡ of_expr (signed_onto (signs_behind first z) g p ss e) ∷ below_signs_behind first z
made_signed first g p no_signs e z = refl
made_signed true g p (a_sign h q ss) e z = made_signed false h q ss e (of_sign true g p ∷ z)
made_signed false g p (a_sign h q ss) e z = made_signed false h q ss e (of_sign false g p ∷ z)

made_chain : (first : Bool) (op : Operator) (p : Place) (d : Expr) (ls : Links) (z : Parts) → apply (last_link first op p ls) (stacked (links_parts first op p d ls) z) ≡ of_expr (chain_onto (top_expr (below_links_behind first z)) (links_behind first z) op p d ls) ∷ below (below_links_behind first z)
made_chain first op p d no_links z = refl
made_chain true op p d (a_link o q e ls) z = made_chain false o q e ls (of_link true op p d ∷ z)
made_chain false op p d (a_link o q e ls) z = made_chain false o q e ls (of_link false op p d ∷ z)

-- the last choice stands in front, before the choices read behind it
abbrev chosen : List Choice → Choices → Expr → Expr
chosen [] cs d = d
chosen (x ∷ back) cs d = choose_onto back x.0 x.1 cs d

made_choose : (cs : Choices) (d : Expr) (f : Bool) (c e : Expr) (z : Parts) → apply node.Choose (stacked (choices_parts cs d) (of_choice f c e ∷ z)) ≡ of_expr (chosen (choices_in (of_choice f c e ∷ z)) cs d) ∷ below_choices (of_choice f c e ∷ z)
made_choose no_choices d true c e z = refl
made_choose no_choices d false c e z = refl
made_choose (a_choice a b cs) d true c e z = made_choose cs d false a b (of_choice true c e ∷ z)
made_choose (a_choice a b cs) d false c e z = made_choose cs d false a b (of_choice false c e ∷ z)

abbrev assigned : List Target → Targets → Expr → Expr
assigned [] ts v = v
assigned (x ∷ back) ts v = assign_onto back x.0 x.1 x.2 ts v

made_assign : (ts : Targets) (v : Expr) (f : Bool) (t : Expr) (g : Assignment) (p : Place) (z : Parts) → apply node.Assign (stacked (targets_parts ts v) (of_target f t g p ∷ z)) ≡ of_expr (assigned (targets_in (of_target f t g p ∷ z)) ts v) ∷ below_targets (of_target f t g p ∷ z)
made_assign no_targets v true t g p z = refl
made_assign no_targets v false t g p z = refl
made_assign (a_target u h q ts) v true t g p z = made_assign ts v false u h q (of_target true t g p ∷ z)
made_assign (a_target u h q ts) v false t g p z = made_assign ts v false u h q (of_target false t g p ∷ z)

made_expr : (e : Expr) (z : Parts) → apply (node_of (of_expr e)) (stacked (parts_of (of_expr e)) z) ≡ of_expr e ∷ z
made_expr (name n p) z = refl
made_expr (number n p) z = refl
made_expr (text n p) z = refl
made_expr (literal x p) z = refl
made_expr (paren p e) z = refl
made_expr (list p es c) z = made_list es z (λ w. of_expr (list p w c))
made_expr (fields p fs c) z = made_fields fs z (λ w. of_expr (fields p w c))
made_expr (steps e i is) z = made_steps e i is z
made_expr (bumped e i p) z = refl
made_expr (signed g p ss e) z = made_signed true g p ss e z
made_expr (chain e op p d ls) z = made_chain true op p d ls (of_expr e ∷ z)
made_expr (choose c e cs d) z = made_choose cs d true c e z
made_expr (assign t g p ts v) z = made_assign ts v true t g p z

made_step : (i : Step) (z : Parts) → apply (node_of (of_step i)) (stacked (parts_of (of_step i)) z) ≡ of_step i ∷ z
made_step (member n p) z = refl
made_step (element p e) z = refl
made_step (call p es) z = made_list es z (λ w. of_step (call p w))
made_step (binding p ss) z = made_stmts ss z (λ w. of_step (binding p w))

made_stmt : (d : Stmt) (z : Parts) → apply (node_of (of_stmt d)) (stacked (parts_of (of_stmt d)) z) ≡ of_stmt d ∷ z
made_stmt (empty p) z = refl
made_stmt (expr e c) z = ap (λ w. of_stmt (expr e w) ∷ z) (end_back c)
made_stmt (block p ss) z = made_stmts ss z (λ w. of_stmt (block p w))
made_stmt (declare p q vs c) z = made_vars vs z (λ w. of_stmt (declare p q w (close_of (end_of c)))) ∙ ap (λ w. of_stmt (declare p q vs w) ∷ z) (end_back c)
made_stmt (when p e d) z = refl
made_stmt (either p e d r) z = refl
made_stmt (while p e d) z = refl
made_stmt (for p i e f d) z = refl
made_stmt (give p nothing c) z = ap (λ w. of_stmt (give p nothing w) ∷ z) (end_back c)
made_stmt (give p (just e) c) z = ap (λ w. of_stmt (give p (just e) w) ∷ z) (end_back c)
made_stmt (stop p c) z = ap (λ w. of_stmt (stop p w) ∷ z) (end_back c)
made_stmt (again p c) z = ap (λ w. of_stmt (again p w) ∷ z) (end_back c)

pub made : (i : Item) (z : Parts) → apply (node_of i) (stacked (parts_of i) z) ≡ i ∷ z
made mark z = refl
made (of_expr e) z = made_expr e z
made (of_step i) z = made_step i z
made (of_stmt d) z = made_stmt d z
made (of_key q n p) z = refl
made (of_sign f g p) z = refl
made (of_link f op p d) z = refl
made (of_choice f c e) z = refl
made (of_target f t g p) z = refl
made (of_var n p) z = refl
made (of_first no_first) z = refl
made (of_first (first_expr e)) z = refl
made (of_first (first_declare p q vs)) z = made_vars vs z (λ w. of_first (first_declare p q w))
made (of_maybe nothing) z = refl
made (of_maybe (just e)) z = refl
made (of_body ss) z = made_stmts ss z (λ w. of_body w)
made i z = made_in_document i tt z
