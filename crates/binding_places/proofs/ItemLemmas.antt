-- What is in a part is its own call and what is in its parts.
use Rattle.std.proofs.Common.{◌≡◌, ◌∙◌, ap, sym, refl, Bool, true, false, List, [], ◌∷◌, ◌++◌, Option, Some, None}
use Rattle.std.proofs.lemmas.List.{append_assoc, append-nil}
use Rattle.qml_base.specs.declared.numbers.Place.{Place}
use Rattle.qml_syntax.specs.declared.operators.Operator.{Operator}
use Rattle.qml_syntax.specs.declared.operators.Prefix.{Prefix}
use Rattle.qml_syntax.specs.declared.operators.Assignment.{Assignment}
use Rattle.qml_syntax.specs.declared.literal.Declaration.{Declaration}
use Rattle.qml_syntax.specs.Tree.{Expr, name, number, text, literal, paren, list, fields, steps, bumped, signed, chain, choose, assign, Exprs, no_exprs, an_expr, Fields, no_fields, a_field, Step, member, element, call, binding, Steps, no_steps, a_step, Signs, no_signs, a_sign, Links, no_links, a_link, Choices, no_choices, a_choice, Targets, no_targets, a_target, Stmt, empty, expr, block, declare, when, either, while, for, give, stop, again, Stmts, no_stmts, a_stmt, Vars, last_var, a_var, Maybe, nothing, just, First, no_first, first_expr, first_declare, Pars, no_pars, a_par, function, auto, import_module, import_text, kind_var, kind_name, kind_list, id, property, bare, alias, signal, method, given, group, child, script}
use Rattle.qml_syntax.specs.Nodes.{Item, mark, of_expr, of_step, of_stmt, of_key, of_sign, of_link, of_choice, of_target, of_var, of_first, of_maybe, of_body, of_name, of_dot, of_file, of_qualifier, of_import, of_kind, of_par_name, of_par, of_signal_par, of_function, of_member, of_object, of_objects, of_document, of_script, no_expr}
use Rattle.qml_syntax.specs.Opened.{last_link, exprs_parts, fields_parts, steps_parts, stmts_parts, vars_parts, signs_parts, links_parts, choices_parts, targets_parts, pars_parts, node_of, parts_of}
use Rattle.qml_syntax.specs.Listed.{last_sign}
use Rattle.unit_rows.specs.Bindings.{BindingFunction, in_stmt, in_all}
use Rattle.binding_places.specs.InParts.{in_expression, in_step, bindings_in, has_code, call_place, call_at, own_binding, in_row}

abbrev Found : Type 0
Found = List BindingFunction

-- ---- parts in a row

exprs : (p : Place) (es : Exprs) → in_row (exprs_parts es) ≡ in_expression (list p es false)
exprs p no_exprs = refl
exprs p (an_expr e es) = ap (λ x. in_expression e ++ x) (exprs p es)

entries : (p : Place) (fs : Fields) → in_row (fields_parts fs) ≡ in_expression (fields p fs false)
entries p no_fields = refl
entries p (a_field k n q e fs) = ap (λ x. in_expression e ++ x) (entries p fs)

all_steps : (s : Step) (ss : Steps) → in_step s ++ in_row (steps_parts ss) ≡ in_expression (steps no_expr s ss)
all_steps (member n q) no_steps = refl
all_steps (element q e) no_steps = refl
all_steps (call q es) no_steps = refl
all_steps (binding q bs) no_steps = refl
all_steps (member n q) (a_step i is) = ap (λ x. in_step (member n q) ++ x) (all_steps i is)
all_steps (element q e) (a_step i is) = ap (λ x. in_step (element q e) ++ x) (all_steps i is)
all_steps (call q es) (a_step i is) = ap (λ x. in_step (call q es) ++ x) (all_steps i is)
all_steps (binding q bs) (a_step i is) = ap (λ x. in_step (binding q bs) ++ x) (all_steps i is)

signs : (f : Bool) (g : Prefix) (p : Place) (ss : Signs) (e : Expr) → in_row (signs_parts f g p ss e) ≡ in_expression e
signs f g p no_signs e = append-nil (in_expression e)
signs f g p (a_sign h q ss) e = signs false h q ss e

links : (f : Bool) (o : Operator) (p : Place) (e : Expr) (ls : Links) → in_row (links_parts f o p e ls) ≡ in_expression (chain no_expr o p e ls)
links f o p e no_links = refl
links f o p e (a_link k q d ls) = ap (λ x. in_expression e ++ x) (links false k q d ls)

choices : (cs : Choices) (e : Expr) → in_row (choices_parts cs e) ≡ in_expression (choose no_expr no_expr cs e)
choices no_choices e = append-nil (in_expression e)
choices (a_choice c d cs) e =
    ap (λ x. (in_expression c ++ in_expression d) ++ x) (choices cs e)
    ∙ sym (append_assoc (in_expression c ++ in_expression d) _ (in_expression e))

targets : (g : Assignment) (p : Place) (ts : Targets) (e : Expr) → in_row (targets_parts ts e) ≡ in_expression (assign no_expr g p ts e)
targets g p no_targets e = append-nil (in_expression e)
targets g p (a_target t h q ts) e =
    ap (λ x. in_expression t ++ x) (targets g p ts e) ∙ sym (append_assoc (in_expression t) _ (in_expression e))

statements : (ss : Stmts) → in_row (stmts_parts ss) ≡ in_all ss
statements no_stmts = refl
statements (a_stmt s ss) = ap (λ x. in_stmt s ++ x) (statements ss)

vars : (p : Place) (g : Declaration) (vs : Vars) → in_row (vars_parts vs) ≡ in_stmt (declare p g vs auto)
vars p g (last_var n q nothing) = refl
vars p g (last_var n q (just e)) = append-nil (in_expression e)
vars p g (a_var n q nothing vs) = vars p g vs
vars p g (a_var n q (just e) vs) = ap (λ x. in_expression e ++ x) (vars p g vs)

parameters : (ps : Pars) (is : List Item) → in_row (pars_parts ps is) ≡ in_row is
parameters no_pars is = refl
parameters (a_par n k ps) is = parameters ps is

-- ---- a part with its parts

abbrev whole : Item → Found
whole i = own_binding i ++ in_row (parts_of i)

abbrev pub by_node : Bool → Option Place → Item → Found
by_node true q i = call_at q i ++ in_row (parts_of i)
by_node false q i = call_at q i

any_sign : (f : Bool) (g : Prefix) (p : Place) (ss : Signs) → (has_code (last_sign f g p ss) ≡ true) × (call_place (last_sign f g p ss) ≡ None)
any_sign f g p no_signs = (refl, refl)
any_sign f g p (a_sign h q ss) = any_sign false h q ss

any_link : (f : Bool) (o : Operator) (p : Place) (ls : Links) → (has_code (last_link f o p ls) ≡ true) × (call_place (last_link f o p ls) ≡ None)
any_link f o p no_links = (refl, refl)
any_link f o p (a_link k q d ls) = any_link false k q ls

plain : (i : Item) (b : Bool) (q : Option Place) → (b ≡ true) × (q ≡ None) → in_row (parts_of i) ≡ by_node b q i
plain i b q h = sym (ap (λ x. by_node x q i) h.0 ∙ ap (λ x. by_node true x i) h.1)

last : (a b : Found) → a ++ (b ++ []) ≡ a ++ b
last a b = ap (λ x. a ++ x) (append-nil b)

four : (a b c d : Found) → ((a ++ b) ++ c) ++ d ≡ a ++ (b ++ (c ++ (d ++ [])))
four a b c d =
    append_assoc (a ++ b) c d ∙ append_assoc a b (c ++ d) ∙ ap (λ x. a ++ (b ++ x)) (sym (last c d))

heads : (p : Place) (i : First) (e f : Maybe) (d : Stmt) → bindings_in (of_stmt (for p i e f d)) ≡ whole (of_stmt (for p i e f d))
heads p no_first nothing nothing d = four [] [] [] (in_stmt d)
heads p no_first nothing (just f) d = four [] [] (in_expression f) (in_stmt d)
heads p no_first (just e) nothing d = four [] (in_expression e) [] (in_stmt d)
heads p no_first (just e) (just f) d = four [] (in_expression e) (in_expression f) (in_stmt d)
heads p (first_expr i) nothing nothing d = four (in_expression i) [] [] (in_stmt d)
heads p (first_expr i) nothing (just f) d = four (in_expression i) [] (in_expression f) (in_stmt d)
heads p (first_expr i) (just e) nothing d = four (in_expression i) (in_expression e) [] (in_stmt d)
heads p (first_expr i) (just e) (just f) d = four (in_expression i) (in_expression e) (in_expression f) (in_stmt d)
heads p (first_declare q g vs) nothing nothing d = four (in_stmt (declare q g vs auto)) [] [] (in_stmt d)
heads p (first_declare q g vs) nothing (just f) d = four (in_stmt (declare q g vs auto)) [] (in_expression f) (in_stmt d)
heads p (first_declare q g vs) (just e) nothing d = four (in_stmt (declare q g vs auto)) (in_expression e) [] (in_stmt d)
heads p (first_declare q g vs) (just e) (just f) d =
    four (in_stmt (declare q g vs auto)) (in_expression e) (in_expression f) (in_stmt d)

pub by_parts : (i : Item) → bindings_in i ≡ by_node (has_code (node_of i)) (call_place (node_of i)) i
by_parts mark = refl
by_parts (of_expr (name n p)) = refl
by_parts (of_expr (number n p)) = refl
by_parts (of_expr (text n p)) = refl
by_parts (of_expr (literal x p)) = refl
by_parts (of_expr (paren p e)) = sym (append-nil (in_expression e))
by_parts (of_expr (list p es c)) = sym (exprs p es)
by_parts (of_expr (fields p fs c)) = sym (entries p fs)
by_parts (of_expr (steps e i is)) = append_assoc (in_expression e) _ _ ∙ ap (λ x. in_expression e ++ x) (sym (all_steps i is))
by_parts (of_expr (bumped e i p)) = sym (append-nil (in_expression e))
by_parts (of_expr (signed g p ss e)) =
    sym (signs true g p ss e) ∙ plain (of_expr (signed g p ss e)) _ _ (any_sign true g p ss)
by_parts (of_expr (chain e o p d ls)) =
    append_assoc (in_expression e) (in_expression d) _
    ∙ ap (λ x. in_expression e ++ x) (sym (links true o p d ls))
    ∙ plain (of_expr (chain e o p d ls)) _ _ (any_link true o p ls)
by_parts (of_expr (choose c e cs d)) =
    append_assoc (in_expression c ++ in_expression e) _ (in_expression d)
    ∙ ap (λ x. (in_expression c ++ in_expression e) ++ x) (sym (choices cs d))
by_parts (of_expr (assign t g p ts v)) =
    append_assoc (in_expression t) _ (in_expression v) ∙ ap (λ x. in_expression t ++ x) (sym (targets g p ts v))
by_parts (of_step (member n p)) = refl
by_parts (of_step (element p e)) = sym (append-nil (in_expression e))
by_parts (of_step (call p es)) = sym (exprs p es)
by_parts (of_step (binding p ss)) = ap (λ x. own_binding (of_step (binding p ss)) ++ x) (sym (statements ss))
by_parts (of_stmt (empty p)) = refl
by_parts (of_stmt (expr e c)) = sym (append-nil (in_expression e))
by_parts (of_stmt (block p ss)) = sym (statements ss)
by_parts (of_stmt (declare p q vs c)) = sym (vars p q vs)
by_parts (of_stmt (when p e d)) = sym (last (in_expression e) (in_stmt d))
by_parts (of_stmt (either p e d r)) =
    append_assoc (in_expression e) (in_stmt d) (in_stmt r) ∙ ap (λ x. in_expression e ++ x) (sym (last (in_stmt d) (in_stmt r)))
by_parts (of_stmt (while p e d)) = sym (last (in_expression e) (in_stmt d))
by_parts (of_stmt (for p i e f d)) = heads p i e f d
by_parts (of_stmt (give p nothing c)) = refl
by_parts (of_stmt (give p (just e) c)) = sym (append-nil (in_expression e))
by_parts (of_stmt (stop p c)) = refl
by_parts (of_stmt (again p c)) = refl
by_parts (of_key q n p) = refl
by_parts (of_sign f g p) = refl
by_parts (of_link f op p d) = sym (append-nil (in_expression d))
by_parts (of_choice f c e) = sym (last (in_expression c) (in_expression e))
by_parts (of_target f t g p) = sym (append-nil (in_expression t))
by_parts (of_var n p) = refl
by_parts (of_first no_first) = refl
by_parts (of_first (first_expr e)) = sym (append-nil (in_expression e))
by_parts (of_first (first_declare p q vs)) = sym (vars p q vs)
by_parts (of_maybe nothing) = refl
by_parts (of_maybe (just e)) = sym (append-nil (in_expression e))
by_parts (of_body ss) = sym (statements ss)
by_parts (of_name n p) = refl
by_parts (of_dot n) = refl
by_parts (of_file n p) = refl
by_parts (of_qualifier None) = refl
by_parts (of_qualifier (Some q)) = refl
by_parts (of_import (import_module n p ns v q c)) = refl
by_parts (of_import (import_text n p q c)) = refl
by_parts (of_kind None) = refl
by_parts (of_kind (Some kind_var)) = refl
by_parts (of_kind (Some (kind_name n p ns))) = refl
by_parts (of_kind (Some (kind_list n p))) = refl
by_parts (of_par_name n) = refl
by_parts (of_par n q) = refl
by_parts (of_signal_par q n) = refl
by_parts (of_function (function p n r ps k ss)) = sym (append-nil (in_all ss)) ∙ sym (parameters ps (of_kind k ∷ of_body ss ∷ []))
by_parts (of_member x true) = refl
by_parts (of_member (id p n r c) false) = refl
by_parts (of_member (property p d q n r v) false) = refl
by_parts (of_member (bare p d q n r c) false) = refl
by_parts (of_member (alias p d n r t z ns c) false) = refl
by_parts (of_member (signal p n r None c) false) = refl
by_parts (of_member (signal p n r (Some ps) c) false) = refl
by_parts (of_member (method f) false) = refl
by_parts (of_member (given n p ns v) false) = refl
by_parts (of_member (group n p ns ms) false) = refl
by_parts (of_member (child o) false) = refl
by_parts (of_object o) = refl
by_parts (of_objects p os) = refl
by_parts (of_document d) = refl
by_parts (of_script (script b fs)) = refl
