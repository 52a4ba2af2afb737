-- What stands at places.
use Rattle.std.proofs.Common.{◌≡◌, ◌∙◌, ap, sym, subst, refl, ℕ, ◌<◌, ◌≤◌, ◌+◌, ltb, eqb, Bool as 𝔹, true, false, cond, if◌then◌else◌, List, [], ◌∷◌, ◌++◌, reverse, length, map, Option, Some, None, inl, inr, arith}
use Rattle.std.proofs.lemmas.Bool.Decides.{nat_tests}
use Rattle.qml_syntax.specs.declared.node.Node.{Node}
use Rattle.qml_syntax.specs.declared.node.Node.TheVariants as node
use Rattle.qml_syntax.specs.Tree.{Units, Stmt, empty, expr, block, declare, when, either, while, for, give, stop, again, Stmts, no_stmts, Pars, no_pars, a_par, Kind, Function, function, binding, nothing, just, Whole, whole_body}
use Rattle.qml_syntax.specs.Nodes.{apply, Item, mark, of_stmt, of_step, of_body, of_function, of_par, of_par_name, of_name, of_kind, Parts, Table}
use Rattle.qml_syntax.specs.Opened.{node_of, item_at, parts_of, pars_parts, stmts_parts}
use Rattle.qml_syntax.specs.Places.{part_at}
use Rattle.js_locals.specs.Laid.{Laid, name_of, name_at, is_stmt_node, stmts_in}
use Rattle.js_locals.proofs.NodeLemmas.{made_of, stmt_item}
use Rattle.js_locals.proofs.RowLemmas.{first_is, rest_is, stmts_are}
use Rattle.js_locals.specs.Texts.{StandsAs}
use Rattle.unit_rows.specs.Texts.{function_of, parameters_of}
use Rattle.unit_rows.specs.Rows.{of_function as of_a_function}
use Rattle.unit_rows.specs.Placed.{HoldsStatement, AreStatementsAt, AreOfFunction, IsFunctionAt, ArePlaces, IsPlaced, AreNamesBehind, TakesName, names_before, behind_names, is_parameter_node, is_function_node, holds_statements}
use Rattle.unit_rows.specs.declared.parts.Places.{Places}

-- ---- nodes

pub node_there : (t : Table) (k : ℕ) (n : Node) → k < length t → n ≡ node_of (item_at t k) → n ≡ node_of (part_at t k)
node_there t k n h e = let b : ltb k (length t) ≡ true = grind (arith, nat_tests) in rw b e

pub nothing_there : (t : Table) (k : ℕ) → length t ≤ k → part_at t k ≡ mark
nothing_there t k h = let b : ltb k (length t) ≡ false = grind (arith, nat_tests) in rw b refl

-- ---- statements

stmt_tests : (d : Stmt) → is_stmt_node (node_of (of_stmt d)) ≡ true
stmt_tests (empty p) = refl
stmt_tests (expr e c) = refl
stmt_tests (block p ss) = refl
stmt_tests (declare p q vs c) = refl
stmt_tests (when p e d) = refl
stmt_tests (either p e d r) = refl
stmt_tests (while p e d) = refl
stmt_tests (for p i e f d) = refl
stmt_tests (give p nothing c) = refl
stmt_tests (give p (just e) c) = refl
stmt_tests (stop p c) = refl
stmt_tests (again p c) = refl

holds_if : (b : 𝔹) (n : Node) (i : Item) → n ≡ node_of i → b ≡ is_stmt_node n → HoldsStatement i b
holds_if true n i e h = stmt_item n i e (sym h)
holds_if false n i e h = λ d is.
    let a : is_stmt_node n ≡ true = ap (λ z. is_stmt_node z) (e ∙ ap (λ j. node_of j) is) ∙ stmt_tests d in
    let c : false ≡ true = h ∙ a in absurd (cc)

pub statement_tested : (b : 𝔹) (n : Node) (i : Item) → n ≡ node_of i → b ≡ is_stmt_node n → HoldsStatement i b
statement_tested b n i e h = holds_if b n i e h

pub no_statement : (i : Item) → i ≡ mark → HoldsStatement i false
no_statement i e = λ d is. absurd (let c : mark ≡ of_stmt d = sym e ∙ is in cc)

-- ---- statements in a row

abbrev begins_statements : Parts → 𝔹
begins_statements (of_body ss ∷ s) = true
begins_statements (of_step (binding p ss) ∷ s) = true
begins_statements _ = false

statements_head : (n : Node) (s : Parts) → holds_statements n ≡ true → begins_statements (apply n s) ≡ true
statements_head node.Body s h = refl
statements_head (node.Binding p) s h = refl
statements_head _ s h = absurd (cc)

statements_alone : (i : Item) → begins_statements (i ∷ []) ≡ true → (ss : Stmts) × StandsAs (whole_body ss) i
statements_alone (of_body ss) h = (ss, inl refl)
statements_alone (of_step (binding p ss)) h = (ss, inr (p, refl))
statements_alone _ h = absurd (cc)

statements_item : (n : Node) (i : Item) → n ≡ node_of i → holds_statements n ≡ true → (ss : Stmts) × StandsAs (whole_body ss) i
statements_item n i h b = statements_alone i (ap (λ z. begins_statements z) (sym (made_of n i h)) ∙ statements_head n (reverse (parts_of i) ++ []) b)

statements_tests : (ss : Stmts) (i : Item) → StandsAs (whole_body ss) i → holds_statements (node_of i) ≡ true
statements_tests ss i (inl e) = ap (λ j. holds_statements (node_of j)) e
statements_tests ss i (inr (p, e)) = ap (λ j. holds_statements (node_of j)) e

statements_parts : (ss : Stmts) (i : Item) → StandsAs (whole_body ss) i → parts_of i ≡ mark ∷ stmts_parts ss
statements_parts ss i (inl e) = ap parts_of e
statements_parts ss i (inr (p, e)) = ap parts_of e

row_is : (c : Laid) (i : Item) (m : ℕ) (ss : Stmts) → StandsAs (whole_body ss) i → parts_of i ≡ c.item m ∷ c.rest m → stmts_in (c.rest m) ≡ ss
row_is c i m ss h e =
    let parts : mark ∷ stmts_parts ss ≡ c.item m ∷ c.rest m = sym (statements_parts ss i h) ∙ e in
    ap (λ z. stmts_in z) (rest_is mark (c.item m) (stmts_parts ss) (c.rest m) parts) ∙ stmts_are ss

pub statements_stand : (c : Laid) (at m : ℕ) (n : Node) → n ≡ node_of (c.item at) → holds_statements n ≡ true → parts_of (c.item at) ≡ c.item m ∷ c.rest m → AreStatementsAt c at (Some m)
statements_stand c at m n e h f =
    let found : (ss : Stmts) × StandsAs (whole_body ss) (c.item at) = statements_item n (c.item at) e h in
    subst (λ (z : Stmts). StandsAs (whole_body z) (c.item at)) (sym (row_is c (c.item at) m found.0 found.1 f)) found.1

pub no_statements : (c : Laid) (at : ℕ) (n : Node) → n ≡ node_of (c.item at) → holds_statements n ≡ false → AreStatementsAt c at None
no_statements c at n e h = λ ss s.
    let a : false ≡ true = sym h ∙ ap (λ z. holds_statements z) e ∙ statements_tests ss (c.item at) s in absurd (cc)

pub no_statements_there : (c : Laid) (at : ℕ) → c.item at ≡ mark → AreStatementsAt c at None
no_statements_there c at e = λ ss s.
    let a : false ≡ true = sym (ap (λ j. holds_statements (node_of j)) e) ∙ statements_tests ss (c.item at) s in absurd (cc)

-- ---- parameters

abbrev begins_parameter : Parts → 𝔹
begins_parameter (of_par n q ∷ s) = true
begins_parameter _ = false

parameter_head : (n : Node) (s : Parts) → is_parameter_node n ≡ true → begins_parameter (apply n s) ≡ true
parameter_head node.Parameter s h = refl
parameter_head _ s h = absurd (cc)

parameter_alone : (i : Item) → begins_parameter (i ∷ []) ≡ true → (m : Units) × (q : Option Kind) × (i ≡ of_par m q)
parameter_alone (of_par m q) h = (m, q, refl)
parameter_alone _ h = absurd (cc)

parameter_item : (n : Node) (i : Item) → n ≡ node_of i → is_parameter_node n ≡ true → (m : Units) × (q : Option Kind) × (i ≡ of_par m q)
parameter_item n i h b = parameter_alone i (ap (λ z. begins_parameter z) (sym (made_of n i h)) ∙ parameter_head n (reverse (parts_of i) ++ []) b)

takes_par : (c : Laid) (at p : ℕ) (m : Units) (q : Option Kind) → c.item at ≡ of_par m q → parts_of (c.item at) ≡ c.item p ∷ c.rest p → TakesName c at (Some p)
takes_par c at p m q e f =
    let parts : of_par_name m ∷ of_kind q ∷ [] ≡ c.item p ∷ c.rest p = sym (ap parts_of e) ∙ f in
    let named : name_of c p ≡ m = ap (λ j. name_at (node_of j)) (first_is (of_par_name m) (c.item p) (of_kind q ∷ []) (c.rest p) parts) in (
      ap (λ j. names_before (j ∷ c.rest at)) e ∙ ap (λ z. z ∷ names_before (c.rest at)) (sym named),
      ap (λ j. behind_names (j ∷ c.rest at)) e,
    )

pub takes_name : (c : Laid) (at p : ℕ) (n : Node) → n ≡ node_of (c.item at) → is_parameter_node n ≡ true → parts_of (c.item at) ≡ c.item p ∷ c.rest p → TakesName c at (Some p)
takes_name c at p n e h f =
    let found : (m : Units) × (q : Option Kind) × (c.item at ≡ of_par m q) = parameter_item n (c.item at) e h in
    takes_par c at p found.0 found.1 found.2 f

none_before : (i : Item) (is : List Item) → is_parameter_node (node_of i) ≡ false → (names_before (i ∷ is) ≡ []) × (behind_names (i ∷ is) ≡ i ∷ is)
none_before (of_par n q) is h = absurd (cc)
none_before mark is h = (refl, refl)
none_before _ is h = (refl, refl)

pub takes_none : (c : Laid) (at : ℕ) (n : Node) → n ≡ node_of (c.item at) → is_parameter_node n ≡ false → TakesName c at None
takes_none c at n e h = none_before (c.item at) (c.rest at) (ap (λ z. is_parameter_node z) (sym e) ∙ h)

-- ---- functions

names_of_pars : (ps : Pars) (q : Option Kind) (is : List Item) → names_before (pars_parts ps (of_kind q ∷ is)) ≡ parameters_of ps
names_of_pars no_pars q is = refl
names_of_pars (a_par n k ps) q is = ap (λ z. n ∷ z) (names_of_pars ps q is)

behind_pars : (ps : Pars) (q : Option Kind) (is : List Item) → behind_names (pars_parts ps (of_kind q ∷ is)) ≡ of_kind q ∷ is
behind_pars no_pars q is = refl
behind_pars (a_par n k ps) q is = behind_pars ps q is

placed_by : (c : Laid) (at a m k x s : ℕ) (names : List ℕ) (p : Places) (f : Function) → c.item at ≡ of_function f
    → parts_of (c.item at) ≡ c.item a ∷ c.rest a → c.rest a ≡ c.item m ∷ c.rest m → map (name_of c) names ≡ names_before (c.rest m) → c.item k ∷ c.rest k ≡ behind_names (c.rest m)
    → c.rest k ≡ c.item x ∷ c.rest x → parts_of (c.item x) ≡ c.item s ∷ c.rest s
    → IsPlaced c (of_a_function f) x names (Some s)
placed_by c at a m k x s names p (function w n r ps q ss) e f1 f2 f3 f4 f5 f6 =
    let row : c.rest a ≡ mark ∷ pars_parts ps (of_kind q ∷ of_body ss ∷ []) = rest_is (of_name n r) (c.item a) (mark ∷ pars_parts ps (of_kind q ∷ of_body ss ∷ [])) (c.rest a) (sym (ap parts_of e) ∙ f1) in
    let behind : c.rest m ≡ pars_parts ps (of_kind q ∷ of_body ss ∷ []) = rest_is mark (c.item m) (pars_parts ps (of_kind q ∷ of_body ss ∷ [])) (c.rest m) (sym row ∙ f2) in
    let last : of_kind q ∷ of_body ss ∷ [] ≡ c.item k ∷ c.rest k = sym (f4 ∙ ap (λ z. behind_names z) behind ∙ behind_pars ps q (of_body ss ∷ [])) in
    let body : of_body ss ∷ [] ≡ c.item x ∷ c.rest x = sym (rest_is (of_kind q) (c.item k) (of_body ss ∷ []) (c.rest k) last) ∙ f5 in
    let text : c.item x ≡ of_body ss = first_is (of_body ss) (c.item x) [] (c.rest x) body in
    record {
      begins = inl text;
      names = f3 ∙ ap (λ z. names_before z) behind ∙ names_of_pars ps q (of_body ss ∷ []);
      behind = row_is c (c.item x) s ss (inl text) f6;
    }

pub function_placed : (c : Laid) (at a m k x s : ℕ) (names : List ℕ) (p : Places)
    → parts_of (c.item at) ≡ c.item a ∷ c.rest a → c.rest a ≡ c.item m ∷ c.rest m → AreNamesBehind c m names (Some k)
    → c.rest k ≡ c.item x ∷ c.rest x → parts_of (c.item x) ≡ c.item s ∷ c.rest s
    → p.text ≡ x → p.parameters.items ≡ names → p.statements ≡ Some s → AreOfFunction c at p
function_placed c at a m k x s names p f1 f2 f3 f5 f6 e1 e2 e3 = record {
  are = λ f e.
      subst (λ (z : ℕ). IsPlaced c (of_a_function f) z p.parameters.items p.statements) (sym e1)
      (subst (λ (z : List ℕ). IsPlaced c (of_a_function f) x z p.statements) (sym e2)
      (subst (λ (z : Option ℕ). IsPlaced c (of_a_function f) x names z) (sym e3)
      (placed_by c at a m k x s names p f e f1 f2 f3.0 f3.1 f5 f6)));
}

abbrev begins_function : Parts → 𝔹
begins_function (of_function f ∷ s) = true
begins_function _ = false

function_head : (n : Node) (s : Parts) → is_function_node n ≡ true → begins_function (apply n s) ≡ true
function_head (node.Function p) s h = refl
function_head _ s h = absurd (cc)

function_alone : (i : Item) → begins_function (i ∷ []) ≡ true → (f : Function) × (i ≡ of_function f)
function_alone (of_function f) h = (f, refl)
function_alone _ h = absurd (cc)

function_item : (n : Node) (i : Item) → n ≡ node_of i → is_function_node n ≡ true → (f : Function) × (i ≡ of_function f)
function_item n i h b = function_alone i (ap (λ z. begins_function z) (sym (made_of n i h)) ∙ function_head n (reverse (parts_of i) ++ []) b)

function_tests : (f : Function) → is_function_node (node_of (of_function f)) ≡ true
function_tests (function p n r ps q ss) = refl

pub function_found : (c : Laid) (at : ℕ) (n : Node) (p : Places) → n ≡ node_of (c.item at) → is_function_node n ≡ true → AreOfFunction c at p → IsFunctionAt c at (Some p)
function_found c at n p e h a = (function_item n (c.item at) e h, a)

pub no_function : (c : Laid) (at : ℕ) (n : Node) → n ≡ node_of (c.item at) → is_function_node n ≡ false → IsFunctionAt c at None
no_function c at n e h = λ f is.
    let a : false ≡ true = sym h ∙ ap (λ z. is_function_node z) (e ∙ ap (λ j. node_of j) is) ∙ function_tests f in absurd (cc)

pub no_function_there : (c : Laid) (at : ℕ) → c.item at ≡ mark → IsFunctionAt c at None
no_function_there c at e = λ f is. absurd (let a : mark ≡ of_function f = sym e ∙ is in cc)
