-- Names that are gathered are those that statements declare.
use Rattle.std.proofs.Common.{◌≡◌, ◌∙◌, ap, sym, refl, ℕ, Bool, true, false, if◌then◌else◌, List, [], ◌∷◌, ◌++◌, map, Option, Some, None}
use Rattle.std.proofs.lemmas.List.{append-nil}
use Rattle.qml_base.specs.declared.numbers.Place.{Place}
use Rattle.qml_syntax.specs.declared.literal.Declaration.TheVariants as keep
use Rattle.qml_syntax.specs.Tree.{Expr, name, number, text, literal, paren, list, fields, steps, bumped, signed, chain, choose, assign, Signs, no_signs, a_sign, Links, no_links, a_link, member, element, call, binding, import_module, import_text, kind_var, kind_name, kind_list, function, id, property, bare, alias, signal, method, given, group, child, script, Units, Stmt, empty, expr, block, declare, when, either, while, for, give, stop, again, Stmts, no_stmts, a_stmt, Vars, last_var, a_var, nothing, just, First, no_first, first_expr, first_declare}
use Rattle.qml_syntax.specs.Nodes.{Item, mark, of_expr, of_step, of_stmt, of_key, of_sign, of_link, of_choice, of_target, of_var, of_first, of_maybe, of_body, of_name, of_dot, of_file, of_qualifier, of_import, of_kind, of_par_name, of_par, of_signal_par, of_function, of_member, of_object, of_objects, of_document, of_script, Table, top_first}
use Rattle.qml_syntax.specs.Listed.{last_sign}
use Rattle.qml_syntax.specs.declared.operators.Operator.{Operator}
use Rattle.qml_syntax.specs.declared.operators.Prefix.{Prefix}
use Rattle.qml_syntax.specs.Opened.{expr_node, last_link, node_of, parts_of, vars_parts}
use Rattle.qml_syntax.specs.Places.{part_at, behind}
use Rattle.js_meaning.specs.Locals as m
use Rattle.js_locals.specs.Laid.{Laid, laid, name_of, stmts_in}
use Rattle.js_locals.specs.Scopes.{fresh_slots}
use Rattle.js_locals.specs.Gathering.{names_in, row_from}
use Rattle.code_deeds.specs.Deeds as d
use Rattle.code_deeds.specs.Forms.{node_at}
use Rattle.code_deeds.specs.Scopes as s

abbrev name_in : m.Slot → Units
name_in x = x.0

abbrev names_of : m.Scope → List Units
names_of xs = map name_in xs

-- ---- what is gathered

fresh_names : (c : Laid) (b : Bool) (ps : List ℕ) → names_of (fresh_slots c b ps []) ≡ map (name_of c) ps
fresh_names c b [] = refl
fresh_names c true (p ∷ ps) = ap (λ ns. name_of c p ∷ ns) (fresh_names c true ps)
fresh_names c false (p ∷ ps) = ap (λ ns. name_of c p ∷ ns) (fresh_names c false ps)

assoc : {A : Type 0} (a b c : List A) → (a ++ b) ++ c ≡ a ++ (b ++ c)
assoc [] b c = refl
assoc (x ∷ a) b c = ap (λ xs. x ∷ xs) (assoc a b c)

-- ---- what is declared

slot_names : (vs : Vars) (rest : m.Scope) → names_of (m.slots_of vs rest) ≡ d.var_names vs ++ names_of rest
slot_names (last_var n p i) rest = refl
slot_names (a_var n p i vs) rest = ap (λ ns. n ∷ ns) (slot_names vs rest)

undefined_names : (vs : Vars) (rest : m.Scope) → names_of (m.undefined_of vs rest) ≡ d.var_names vs ++ names_of rest
undefined_names (last_var n p i) rest = refl
undefined_names (a_var n p i vs) rest = ap (λ ns. n ∷ ns) (undefined_names vs rest)

let_names : (x : Stmt) (rest : m.Scope) → names_of (m.lets_in x rest) ≡ d.lets_of x ++ names_of rest
let_names (declare p keep.Var vs c) rest = refl
let_names (declare p keep.Let vs c) rest = slot_names vs rest
let_names (declare p keep.Const vs c) rest = slot_names vs rest
let_names (when p e x) rest = let_names x rest
let_names (either p e x r) rest = let_names x (m.lets_in r rest) ∙ ap (λ ns. d.lets_of x ++ ns) (let_names r rest) ∙ sym (assoc (d.lets_of x) (d.lets_of r) (names_of rest))
let_names (while p e x) rest = let_names x rest
let_names (for p i e f x) rest = let_names x rest
let_names (empty p) rest = refl
let_names (expr e c) rest = refl
let_names (block p ss) rest = refl
let_names (give p e c) rest = refl
let_names (stop p c) rest = refl
let_names (again p c) rest = refl

all_lets : (ss : Stmts) → names_of (m.lets_of ss) ≡ d.lets_in ss
all_lets no_stmts = refl
all_lets (a_stmt x ss) = let_names x (m.lets_of ss) ∙ ap (λ ns. d.lets_of x ++ ns) (all_lets ss)

first_vars : (i : First) (rest : m.Scope) → names_of (m.vars_of_first i rest) ≡ d.first_names i ++ names_of rest
first_vars no_first rest = refl
first_vars (first_expr e) rest = refl
first_vars (first_declare p keep.Var vs) rest = undefined_names vs rest
first_vars (first_declare p keep.Let vs) rest = refl
first_vars (first_declare p keep.Const vs) rest = refl

mutual
  var_names : (x : Stmt) (rest : m.Scope) → names_of (m.vars_of x rest) ≡ d.vars_of x ++ names_of rest
  var_names (declare p keep.Var vs c) rest = undefined_names vs rest
  var_names (declare p keep.Let vs c) rest = refl
  var_names (declare p keep.Const vs c) rest = refl
  var_names (block p ss) rest = some_vars ss rest
  var_names (when p e x) rest = var_names x rest
  var_names (either p e x r) rest = var_names x (m.vars_of r rest) ∙ ap (λ ns. d.vars_of x ++ ns) (var_names r rest) ∙ sym (assoc (d.vars_of x) (d.vars_of r) (names_of rest))
  var_names (while p e x) rest = var_names x rest
  var_names (for p i e f x) rest = first_vars i (m.vars_of x rest) ∙ ap (λ ns. d.first_names i ++ ns) (var_names x rest) ∙ sym (assoc (d.first_names i) (d.vars_of x) (names_of rest))
  var_names (empty p) rest = refl
  var_names (expr e c) rest = refl
  var_names (give p e c) rest = refl
  var_names (stop p c) rest = refl
  var_names (again p c) rest = refl

  some_vars : (ss : Stmts) (rest : m.Scope) → names_of (m.vars_of_all ss rest) ≡ d.vars_in ss ++ names_of rest
  some_vars no_stmts rest = refl
  some_vars (a_stmt x ss) rest = var_names x (m.vars_of_all ss rest) ∙ ap (λ ns. d.vars_of x ++ ns) (some_vars ss rest) ∙ sym (assoc (d.vars_of x) (d.vars_in ss) (names_of rest))

-- ---- the code

abbrev behind_first : List Item → List Item
behind_first [] = []
behind_first (i ∷ is) = is

row_is : (t : Table) (at q : ℕ) (first : Option ℕ) → parts_of (part_at t at) ≡ part_at t q ∷ map (part_at t) (behind t q) → row_from (laid t) first ≡ map (part_at t) (behind t q)
    → stmts_in (row_from (laid t) first) ≡ s.stmts_at t at
row_is t at q first e f = ap stmts_in (f ∙ ap behind_first (sym e))

pub lets_told : (t : Table) (at q : ℕ) (first : Option ℕ) (names : List ℕ) → parts_of (part_at t at) ≡ part_at t q ∷ map (part_at t) (behind t q) → row_from (laid t) first ≡ map (part_at t) (behind t q)
    → fresh_slots (laid t) false names [] ≡ m.lets_of (stmts_in (row_from (laid t) first)) → s.AreLets t at names
lets_told t at q first names e f g =
    sym (fresh_names (laid t) false names) ∙ ap names_of g ∙ all_lets (stmts_in (row_from (laid t) first)) ∙ ap d.lets_in (row_is t at q first e f)

pub vars_told : (t : Table) (at q : ℕ) (first : Option ℕ) (names : List ℕ) → parts_of (part_at t at) ≡ part_at t q ∷ map (part_at t) (behind t q) → row_from (laid t) first ≡ map (part_at t) (behind t q)
    → fresh_slots (laid t) true names [] ≡ m.vars_of_all (stmts_in (row_from (laid t) first)) [] → s.AreVars t at names
vars_told t at q first names e f g =
    sym (fresh_names (laid t) true names) ∙ ap names_of g ∙ some_vars (stmts_in (row_from (laid t) first)) [] ∙ append-nil (d.vars_in (stmts_in (row_from (laid t) first))) ∙
    ap d.vars_in (row_is t at q first e f)

-- ---- the beginning of a `for`

names_in_vars : (vs : Vars) → names_of (names_in false (vars_parts vs) []) ≡ d.var_names vs
names_in_vars (last_var n p nothing) = refl
names_in_vars (last_var n p (just e)) = refl
names_in_vars (a_var n p nothing vs) = ap (λ ns. n ∷ ns) (names_in_vars vs)
names_in_vars (a_var n p (just e) vs) = ap (λ ns. n ∷ ns) (names_in_vars vs)

-- what is told of the beginning by its node and its parts
abbrev by_declaration : Bool → List Units → List Units
by_declaration lets ns = if lets then ns else []

later_sign : (f : Bool) (g : Prefix) (p : Place) (ss : Signs) → s.declares_lets (last_sign f g p ss) ≡ false
later_sign f g p no_signs = refl
later_sign f g p (a_sign h q ss) = later_sign false h q ss

any_link : (f : Bool) (op : Operator) (p : Place) (ls : Links) → s.declares_lets (last_link f op p ls) ≡ false
any_link f op p no_links = refl
any_link f op p (a_link o q x ls) = any_link false o q ls

no_expression : (e : Expr) → s.declares_lets (expr_node e) ≡ false
no_expression (name n p) = refl
no_expression (number n p) = refl
no_expression (text n p) = refl
no_expression (literal x p) = refl
no_expression (paren p e) = refl
no_expression (list p es c) = refl
no_expression (fields p fs c) = refl
no_expression (steps e i is) = refl
no_expression (bumped e i p) = refl
no_expression (signed g p ss e) = later_sign true g p ss
no_expression (chain e op p x ls) = any_link true op p ls
no_expression (choose c e cs x) = refl
no_expression (assign t g p ts v) = refl

first_told : (i : Item) → by_declaration (s.declares_lets (node_of i)) (names_of (names_in false (behind_first (parts_of i)) [])) ≡ d.lets_of_first (top_first (i ∷ []))
first_told (of_first no_first) = refl
first_told (of_first (first_expr e)) = refl
first_told (of_first (first_declare p keep.Var vs)) = refl
first_told (of_first (first_declare p keep.Let vs)) = names_in_vars vs
first_told (of_first (first_declare p keep.Const vs)) = names_in_vars vs
first_told (of_expr e) = ap (λ b. by_declaration b (names_of (names_in false (behind_first (parts_of (of_expr e))) []))) (no_expression e)
first_told (mark) = refl
first_told (of_step (member n p)) = refl
first_told (of_step (element p e)) = refl
first_told (of_step (call p es)) = refl
first_told (of_step (binding p ss)) = refl
first_told (of_stmt (empty p)) = refl
first_told (of_stmt (expr e c)) = refl
first_told (of_stmt (block p ss)) = refl
first_told (of_stmt (declare p q vs c)) = refl
first_told (of_stmt (when p e x)) = refl
first_told (of_stmt (either p e x r)) = refl
first_told (of_stmt (while p e x)) = refl
first_told (of_stmt (for p i e f x)) = refl
first_told (of_stmt (give p nothing c)) = refl
first_told (of_stmt (give p (just e) c)) = refl
first_told (of_stmt (stop p c)) = refl
first_told (of_stmt (again p c)) = refl
first_told (of_key q n p) = refl
first_told (of_sign f g p) = refl
first_told (of_link f op p x) = refl
first_told (of_choice f c e) = refl
first_told (of_target f t g p) = refl
first_told (of_var n p) = refl
first_told (of_maybe nothing) = refl
first_told (of_maybe (just e)) = refl
first_told (of_body ss) = refl
first_told (of_name n p) = refl
first_told (of_dot n) = refl
first_told (of_file n p) = refl
first_told (of_qualifier None) = refl
first_told (of_qualifier (Some q)) = refl
first_told (of_import (import_module n p ns v q c)) = refl
first_told (of_import (import_text n p q c)) = refl
first_told (of_kind None) = refl
first_told (of_kind (Some kind_var)) = refl
first_told (of_kind (Some (kind_name n p ns))) = refl
first_told (of_kind (Some (kind_list n p))) = refl
first_told (of_par_name n) = refl
first_told (of_par n q) = refl
first_told (of_signal_par q n) = refl
first_told (of_function (function p n r ps q ss)) = refl
first_told (of_member x true) = refl
first_told (of_member (id p n r c) false) = refl
first_told (of_member (property p k q n r v) false) = refl
first_told (of_member (bare p k q n r c) false) = refl
first_told (of_member (alias p k n r t z ns c) false) = refl
first_told (of_member (signal p n r None c) false) = refl
first_told (of_member (signal p n r (Some ps) c) false) = refl
first_told (of_member (method f) false) = refl
first_told (of_member (given n p ns v) false) = refl
first_told (of_member (group n p ns ms) false) = refl
first_told (of_member (child o) false) = refl
first_told (of_object o) = refl
first_told (of_objects p os) = refl
first_told (of_document x) = refl
first_told (of_script (script b fs)) = refl

pub firsts_told : (t : Table) (at q : ℕ) (names : List ℕ) → s.declares_lets (node_at t at) ≡ true → parts_of (part_at t at) ≡ part_at t q ∷ map (part_at t) (behind t q)
    → fresh_slots (laid t) false names [] ≡ names_in false (map (part_at t) (behind t q)) [] → s.AreFirstLets t at names
firsts_told t at q names b e g =
    sym (fresh_names (laid t) false names) ∙ ap names_of g ∙ ap (λ is. names_of (names_in false is [])) (ap behind_first (sym e)) ∙
    ap (λ b. by_declaration b (names_of (names_in false (behind_first (parts_of (part_at t at))) []))) (sym b) ∙ first_told (part_at t at)

pub no_firsts : (t : Table) (at : ℕ) (names : List ℕ) → s.declares_lets (node_at t at) ≡ false → names ≡ [] → s.AreFirstLets t at names
no_firsts t at names b e =
    ap (λ ns. s.names_at t ns) e ∙ ap (λ b. by_declaration b (names_of (names_in false (behind_first (parts_of (part_at t at))) []))) (sym b) ∙ first_told (part_at t at)

-- ---- one statement

pub single_lets : (t : Table) (at : ℕ) (names : List ℕ) → fresh_slots (laid t) false names [] ≡ m.lets_of (stmts_in (row_from (laid t) (Some at))) → s.AreLetsFrom t at names
single_lets t at names g = sym (fresh_names (laid t) false names) ∙ ap names_of g ∙ all_lets (s.stmts_from t at)

pub single_vars : (t : Table) (at : ℕ) (names : List ℕ) → fresh_slots (laid t) true names [] ≡ m.vars_of_all (stmts_in (row_from (laid t) (Some at))) [] → s.AreVarsFrom t at names
single_vars t at names g = sym (fresh_names (laid t) true names) ∙ ap names_of g ∙ some_vars (s.stmts_from t at) [] ∙ append-nil (d.vars_in (s.stmts_from t at))
