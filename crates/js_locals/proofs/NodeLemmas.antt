-- What part a node is of.
use Rattle.std.proofs.Common.{◌≡◌, ◌∙◌, ap, sym, refl, ℕ, Bool as 𝔹, true, false, List, [], ◌∷◌, ◌++◌, reverse}
use Rattle.qml_syntax.specs.declared.node.Node.{Node}
use Rattle.qml_syntax.specs.declared.node.Node.TheVariants as node
use Rattle.qml_syntax.specs.Tree.{Expr, Step, Stmt, just}
use Rattle.qml_syntax.proofs.GatherLemmas.{level_is_made}
use Rattle.qml_syntax.specs.Nodes.{apply, Item, Parts, of_expr, of_key, of_step, of_stmt, of_var, of_maybe, of_target}
use Rattle.qml_syntax.specs.Opened.{node_of, parts_of}
use Rattle.qml_syntax.specs.declared.operators.Assignment.{Assignment}
use Rattle.js_locals.specs.Laid.{is_step_node, is_target, is_expr_node, is_stmt_node, is_key, is_var_node, is_present}

pub made_of : (n : Node) (i : Item) → n ≡ node_of i → apply n (reverse (parts_of i) ++ []) ≡ i ∷ []
made_of n i h = ap (λ z. apply z (reverse (parts_of i) ++ [])) h ∙ level_is_made i []

-- ---- expressions

abbrev starts_expr : Parts → 𝔹
starts_expr (of_expr e ∷ s) = true
starts_expr _ = false

expr_heads : (n : Node) (s : Parts) → is_expr_node n ≡ true → starts_expr (apply n s) ≡ true
expr_heads (node.Name m p) s h = refl
expr_heads (node.Number m p) s h = refl
expr_heads (node.Text m p) s h = refl
expr_heads (node.Literal l p) s h = refl
expr_heads (node.Paren p) s h = refl
expr_heads (node.List p b) s h = refl
expr_heads (node.Fields p b) s h = refl
expr_heads node.Steps s h = refl
expr_heads (node.Postfix i p) s h = refl
expr_heads (node.Signed f g p) s h = refl
expr_heads (node.Chain f o p) s h = refl
expr_heads node.Choose s h = refl
expr_heads node.Assign s h = refl
expr_heads _ s h = absurd (cc)

expr_alone : (i : Item) → starts_expr (i ∷ []) ≡ true → (e : Expr) × (i ≡ of_expr e)
expr_alone (of_expr e) h = (e, refl)
expr_alone _ h = absurd (cc)

pub expr_item : (n : Node) (i : Item) → n ≡ node_of i → is_expr_node n ≡ true → (e : Expr) × (i ≡ of_expr e)
expr_item n i h b = expr_alone i (ap (λ z. starts_expr z) (sym (made_of n i h)) ∙ expr_heads n (reverse (parts_of i) ++ []) b)

-- ---- steps

abbrev starts_step : Parts → 𝔹
starts_step (of_step e ∷ s) = true
starts_step _ = false

step_heads : (n : Node) (s : Parts) → is_step_node n ≡ true → starts_step (apply n s) ≡ true
step_heads (node.Member m p) s h = refl
step_heads (node.Element p) s h = refl
step_heads (node.Call p) s h = refl
step_heads (node.Binding p) s h = refl
step_heads _ s h = absurd (cc)

step_alone : (i : Item) → starts_step (i ∷ []) ≡ true → (e : Step) × (i ≡ of_step e)
step_alone (of_step e) h = (e, refl)
step_alone _ h = absurd (cc)

pub step_item : (n : Node) (i : Item) → n ≡ node_of i → is_step_node n ≡ true → (e : Step) × (i ≡ of_step e)
step_item n i h b = step_alone i (ap (λ z. starts_step z) (sym (made_of n i h)) ∙ step_heads n (reverse (parts_of i) ++ []) b)

-- ---- statements

abbrev starts_stmt : Parts → 𝔹
starts_stmt (of_stmt e ∷ s) = true
starts_stmt _ = false

stmt_heads : (n : Node) (s : Parts) → is_stmt_node n ≡ true → starts_stmt (apply n s) ≡ true
stmt_heads (node.Empty p) s h = refl
stmt_heads (node.Expression c) s h = refl
stmt_heads (node.Block p) s h = refl
stmt_heads (node.Declare p k c) s h = refl
stmt_heads (node.When p) s h = refl
stmt_heads (node.Either p) s h = refl
stmt_heads (node.While p) s h = refl
stmt_heads (node.For p) s h = refl
stmt_heads (node.Give p c) s h = refl
stmt_heads (node.GiveValue p c) s h = refl
stmt_heads (node.Stop p c) s h = refl
stmt_heads (node.Again p c) s h = refl
stmt_heads _ s h = absurd (cc)

stmt_alone : (i : Item) → starts_stmt (i ∷ []) ≡ true → (e : Stmt) × (i ≡ of_stmt e)
stmt_alone (of_stmt e) h = (e, refl)
stmt_alone _ h = absurd (cc)

pub stmt_item : (n : Node) (i : Item) → n ≡ node_of i → is_stmt_node n ≡ true → (e : Stmt) × (i ≡ of_stmt e)
stmt_item n i h b = stmt_alone i (ap (λ z. starts_stmt z) (sym (made_of n i h)) ∙ stmt_heads n (reverse (parts_of i) ++ []) b)

-- ---- names that are declared, and expressions that may be absent

abbrev starts_var : Parts → 𝔹
starts_var (of_var n p ∷ s) = true
starts_var _ = false

var_heads : (n : Node) (s : Parts) → is_var_node n ≡ true → starts_var (apply n s) ≡ true
var_heads (node.Var m p) s h = refl
var_heads _ s h = absurd (cc)

var_alone : (i : Item) → starts_var (i ∷ []) ≡ true → (m : List ℕ) × (p : _) × (i ≡ of_var m p)
var_alone (of_var m p) h = (m, p, refl)
var_alone _ h = absurd (cc)

pub var_item : (n : Node) (i : Item) → n ≡ node_of i → is_var_node n ≡ true → (m : List ℕ) × (p : _) × (i ≡ of_var m p)
var_item n i h b = var_alone i (ap (λ z. starts_var z) (sym (made_of n i h)) ∙ var_heads n (reverse (parts_of i) ++ []) b)

abbrev starts_just : Parts → 𝔹
starts_just (of_maybe (just e) ∷ s) = true
starts_just _ = false

just_heads : (n : Node) (s : Parts) → is_present n ≡ true → starts_just (apply n s) ≡ true
just_heads node.Present s h = refl
just_heads _ s h = absurd (cc)

just_alone : (i : Item) → starts_just (i ∷ []) ≡ true → (e : Expr) × (i ≡ of_maybe (just e))
just_alone (of_maybe (just e)) h = (e, refl)
just_alone _ h = absurd (cc)

pub just_item : (n : Node) (i : Item) → n ≡ node_of i → is_present n ≡ true → (e : Expr) × (i ≡ of_maybe (just e))
just_item n i h b = just_alone i (ap (λ z. starts_just z) (sym (made_of n i h)) ∙ just_heads n (reverse (parts_of i) ++ []) b)

-- ---- targets

abbrev starts_target : Parts → 𝔹
starts_target (of_target f t g p ∷ s) = true
starts_target _ = false

target_heads : (n : Node) (s : Parts) → is_target n ≡ true → starts_target (apply n s) ≡ true
target_heads (node.Target f g p) s h = refl
target_heads _ s h = absurd (cc)

target_alone : (i : Item) → starts_target (i ∷ []) ≡ true → (f : 𝔹) × (t : Expr) × (g : Assignment) × (p : _) × (i ≡ of_target f t g p)
target_alone (of_target f t g p) h = (f, t, g, p, refl)
target_alone _ h = absurd (cc)

pub target_item : (n : Node) (i : Item) → n ≡ node_of i → is_target n ≡ true → (f : 𝔹) × (t : Expr) × (g : Assignment) × (p : _) × (i ≡ of_target f t g p)
target_item n i h b = target_alone i (ap (λ z. starts_target z) (sym (made_of n i h)) ∙ target_heads n (reverse (parts_of i) ++ []) b)

-- ---- keys of fields

abbrev starts_key : Parts → 𝔹
starts_key (of_key q n p ∷ s) = true
starts_key _ = false

key_heads : (n : Node) (s : Parts) → is_key n ≡ true → starts_key (apply n s) ≡ true
key_heads (node.Key q m p) s h = refl
key_heads _ s h = absurd (cc)

key_alone : (i : Item) → starts_key (i ∷ []) ≡ true → (q : 𝔹) × (m : List ℕ) × (p : _) × (i ≡ of_key q m p)
key_alone (of_key q m p) h = (q, m, p, refl)
key_alone _ h = absurd (cc)

pub key_item : (n : Node) (i : Item) → n ≡ node_of i → is_key n ≡ true → (q : 𝔹) × (m : List ℕ) × (p : _) × (i ≡ of_key q m p)
key_item n i h b = key_alone i (ap (λ z. starts_key z) (sym (made_of n i h)) ∙ key_heads n (reverse (parts_of i) ++ []) b)
