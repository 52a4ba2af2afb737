-- What nodes tell of a literal is what the value is.
use Rattle.std.proofs.Common.{◌≡◌, ◌∙◌, ap, sym, refl, ℕ, Bool, true, false, List, [], ◌∷◌, map, Option, Some, None}
use Rattle.std.specs.Option.{option_map}
use Rattle.std.proofs.lemmas.Bool.{false≢true}
use Rattle.qml_base.specs.declared.numbers.Place.{Place}
use Rattle.qml_syntax.specs.declared.literal.Literal.TheVariants as word
use Rattle.qml_syntax.specs.declared.operators.Operator.{Operator}
use Rattle.qml_syntax.specs.declared.operators.Prefix.{Prefix}
use Rattle.qml_syntax.specs.declared.operators.Prefix.TheVariants as prefix
use Rattle.qml_syntax.specs.Tree.{Expr, name, number, text, literal, paren, list, fields, steps, bumped, signed, chain, choose, assign, Signs, no_signs, a_sign, Links, no_links, a_link, Close, empty, expr, block, declare, when, either, while, for, give, stop, again, nothing, just, no_first, first_expr, first_declare, import_module, import_text, kind_var, kind_name, kind_list, function, object, member, element, call, binding, id, property, bare, alias, signal, method, given, group, child, script}
use Rattle.qml_syntax.specs.Nodes.{Item, mark, of_expr, of_step, of_stmt, of_key, of_sign, of_link, of_choice, of_target, of_var, of_first, of_maybe, of_body, of_name, of_dot, of_file, of_qualifier, of_import, of_kind, of_par_name, of_par, of_signal_par, of_function, of_member, of_object, of_objects, of_document, of_script, Table}
use Rattle.qml_syntax.specs.Listed.{last_sign}
use Rattle.qml_syntax.specs.Opened.{expr_node, last_link, node_of, parts_of, IsListing}
use Rattle.qml_syntax.specs.Places.{part_at, places_of}
use Rattle.qml_syntax.proofs.PlacesLemmas.{parts_at_places}
use Rattle.qml_value.specs.declared.value.Kind.{Kind}
use Rattle.qml_value.specs.declared.value.Kind.TheVariants as kind
use Rattle.qml_value.specs.Kinds.{kind_of}
use Rattle.program_names.specs.Literals.{literal_of}
use Rattle.type_uses.specs.Uses.{node_at}
use Rattle.value_reading.specs.declared.literals.Form.{Form}
use Rattle.value_reading.specs.declared.literals.Form.TheVariants as form
use Rattle.value_reading.specs.LiteralKinds.{literal_kind, form_of, first_form, form_of_first, number_kind, kind_by_forms, expression_kind, kind_of_first, first_kind}

-- ---- expressions

later_sign : (g : Prefix) (p : Place) (ss : Signs) → form_of (last_sign false g p ss) ≡ form.Other
later_sign g p no_signs = refl
later_sign g p (a_sign h q ss) = later_sign h q ss

any_link : (f : Bool) (op : Operator) (p : Place) (ls : Links) → form_of (last_link f op p ls) ≡ form.Other
any_link f op p no_links = refl
any_link f op p (a_link o q d ls) = any_link false o q ls

abbrev first_of : List Item → Form
first_of [] = form.Other
first_of (i ∷ is) = form_of (node_of i)

-- an expression by its node and its first part
abbrev kind_of_part : Item → Option Kind
kind_of_part i = kind_by_forms (form_of (node_of i)) (first_of (parts_of i))

-- the kind of an expression's literal
abbrev kind_in : Expr → Close → Option Kind
kind_in e c = option_map kind_of (literal_of (expr e c))

behind_minus : (e : Expr) (p : Place) (c : Close) → number_kind (form_of (expr_node e)) ≡ kind_in (signed prefix.Minus p no_signs e) c
behind_minus (name n q) p c = refl
behind_minus (number n q) p c = refl
behind_minus (text n q) p c = refl
behind_minus (literal word.True q) p c = refl
behind_minus (literal word.False q) p c = refl
behind_minus (literal word.Null q) p c = refl
behind_minus (paren q e) p c = refl
behind_minus (list q es d) p c = refl
behind_minus (fields q fs d) p c = refl
behind_minus (steps e i is) p c = refl
behind_minus (bumped e i q) p c = refl
behind_minus (signed prefix.Minus q no_signs e) p c = refl
behind_minus (signed prefix.Not q no_signs e) p c = refl
behind_minus (signed _ q no_signs e) p c = refl
behind_minus (signed g q (a_sign h r ss) e) p c = ap number_kind (later_sign h r ss)
behind_minus (chain e op q d ls) p c = ap number_kind (any_link true op q ls)
behind_minus (choose c2 e cs d) p c = refl
behind_minus (assign t g q ts v) p c = refl

expression : (e : Expr) (c : Close) → kind_of_part (of_expr e) ≡ kind_in e c
expression (name n q) c = refl
expression (number n q) c = refl
expression (text n q) c = refl
expression (literal word.True q) c = refl
expression (literal word.False q) c = refl
expression (literal word.Null q) c = refl
expression (paren q e) c = refl
expression (list q es d) c = refl
expression (fields q fs d) c = refl
expression (steps e i is) c = refl
expression (bumped e i q) c = refl
expression (signed prefix.Minus q no_signs e) c = behind_minus e q c
expression (signed prefix.Not q no_signs e) c = refl
expression (signed _ q no_signs e) c = refl
expression (signed prefix.Minus q (a_sign h r ss) e) c = ap (λ f. kind_by_forms f (first_of (parts_of (of_expr (signed prefix.Minus q (a_sign h r ss) e))))) (later_sign h r ss)
expression (signed prefix.Not q (a_sign h r ss) e) c = ap (λ f. kind_by_forms f (first_of (parts_of (of_expr (signed prefix.Not q (a_sign h r ss) e))))) (later_sign h r ss)
expression (signed g q (a_sign h r ss) e) c = ap (λ f. kind_by_forms f (first_of (parts_of (of_expr (signed g q (a_sign h r ss) e))))) (later_sign h r ss)
expression (chain e op q d ls) c = ap (λ f. kind_by_forms f (first_of (parts_of (of_expr (chain e op q d ls))))) (any_link true op q ls)
expression (choose c2 e cs d) c = refl
expression (assign t g q ts v) c = refl

-- ---- in a tree

abbrev first_item : List Item → Option Kind
first_item [] = None
first_item (i ∷ is) = kind_of_part i

first_at : (t : Table) (ps : List ℕ) → form_of_first t ps ≡ first_of (map (part_at t) ps)
first_at t [] = refl
first_at t (p ∷ ps) = refl

part_kind : (t : Table) (at : ℕ) → IsListing t → expression_kind t at ≡ kind_of_part (part_at t at)
part_kind t at lists = ap (kind_by_forms (form_of (node_at t at))) (first_at t (places_of t at) ∙ ap first_of (parts_at_places t at lists))

items_kind : (t : Table) (ps : List ℕ) → IsListing t → kind_of_first t ps ≡ first_item (map (part_at t) ps)
items_kind t [] lists = refl
items_kind t (p ∷ ps) lists = part_kind t p lists

-- whether a node is that of an expression as a statement
abbrev if_statement : Form → Option Kind → Option Kind
if_statement form.Statement x = x
if_statement _ x = None

-- what the form and the first part of any part tell
abbrev Tells : Item → Type 0
Tells i = if_statement (form_of (node_of i)) (first_item (parts_of i)) ≡ literal_kind i

of_expression : (e : Expr) → Tells (of_expr e)
of_expression (name n q) = refl
of_expression (literal word.True q) = refl
of_expression (literal word.False q) = refl
of_expression (literal word.Null q) = refl
of_expression (signed prefix.Minus q no_signs e) = refl
of_expression (signed prefix.Not q no_signs e) = refl
of_expression (signed _ q no_signs e) = refl
of_expression (signed g q (a_sign h r ss) e) = ap (λ f. if_statement f (first_item (parts_of (of_expr (signed g q (a_sign h r ss) e))))) (later_sign h r ss)
of_expression (chain e op q d ls) = ap (λ f. if_statement f (first_item (parts_of (of_expr (chain e op q d ls))))) (any_link true op q ls)
of_expression _ = refl

item : (i : Item) → Tells i
item mark = refl
item (of_expr e) = of_expression e
item (of_step (member n p)) = refl
item (of_step (element p e)) = refl
item (of_step (call p es)) = refl
item (of_step (binding p ss)) = refl
item (of_stmt (empty p)) = refl
item (of_stmt (expr e c)) = expression e c
item (of_stmt (block p ss)) = refl
item (of_stmt (declare p q vs c)) = refl
item (of_stmt (when p e d)) = refl
item (of_stmt (either p e d r)) = refl
item (of_stmt (while p e d)) = refl
item (of_stmt (for p i e f d)) = refl
item (of_stmt (give p nothing c)) = refl
item (of_stmt (give p (just e) c)) = refl
item (of_stmt (stop p c)) = refl
item (of_stmt (again p c)) = refl
item (of_key q n p) = refl
item (of_sign f g p) = refl
item (of_link f op p d) = refl
item (of_choice f c e) = refl
item (of_target f t g p) = refl
item (of_var n p) = refl
item (of_first no_first) = refl
item (of_first (first_expr e)) = refl
item (of_first (first_declare p q vs)) = refl
item (of_maybe nothing) = refl
item (of_maybe (just e)) = refl
item (of_body ss) = refl
item (of_name n p) = refl
item (of_dot n) = refl
item (of_file n p) = refl
item (of_qualifier None) = refl
item (of_qualifier (Some q)) = refl
item (of_import (import_module n p ns v q c)) = refl
item (of_import (import_text n p q c)) = refl
item (of_kind None) = refl
item (of_kind (Some kind_var)) = refl
item (of_kind (Some (kind_name n p ns))) = refl
item (of_kind (Some (kind_list n p))) = refl
item (of_par_name n) = refl
item (of_par n q) = refl
item (of_signal_par q n) = refl
item (of_function (function p n r ps q ss)) = refl
item (of_member x true) = refl
item (of_member (id p n r c) false) = refl
item (of_member (property p d q n r v) false) = refl
item (of_member (bare p d q n r c) false) = refl
item (of_member (alias p d n r t z ns c) false) = refl
item (of_member (signal p n r None c) false) = refl
item (of_member (signal p n r (Some ps) c) false) = refl
item (of_member (method f) false) = refl
item (of_member (given n p ns v) false) = refl
item (of_member (group n p ns ms) false) = refl
item (of_member (child o) false) = refl
item (of_object o) = refl
item (of_objects p os) = refl
item (of_document d) = refl
item (of_script (script b fs)) = refl

told : (t : Table) (at : ℕ) → IsListing t → if_statement (form_of (node_at t at)) (first_kind t at) ≡ literal_kind (part_at t at)
told t at lists =
    ap (if_statement (form_of (node_at t at))) (items_kind t (places_of t at) lists ∙ ap first_item (parts_at_places t at lists)) ∙ item (part_at t at)

pub statement_told : (t : Table) (at : ℕ) (f : Form) → IsListing t → f ≡ form_of (node_at t at) → f ≡ form.Statement → first_kind t at ≡ literal_kind (part_at t at)
statement_told t at f lists e h = ap (λ x. if_statement x (first_kind t at)) (sym h ∙ e) ∙ told t at lists

abbrev is_statement : Form → Bool
is_statement form.Statement = true
is_statement _ = false

pub other_told : (t : Table) (at : ℕ) (f : Form) → IsListing t → f ≡ form_of (node_at t at) → is_statement f ≡ false → Path (Option Kind) None (literal_kind (part_at t at))
other_told t at f lists e h = sym (no_other f h (first_kind t at)) ∙ ap (λ x. if_statement x (first_kind t at)) e ∙ told t at lists
  where
    no_other : (f : Form) → is_statement f ≡ false → (x : Option Kind) → if_statement f x ≡ None
    no_other form.Statement h x = absurd (false≢true (sym h))
    no_other form.Minus h x = refl
    no_other form.Other h x = refl
    no_other (form.Of k) h x = refl
