-- The last step, and a `Qt.binding` that is assigned, as their nodes show them.
use Rattle.std.proofs.Common.{◌≡◌, ◌∙◌, ap, sym, refl, ℕ, Bool as 𝔹, true, false, ◌&&◌, if◌then◌else◌, List, [], ◌∷◌, codes, Option, Some, None}
use Rattle.qml_base.specs.declared.numbers.Place.{Place}
use Rattle.qml_syntax.specs.declared.node.Node.{Node}
use Rattle.qml_syntax.specs.declared.node.Node.TheVariants as node
use Rattle.qml_syntax.specs.Tree.{Expr, name, number, text, literal, paren, list, fields, steps, bumped, signed, chain, choose, assign, Step, member, element, call, binding, Steps, no_steps, a_step, Signs, no_signs, a_sign, Links, no_links, a_link}
use Rattle.qml_syntax.specs.Nodes.{Item, of_expr, of_step}
use Rattle.qml_syntax.specs.Opened.{node_of, parts_of, last_link, steps_parts}
use Rattle.qml_syntax.specs.Listed.{last_sign}
use Rattle.js_meaning.specs.Operate.{same_units}
use Rattle.js_meaning.specs.Looking.{name_in}
use Rattle.js_meaning.specs.Calling.{is_qt_binding}
use Rattle.js_meaning.specs.Assigning.{is_binding, place_of_function, bound_in}
use Rattle.js_locals.specs.Laid.{Laid, is_expr_node, is_name, is_step_node}
use Rattle.js_locals.proofs.NodeLemmas.{expr_item, step_item}
use Rattle.js_locals.proofs.RowLemmas.{first_is, rest_is}
use Rattle.js_frames.specs.Meant.{bound_of}
use Rattle.js_frames.specs.Moves.{ends_steps}
use Rattle.js_frames.specs.Spots.{is_steps, is_named, is_member, function_place, single_function, BoundAt}
use Rattle.js_frames.proofs.BeginLemmas.{Named, a_name_is, no_name_is, named_or_not}

-- ---- the last step

pub ends_here : (c : Laid) (q : ℕ) → c.rest q ≡ [] → true ≡ ends_steps (c.rest q)
ends_here c q h = sym (ap (λ z. ends_steps z) h)

pub goes_further : (c : Laid) (q r : ℕ) (n : Node) → c.rest q ≡ c.item r ∷ c.rest r → n ≡ node_of (c.item r) → is_step_node n ≡ true → false ≡ ends_steps (c.rest q)
goes_further c q r n h e b =
    let i : (d : Step) × (c.item r ≡ of_step d) = step_item n (c.item r) e b in
    sym (ap (λ z. ends_steps z) h ∙ ap (λ j. ends_steps (j ∷ c.rest r)) i.1)

-- ---- a `Qt.binding` that is assigned

pub nothing_bound : (c : Laid) (q : ℕ) → c.rest q ≡ [] → None ≡ bound_of (c.rest q)
nothing_bound c q h = sym (ap (λ z. bound_of z) h)

pub bound_behind : (c : Laid) (q r : ℕ) (b : Option Place) → c.rest q ≡ c.item r ∷ c.rest r → BoundAt c r b → b ≡ bound_of (c.rest q)
bound_behind c q r b h k = k.bound (c.rest r) ∙ sym (ap (λ z. bound_of z) h)

no_steps_link : (f : 𝔹) (o : _) (p : _) (ls : Links) → is_steps (last_link f o p ls) ≡ false
no_steps_link f o p no_links = refl
no_steps_link f o p (a_link q r e ls) = no_steps_link false q r ls

no_steps_sign : (f : 𝔹) (g : _) (p : _) (ss : Signs) → is_steps (last_sign f g p ss) ≡ false
no_steps_sign f g p no_signs = refl
no_steps_sign f g p (a_sign q r ss) = no_steps_sign false q r ss

plain_by : (i : Item) (is : List Item) → is_steps (node_of i) ≡ false → None ≡ bound_of (i ∷ is)
plain_by (of_expr (steps e i js)) is h = absurd (cc)
plain_by (of_expr (name n r)) is h = refl
plain_by (of_expr (number n r)) is h = refl
plain_by (of_expr (text us r)) is h = refl
plain_by (of_expr (literal l r)) is h = refl
plain_by (of_expr (paren r e)) is h = refl
plain_by (of_expr (list r es z)) is h = refl
plain_by (of_expr (fields r fs z)) is h = refl
plain_by (of_expr (bumped e i r)) is h = refl
plain_by (of_expr (signed g r ss e)) is h = refl
plain_by (of_expr (chain e o r d ls)) is h = refl
plain_by (of_expr (choose e d cs r)) is h = refl
plain_by (of_expr (assign t g r ts v)) is h = refl
plain_by _ is h = refl

pub plain_unbound : (c : Laid) (at : ℕ) (n : Node) → n ≡ node_of (c.item at) → is_steps n ≡ false → BoundAt c at None
plain_unbound c at n e h = record { bound = λ is. plain_by (c.item at) is (sym (ap (λ z. is_steps z) e) ∙ h) }

-- ---- by the nodes of steps

and_false : (b : 𝔹) → false ≡ (b && false)
and_false true = refl
and_false false = refl

no_named : (n : Node) → is_name n ≡ false → is_named n ≡ false
no_named (node.Name m p) h = absurd (cc)
no_named _ h = refl

name_told : (e : Expr) (i : Step) → Named e → is_binding (name_in e) i ≡ (is_named (node_of (of_expr e)) && is_member (node_of (of_step i)))
name_told e (member m q) (a_name_is n p) = refl
name_told e (element q d) (a_name_is n p) = and_false (same_units n (codes "Qt"))
name_told e (call q es) (a_name_is n p) = and_false (same_units n (codes "Qt"))
name_told e (binding q ss) (a_name_is n p) = and_false (same_units n (codes "Qt"))
name_told e i (no_name_is f n) =
    ap (λ o. is_binding o i) n ∙ sym (ap (λ z. z && is_member (node_of (of_step i))) (no_named (node_of (of_expr e)) f))

single_is : (is : Steps) → place_of_function is ≡ single_function (steps_parts is)
single_is no_steps = refl
single_is (a_step (binding p ss) no_steps) = refl
single_is (a_step (binding p ss) (a_step i js)) = refl
single_is (a_step (member n p) js) = refl
single_is (a_step (element p e) js) = refl
single_is (a_step (call p es) js) = refl

bound_if : (b : 𝔹) (is : Steps) → (if b then place_of_function is else None) ≡ (if b then single_function (steps_parts is) else None)
bound_if true is = single_is is
bound_if false is = refl

steps_expr : (e : Expr) → is_steps (node_of (of_expr e)) ≡ true → (d : Expr) × (i : Step) × (is : Steps) × (e ≡ steps d i is)
steps_expr (steps d i is) h = (d, i, is, refl)
steps_expr (signed g r ss e) h = let k : is_steps (last_sign true g r ss) ≡ false = no_steps_sign true g r ss in absurd (cc)
steps_expr (chain e o r d ls) h = let k : is_steps (last_link true o r ls) ≡ false = no_steps_link true o r ls in absurd (cc)
steps_expr _ h = absurd (cc)

steps_are_expr : (n : Node) → is_steps n ≡ true → is_expr_node n ≡ true
steps_are_expr node.Steps h = refl
steps_are_expr _ h = absurd (cc)

pub steps_bound : (c : Laid) (at q s : ℕ) (n m k : Node) (b : Option Place) → k ≡ node_of (c.item at) → is_steps k ≡ true → parts_of (c.item at) ≡ c.item q ∷ c.rest q → c.rest q ≡ c.item s ∷ c.rest s
    → n ≡ node_of (c.item q) → m ≡ node_of (c.item s) → b ≡ single_function (c.rest s) → BoundAt c at (if is_named n && is_member m then b else None)
steps_bound c at q s n m k b ke ks pe re ne me be =
    let x : (e : Expr) × (c.item at ≡ of_expr e) = expr_item k (c.item at) ke (steps_are_expr k ks) in
    let y : (d : Expr) × (i : Step) × (is : Steps) × (x.0 ≡ steps d i is) = steps_expr x.0 (ap (λ j. is_steps (node_of j)) (sym x.1) ∙ ap (λ z. is_steps z) (sym ke) ∙ ks) in
    let d : Expr = y.0 in
    let i : Step = y.1 in
    let is : Steps = y.2 in
    let ie : c.item at ≡ of_expr (steps d i is) = x.1 ∙ ap (λ z. of_expr z) y.3 in
    let parts : of_expr d ∷ of_step i ∷ steps_parts is ≡ c.item q ∷ c.rest q = sym (ap (λ j. parts_of j) ie) ∙ pe in
    let qe : c.item q ≡ of_expr d = first_is (of_expr d) (c.item q) (of_step i ∷ steps_parts is) (c.rest q) parts in
    let rest : of_step i ∷ steps_parts is ≡ c.item s ∷ c.rest s = sym (rest_is (of_expr d) (c.item q) (of_step i ∷ steps_parts is) (c.rest q) parts) ∙ re in
    let se : c.item s ≡ of_step i = first_is (of_step i) (c.item s) (steps_parts is) (c.rest s) rest in
    let te : c.rest s ≡ steps_parts is = rest_is (of_step i) (c.item s) (steps_parts is) (c.rest s) rest in
    let go : Node → Node → Option Place → Option Place = λ u v z. if is_named u && is_member v then z else None in
    let told : go n m b ≡ bound_in (steps d i is) =
    ap (λ z. go z m b) ne ∙ ap (λ j. go (node_of j) m b) qe ∙ ap (λ z. go (node_of (of_expr d)) z b) me ∙ ap (λ j. go (node_of (of_expr d)) (node_of j) b) se
    ∙ ap (λ z. go (node_of (of_expr d)) (node_of (of_step i)) z) (be ∙ ap (λ z. single_function z) te)
    ∙ ap (λ (z : 𝔹). if z then single_function (steps_parts is) else None) (sym (name_told d i (named_or_not d)))
    ∙ sym (bound_if (is_binding (name_in d) i) is) in
    record { bound = λ js. told ∙ sym (ap (λ j. bound_of (j ∷ js)) ie) }

-- ---- one function, and nothing behind it

pub single_none : (c : Laid) (s : ℕ) → c.rest s ≡ [] → None ≡ single_function (c.rest s)
single_none c s h = sym (ap (λ z. single_function z) h)

other_single : (i : Item) (is : List Item) → function_place (node_of i) ≡ None → None ≡ single_function (i ∷ is)
other_single (of_step (binding p ss)) is h = absurd (cc)
other_single (of_step (member n p)) is h = refl
other_single (of_step (element p e)) is h = refl
other_single (of_step (call p es)) is h = refl
other_single _ is h = refl

pub single_other : (c : Laid) (s b : ℕ) (n : Node) → c.rest s ≡ c.item b ∷ c.rest b → n ≡ node_of (c.item b) → function_place n ≡ None → None ≡ single_function (c.rest s)
single_other c s b n h e f = other_single (c.item b) (c.rest b) (sym (ap (λ z. function_place z) e) ∙ f) ∙ sym (ap (λ z. single_function z) h)

more_single : (i j : Item) (is : List Item) → None ≡ single_function (i ∷ j ∷ is)
more_single (of_step (binding p ss)) j is = refl
more_single (of_step (member n p)) j is = refl
more_single (of_step (element p e)) j is = refl
more_single (of_step (call p es)) j is = refl
more_single _ j is = refl

pub single_more : (c : Laid) (s b r : ℕ) → c.rest s ≡ c.item b ∷ c.rest b → c.rest b ≡ c.item r ∷ c.rest r → None ≡ single_function (c.rest s)
single_more c s b r h e = more_single (c.item b) (c.item r) (c.rest r) ∙ sym (ap (λ z. single_function (c.item b ∷ z)) e) ∙ sym (ap (λ z. single_function z) h)

function_step : (d : Step) (p : Place) → function_place (node_of (of_step d)) ≡ Some p → Some p ≡ single_function (of_step d ∷ [])
function_step (binding q ss) p h = sym h
function_step (member n q) p h = absurd (cc)
function_step (element q e) p h = absurd (cc)
function_step (call q es) p h = absurd (cc)

function_is_step : (n : Node) (p : Place) → function_place n ≡ Some p → is_step_node n ≡ true
function_is_step (node.Binding q) p h = refl
function_is_step _ p h = absurd (cc)

pub single_last : (c : Laid) (s b : ℕ) (n : Node) (p : Place) → c.rest s ≡ c.item b ∷ c.rest b → n ≡ node_of (c.item b) → function_place n ≡ Some p → c.rest b ≡ [] → Some p ≡ single_function (c.rest s)
single_last c s b n p h e f g =
    let x : (d : Step) × (c.item b ≡ of_step d) = step_item n (c.item b) e (function_is_step n p f) in
    function_step x.0 p (ap (λ j. function_place (node_of j)) (sym x.1) ∙ sym (ap (λ z. function_place z) e) ∙ f)
    ∙ sym (ap (λ j. single_function (j ∷ [])) x.1) ∙ sym (ap (λ z. single_function (c.item b ∷ z)) g) ∙ sym (ap (λ z. single_function z) h)
