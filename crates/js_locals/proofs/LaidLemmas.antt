-- Where the parts of a tree stand.
use Rattle.std.proofs.Common.{◌≡◌, ◌∙◌, ap, sym, ℕ, ◌<◌, List, [], ◌∷◌, ◌++◌, reverse, Some, None, length, map, ltb, true, refl, arith}
use Rattle.std.proofs.lemmas.Bool.Decides.{nat_tests}
use Rattle.qml_base.specs.declared.numbers.Place.{Place}
use Rattle.qml_syntax.specs.declared.operators.Operator.{Operator}
use Rattle.qml_syntax.specs.declared.node.Node.{Node}
use Rattle.qml_syntax.specs.declared.node.Node.TheVariants as node
use Rattle.qml_syntax.specs.Tree.{Expr, a_link}
use Rattle.qml_syntax.proofs.GatherLemmas.{level_is_made}
use Rattle.js_locals.specs.Laid.{IsOperand, Laid, op_of, place_in, link_op, links_in}
use Rattle.qml_syntax.specs.Nodes.{Item, of_expr, of_link, Table, apply, below, top_expr}
use Rattle.qml_syntax.specs.Opened.{node_of, parts_of, item_at, IsListing}
use Rattle.qml_syntax.specs.Places.{part_at, places_of, behind}
use Rattle.qml_syntax.proofs.PlacesLemmas.{parts_at_places}

is_item : (t : Table) (k : ℕ) → k < length t → part_at t k ≡ item_at t k
is_item t k h = let e : ltb k (length t) ≡ true = grind (arith, nat_tests) in rw e refl

pub part_here : (t : Table) (k : ℕ) → k < length t → node_of (item_at t k) ≡ node_of (part_at t k)
part_here t k h = ap (λ i. node_of i) (sym (is_item t k h))

pub no_first_part : (t : Table) (at : ℕ) → IsListing t → places_of t at ≡ [] → parts_of (part_at t at) ≡ []
no_first_part t at l e = sym (parts_at_places t at l) ∙ ap (λ ps. map (part_at t) ps) e

pub first_part : (t : Table) (at p : ℕ) → IsListing t → places_of t at ≡ p ∷ behind t p → parts_of (part_at t at) ≡ part_at t p ∷ map (part_at t) (behind t p)
first_part t at p l e = sym (parts_at_places t at l) ∙ ap (λ ps. map (part_at t) ps) e

pub no_next_part : (t : Table) (p : ℕ) → behind t p ≡ [] → map (part_at t) (behind t p) ≡ []
no_next_part t p e = ap (λ ps. map (part_at t) ps) e

pub next_part : (t : Table) (p q : ℕ) → behind t p ≡ q ∷ behind t q → map (part_at t) (behind t p) ≡ part_at t q ∷ map (part_at t) (behind t q)
next_part t p q e = ap (λ ps. map (part_at t) ps) e

-- ---- operands of chains

made_of : (n : Node) (i : Item) → n ≡ node_of i → apply n (reverse (parts_of i) ++ []) ≡ i ∷ []
made_of n i h = ap (λ z. apply z (reverse (parts_of i) ++ [])) h ∙ level_is_made i []

link_of : (x n : Node) (i j : Item) (is js : List Item) (o : Operator) → n ≡ node_of i → Some o ≡ link_op n → parts_of i ≡ j ∷ js → (p : Place) × (links_in x (i ∷ is) ≡ a_link o p (top_expr (j ∷ [])) (links_in x is))
link_of x (node.Link f q p) i j is js o m h e =
    let d : Expr = top_expr (reverse (parts_of i) ++ []) in
    let t : of_link f q p d ∷ below (reverse (parts_of i) ++ []) ≡ i ∷ [] = made_of (node.Link f q p) i m in
    let g : i ≡ of_link f q p d = cc in
    let k : of_expr d ∷ [] ≡ j ∷ js = sym (ap (λ z. parts_of z) g) ∙ e in
    let r : of_expr d ≡ j = cc in
    let u : o ≡ q = cc in
    (p, ap (λ z. links_in x (z ∷ is)) g ∙ ap (λ z. a_link z p d (links_in x is)) (sym u) ∙ ap (λ z. a_link o p (top_expr (z ∷ [])) (links_in x is)) r)
link_of x _ i j is js o m h e = absurd (cc)

own_of : (x n : Node) (i : Item) (is : List Item) (o : Operator) → n ≡ node_of i → None ≡ link_op n → o ≡ op_of x → (p : Place) × (links_in x (i ∷ is) ≡ a_link o p (top_expr (i ∷ [])) (links_in x is))
own_of x n (of_link f q p d) is o m h e = let k : link_op n ≡ Some q = ap (λ z. link_op z) m in absurd (cc)
own_of x n i is o m h e = (place_in x, ap (λ z. a_link z (place_in x) (top_expr (i ∷ [])) (links_in x is)) (sym e))

pub link_operand : (c : Laid) (n : Node) (at q r : ℕ) (o : Operator) → n ≡ node_of (c.item q) → Some o ≡ link_op n → parts_of (c.item q) ≡ c.item r ∷ c.rest r → IsOperand c at q o r
link_operand c n at q r o h e f = link_of (node_of (c.item at)) n (c.item q) (c.item r) (c.rest q) (c.rest r) o h e f

pub own_operand : (c : Laid) (n : Node) (at q : ℕ) (o : Operator) → n ≡ node_of (c.item q) → None ≡ link_op n → o ≡ op_of (node_of (c.item at)) → IsOperand c at q o q
own_operand c n at q o h e f = own_of (node_of (c.item at)) n (c.item q) (c.rest q) o h e f
