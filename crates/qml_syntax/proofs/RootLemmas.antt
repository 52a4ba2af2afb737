-- The nodes of a whole tree leave one part, and no two trees have the same nodes.
use Rattle.std.proofs.Common.{◌≡◌, ℕ, ◌+◌, ◌≤◌, List, [], ◌∷◌, length, reverse, Bool, IsTrue, ◌↔◌, refl, ap, ◌∙◌, sym, subst, arith, Some}
use Rattle.std.proofs.lemmas.List.{reverse-reverse}
use Rattle.qml_syntax.specs.declared.node.Node.{Node}
use Rattle.qml_syntax.specs.declared.node.Node.TheVariants as node
use Rattle.qml_syntax.specs.Tree.{Whole, whole_expr, whole_stmt, whole_body, whole_document, whole_script}
use Rattle.qml_syntax.specs.Nodes.{Item, mark, of_body, Parts, Table, parts_in, of_document, of_script}
use Rattle.qml_syntax.specs.Listed.{listed_whole}
use Rattle.qml_syntax.specs.Opened.{first, top, item_at, whole_of, only_whole, root_of, whole_in, IsListing}
use Rattle.qml_syntax.specs.Starts.{AllWhole}
use Rattle.qml_syntax.proofs.PartsLemmas.{parts, parts_stmt}
use Rattle.qml_syntax.proofs.WholeLemmas.{parts_item, whole_item, all, all_stmt, all_stmts}
use Rattle.qml_syntax.proofs.PositionLemmas.{first-all}
use Rattle.qml_syntax.proofs.WholeDocument.{all_document, all_script}
use Rattle.qml_syntax.specs.Tree.{document, script}

one_part : (w : Whole) → parts_in (listed_whole w) ≡ root_of w ∷ []
one_part (whole_expr e) = parts e []
one_part (whole_stmt d) = parts_stmt d []
one_part (whole_body ss) = parts_item (of_body ss) []
one_part (whole_document (document is o)) = parts_item (of_document (document is o)) []
one_part (whole_script (script b fs)) = parts_item (of_script (script b fs)) []

whole_of_root : (w : Whole) → whole_of (root_of w) ≡ Some w
whole_of_root (whole_expr e) = refl
whole_of_root (whole_stmt d) = refl
whole_of_root (whole_body ss) = refl
whole_of_root (whole_document d) = refl
whole_of_root (whole_script s) = refl

pub whole_found : (w : Whole) → whole_in (listed_whole w) ≡ Some w
whole_found w = ap (λ z. only_whole z) (one_part w) ∙ whole_of_root w

pub listed_once : (w v : Whole) → listed_whole w ≡ listed_whole v → w ≡ v
listed_once w v h =
    let e : Some w ≡ Some v = sym (whole_found w) ∙ ap (λ z. whole_in z) h ∙ whole_found v in
    cc

all_of : (w : Whole) → AllWhole (listed_whole w)
all_of (whole_expr e) = all e [] tt
all_of (whole_stmt d) = all_stmt d [] tt
all_of (whole_body ss) = (whole_item (of_body ss) [] tt, all_stmts ss (node.Mark ∷ []) (whole_item mark [] tt, tt))
all_of (whole_document d) = all_document d
all_of (whole_script s) = all_script s

pub listing_all : (t : Table) → IsListing t → AllWhole t
listing_all t h = subst (λ (z : Table). AllWhole z) (h.1) (all_of (h.0))

some_part : (t : Table) (i : Item) (s : Parts) → parts_in t ≡ i ∷ s → 1 ≤ length t
some_part [] i s h = absurd (cc)
some_part (x ∷ xs) i s h = omega arith

one_left : (t : Table) → IsListing t → (i : Item) × (parts_in t ≡ i ∷ [])
one_left t h = (root_of (h.0), ap (λ z. parts_in z) (sym (h.1)) ∙ one_part (h.0))

pub some_node : (t : Table) → IsListing t → 1 ≤ length t
some_node t h = let p : (i : Item) × (parts_in t ≡ i ∷ []) = one_left t h in some_part t (p.0) [] (p.1)

pub root_is : (t : Table) (k : ℕ) → k + 1 ≡ length t → (w : Whole) → listed_whole w ≡ t → item_at t k ≡ root_of w
root_is t k q w h =
    let e : first (k + 1) t ≡ t = ap (λ (z : ℕ). first z t) q ∙ first-all t in
    ap (λ z. top (parts_in z)) (e ∙ sym h) ∙ ap (λ z. top z) (one_part w)

-- trees are the same where their nodes are
pub same_whole : (t u : Table) → IsListing t → IsListing u → whole_in t ≡ whole_in u → t ≡ u
same_whole t u h k e =
    let a : Some (h.0) ≡ Some (k.0) = sym (whole_found (h.0)) ∙ ap (λ z. whole_in z) (h.1) ∙ e ∙ ap (λ z. whole_in z) (sym (k.1)) ∙ whole_found (k.0) in
    let b : h.0 ≡ k.0 = cc in
    sym (h.1) ∙ ap (λ z. listed_whole z) b ∙ k.1

-- lists of nodes, and the tables that they are
pub same_tables : (x y a b : List Node) (t u : Table) (r : Bool) → x ≡ a → y ≡ b → reverse a ≡ t → reverse b ≡ u → (IsTrue r ↔ (x ≡ y)) → IsTrue r ↔ (t ≡ u)
same_tables x y a b t u r e f v w h =
    (λ q. sym v ∙ ap reverse (sym e ∙ h.0 q ∙ f) ∙ w, λ q. h.1 (e ∙ sym (reverse-reverse a) ∙ ap reverse (v ∙ q ∙ sym w) ∙ reverse-reverse b ∙ sym f))

pub same_wholes : (t u : Table) (r : Bool) → IsListing t → IsListing u → (IsTrue r ↔ (t ≡ u)) → IsTrue r ↔ (whole_in t ≡ whole_in u)
same_wholes t u r h k e = (λ q. ap (λ z. whole_in z) (e.0 q), λ q. e.1 (same_whole t u h k q))
