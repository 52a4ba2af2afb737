-- What stands inside brackets.
use Rattle.std.proofs.Common.{◌≡◌, ℕ, ◌<◌, Bool, false, List, [], ◌∷◌, ◌++◌, length, map, reverse, refl, ap, ◌∙◌, sym, subst, arith}
use Rattle.std.specs.Prelude.{slice_index}
use Rattle.qml_base.specs.declared.numbers.Place.{Place}
use Rattle.qml_syntax.specs.declared.node.Node.{Node}
use Rattle.qml_syntax.specs.declared.node.Node.TheVariants as node
use Rattle.qml_syntax.specs.Tree.{Expr, paren}
use Rattle.qml_syntax.specs.Nodes.{of_expr, top_expr, below, Table}
use Rattle.qml_syntax.specs.Opened.{item_at, node_of, parts_of, IsLevel}
use Rattle.qml_syntax.proofs.GatherLemmas.{opened_is_made}
use Rattle.level_tests.specs.Brackets.{bare, is_bracket, Within, Steps}

-- what stands at a place whose node is that of brackets
brackets_open : (t : Table) (at : ℕ) (p : Place) (places : List ℕ) → IsLevel t at (node.Paren p) places → (d : Expr) × (item_at t at ≡ of_expr (paren p d)) × (map (item_at t) places ≡ of_expr d ∷ [])
brackets_open t at p places h =
    let d : Expr = top_expr (reverse (map (item_at t) places) ++ []) in
    let m : of_expr (paren p d) ∷ below (reverse (map (item_at t) places) ++ []) ≡ item_at t at ∷ [] = opened_is_made t at (node.Paren p) places h [] in
    let f : item_at t at ≡ of_expr (paren p d) = cc in
    (d, f, h.parts ∙ ap (λ z. parts_of z) f)

inner : (e : Expr) (p : Place) (d : Expr) → of_expr e ≡ of_expr (paren p d) → bare e ≡ bare d
inner e p d h = let f : e ≡ paren p d = cc in ap (λ z. bare z) f

bare_plain : (e : Expr) → is_bracket (node_of (of_expr e)) ≡ false → bare e ≡ e
bare_plain (paren p e) h = absurd (cc)
bare_plain _ h = refl

first_inside : (t : Table) (places : List ℕ) (d : Expr) → map (item_at t) places ≡ of_expr d ∷ [] → (0 < length places) × (item_at t (slice_index places 0) ≡ of_expr d)
first_inside t [] d h = absurd (cc)
first_inside t (x ∷ places) d h = (omega arith, cc)

within : (t : Table) (at : ℕ) (p : Place) (places : List ℕ) → IsLevel t at (node.Paren p) places → Within t at places
within t at p places h =
    let b : (d : Expr) × (item_at t at ≡ of_expr (paren p d)) × (map (item_at t) places ≡ of_expr d ∷ []) = brackets_open t at p places h in
    let f : (0 < length places) × (item_at t (slice_index places 0) ≡ of_expr (b.0)) = first_inside t places (b.0) (b.2) in
    record { some = f.0; before = h.before 0 0 (f.0); inside = λ e q. (b.0, inner e p (b.0) (sym q ∙ b.1), f.1) }

pub stepped_into : (t : Table) (at : ℕ) (places : List ℕ) (x : Node) → IsLevel t at x places → Steps t at places (is_bracket x)
stepped_into t at places (node.Paren p) h = within t at p places h
stepped_into t at places _ h = λ e q. bare_plain e (ap (λ z. is_bracket z) (sym (h.node ∙ ap (λ z. node_of z) q)))

pub known : (t : Table) (at : ℕ) (new cleared places : List ℕ) (x : Node) (found : Bool) → cleared ≡ [] → new ≡ cleared ++ places → found ≡ is_bracket x → IsLevel t at x places → Steps t at new found
known t at new cleared places x found c e f h =
    let g : places ≡ new = sym (e ∙ ap (λ z. z ++ places) c) in
    subst (λ (z : List ℕ). Steps t at z found) g (subst (λ (b : Bool). Steps t at places b) (sym f) (stepped_into t at places x h))
