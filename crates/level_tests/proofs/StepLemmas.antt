-- A step of a walk: a place is taken from those that wait, and the places of its parts wait.
use Rattle.std.proofs.Common.{◌≡◌, ℕ, ◌+◌, ◌-◌, ◌<◌, ◌≤◌, List, [], ◌∷◌, ◌++◌, length, map, sum_by, All, Option, Some, None, MatchOption, refl, ap, ◌∙◌, sym, subst, arith, get_or}
use Rattle.std.proofs.lemmas.List.{map-append, length-append, get_or_push, get_or_append_left}
use Rattle.std.proofs.lemmas.List.Elements.{All-append}
use Rattle.std.proofs.lemmas.List.Sums.{sum_by-append, sum_by_push}
use Rattle.qml_syntax.specs.declared.node.Node.{Node}
use Rattle.qml_syntax.specs.Nodes.{Table}
use Rattle.qml_syntax.specs.Opened.{item_at, parts_of, IsLevel}
use Rattle.qml_syntax.specs.Starts.{nodes_of}
use Rattle.qml_syntax.proofs.GatherLemmas.{level_size}

abbrev pub waits : Table → List ℕ → ℕ
waits t ps = sum_by nodes_of (map (item_at t) ps)

pub taken : (t : Table) (rest old : List ℕ) (at left : ℕ) → old ≡ rest ++ at ∷ [] → waits t old ≡ left → left ≡ waits t rest + nodes_of (item_at t at)
taken t rest old at left e h = sym h ∙ ap (λ z. waits t z) e ∙ ap (λ z. sum_by nodes_of z) (map-append (item_at t) rest (at ∷ [])) ∙ sum_by_push nodes_of (map (item_at t) rest) (item_at t at)

pub some_left : (t : Table) (rest old : List ℕ) (at left : ℕ) → old ≡ rest ++ at ∷ [] → waits t old ≡ left → 1 ≤ left
some_left t rest old at left e h = omega (arith, taken t rest old at left e h, level_size (item_at t at))

last_below : (n at : ℕ) (rest : List ℕ) → All (λ p. p < n) (rest ++ at ∷ []) → at < n
last_below n at rest h = subst (λ (z : ℕ). z < n) (get_or_push rest at 0 (length rest) refl) (h (length rest) 0 (omega (arith, length-append rest (at ∷ []))))

rest_below : (n at : ℕ) (rest : List ℕ) → All (λ p. p < n) (rest ++ at ∷ []) → All (λ p. p < n) rest
rest_below n at rest h = λ k d q. subst (λ (z : ℕ). z < n) (get_or_append_left rest (at ∷ []) d k q) (h k d (omega (arith, length-append rest (at ∷ []))))

all_below : (m n : ℕ) (ps : List ℕ) → m ≤ n → All (λ p. p < m) ps → All (λ p. p < n) ps
all_below m n ps l h = λ k d q. let a : get_or ps k d < m = h k d q in omega arith

pub stepped : {A : Type 0} (t : Table) (rest old new : List ℕ) (at left : ℕ) (node_in : A → Node) (o : Option A) → old ≡ rest ++ at ∷ [] → waits t old ≡ left → All (λ p. p < length t) old → MatchOption o ((length t ≤ at) × (new ≡ rest)) (λ a. (ps : List ℕ) × (new ≡ rest ++ ps) × IsLevel t at (node_in a) ps) → (waits t new ≡ left - 1) × All (λ p. p < length t) new
stepped t rest old new at left node_in None e h q m =
    let b : at < length t = last_below (length t) at rest (subst (λ (z : List ℕ). All (λ p. p < length t) z) e q) in
    let c : length t ≤ at = m.0 in
    absurd (omega arith)
stepped t rest old new at left node_in (Some a) e h q m =
    let b : All (λ p. p < length t) (rest ++ at ∷ []) = subst (λ (z : List ℕ). All (λ p. p < length t) z) e q in
    let l : at ≤ length t = omega (arith, last_below (length t) at rest b) in
    let s : left ≡ waits t rest + nodes_of (item_at t at) = taken t rest old at left e h in
    let w : waits t new ≡ waits t rest + sum_by nodes_of (parts_of (item_at t at)) =
    ap (λ z. waits t z) (m.1) ∙ ap (λ z. sum_by nodes_of z) (map-append (item_at t) rest (m.0)) ∙ sum_by-append nodes_of (map (item_at t) rest) (map (item_at t) (m.0)) ∙ ap (λ z. waits t rest + sum_by nodes_of z) ((m.2).parts) in
    (omega (arith, w, s, level_size (item_at t at)), subst (λ (z : List ℕ). All (λ p. p < length t) z) (sym (m.1)) (All-append (λ p. p < length t) rest (m.0) (rest_below (length t) at rest b) (all_below at (length t) (m.0) l ((m.2).before))))
