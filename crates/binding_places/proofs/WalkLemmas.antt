-- Each step keeps all that is found and left, and leaves fewer nodes.
use Rattle.std.proofs.Common.{◌≡◌, ◌∙◌, ap, sym, refl, ℕ, ◌+◌, ◌<◌, ◌≤◌, arith, Bool, true, false, List, [], ◌∷◌, ◌++◌, reverse, map, Option, Some, None}
use Rattle.std.specs.Prelude.{if◌then◌else◌}
use Rattle.std.specs.List.{sum_by}
use Rattle.std.proofs.lemmas.List.{append_assoc, append-nil}
use Rattle.std.proofs.lemmas.List.Sums.{sum_by-cons}
use Rattle.qml_base.specs.declared.numbers.Place.{Place}
use Rattle.qml_syntax.specs.Nodes.{Item}
use Rattle.qml_syntax.specs.Opened.{node_of, parts_of}
use Rattle.qml_syntax.specs.Starts.{nodes_of}
use Rattle.qml_syntax.proofs.GatherLemmas.{level_size}
use Rattle.js_locals.specs.Laid.{Laid}
use Rattle.js_locals.specs.Gathering.{row_from, row_onto}
use Rattle.unit_rows.specs.Bindings.{BindingFunction}
use Rattle.binding_places.specs.InParts.{binding_seen, bindings_in, has_code, call_place, call_at, own_binding, in_row, in_rows, inside, nodes_left, OwnAdded, Walks}
use Rattle.binding_places.proofs.ItemLemmas.{by_node, by_parts}

abbrev Found : Type 0
Found = List BindingFunction

abbrev inner : Bool → Item → List Item
inner true i = parts_of i
inner false i = []

by_inner : (b : Bool) (q : Option Place) (i : Item) → by_node b q i ≡ call_at q i ++ in_row (inner b i)
by_inner true q i = refl
by_inner false q i = sym (append-nil (call_at q i))

abbrev chosen : Bool → Item → List Item
chosen b i = if b then parts_of i else []

chosen_is : (b : Bool) (i : Item) → inner b i ≡ chosen b i
chosen_is true i = refl
chosen_is false i = refl

-- what is in the part at a place: its own call, and what is inside it
pub in_part : (c : Laid) (at : ℕ) → bindings_in (c.item at) ≡ own_binding (c.item at) ++ in_row (inside c at)
in_part c at =
    by_parts (c.item at) ∙ by_inner (has_code (node_of (c.item at))) (call_place (node_of (c.item at))) (c.item at)
    ∙ ap (λ is. own_binding (c.item at) ++ in_row is) (chosen_is (has_code (node_of (c.item at))) (c.item at))

onto_rows : (c : Laid) (p : Option ℕ) (ps : List ℕ) → in_rows c (row_onto p ps) ≡ in_row (row_from c p) ++ in_rows c ps
onto_rows c None ps = refl
onto_rows c (Some p) ps = refl

onto_nodes : (c : Laid) (p : Option ℕ) (ps : List ℕ) → nodes_left c (row_onto p ps) ≡ sum_by nodes_of (row_from c p) + nodes_left c ps
onto_nodes c None ps = omega arith
onto_nodes c (Some p) ps = refl

few : (b : Bool) (i : Item) → sum_by nodes_of (chosen b i) ≤ sum_by nodes_of (parts_of i)
few true i = omega arith
few false i = omega arith

fewer_inside : (c : Laid) (at : ℕ) → sum_by nodes_of (inside c at) < nodes_of (c.item at)
fewer_inside c at =
    let size = level_size (c.item at) in
    let most = few (has_code (node_of (c.item at))) (c.item at) in
    omega (arith, size, most)

regroup : (a b x y z : Found) → a ++ b ++ (x ++ (y ++ z)) ≡ a ++ ((b ++ x) ++ y ++ z)
regroup a b x y z =
    append_assoc a b (x ++ (y ++ z))
    ∙ ap (λ w. a ++ w) (sym (append_assoc b x (y ++ z)) ∙ sym (append_assoc (b ++ x) y z))

pub walks : (c : Laid) (at : ℕ) (behind first : Option ℕ) (ps qs rs : List ℕ) (old new : List (Place × ℕ)) →
    OwnAdded c at old new → row_from c behind ≡ c.rest at → qs ≡ row_onto behind ps → row_from c first ≡ inside c at → rs ≡ row_onto first qs →
    Walks c at ps rs old new
walks c at behind first ps qs rs old new own e f h g =
    let rows : in_rows c rs ≡ in_row (inside c at) ++ (in_row (c.rest at) ++ in_rows c ps) =
    ap (λ z. in_rows c z) g ∙ onto_rows c first qs
    ∙ ap (λ z. in_row (row_from c first) ++ in_rows c z) f
    ∙ ap (λ z. in_row (row_from c first) ++ z) (onto_rows c behind ps)
    ∙ ap (λ z. in_row (row_from c first) ++ (in_row z ++ in_rows c ps)) e
    ∙ ap (λ z. in_row z ++ (in_row (c.rest at) ++ in_rows c ps)) h in
    let nodes : nodes_left c rs ≡ sum_by nodes_of (inside c at) + (sum_by nodes_of (c.rest at) + nodes_left c ps) =
    ap (λ z. nodes_left c z) g ∙ onto_nodes c first qs
    ∙ ap (λ z. sum_by nodes_of (row_from c first) + nodes_left c z) f
    ∙ ap (λ z. sum_by nodes_of (row_from c first) + z) (onto_nodes c behind ps)
    ∙ ap (λ z. sum_by nodes_of (row_from c first) + (sum_by nodes_of z + nodes_left c ps)) e
    ∙ ap (λ z. sum_by nodes_of z + (sum_by nodes_of (c.rest at) + nodes_left c ps)) h in
    let whole : nodes_left c (at ∷ ps) ≡ (nodes_of (c.item at) + sum_by nodes_of (c.rest at)) + nodes_left c ps =
    ap (λ z. z + nodes_left c ps) (sum_by-cons nodes_of (c.item at) (c.rest at)) in
    record {
      same =
          ap (λ z. z ++ in_rows c rs) own
          ∙ ap (λ z. map (binding_seen c) old ++ own_binding (c.item at) ++ z) rows
          ∙ regroup (map (binding_seen c) old) (own_binding (c.item at)) (in_row (inside c at)) (in_row (c.rest at)) (in_rows c ps)
          ∙ ap (λ z. map (binding_seen c) old ++ (z ++ in_row (c.rest at) ++ in_rows c ps)) (sym (in_part c at));
      fewer = let less = fewer_inside c at in omega (arith, nodes, less, whole);
    }

pub begins : (c : Laid) (at : ℕ) (first : Option ℕ) (none ps : List ℕ) (nothing new : List (Place × ℕ)) →
    nothing ≡ [] → OwnAdded c at nothing new → row_from c first ≡ inside c at → none ≡ [] → ps ≡ row_onto first (reverse none) →
    map (binding_seen c) new ++ in_rows c ps ≡ bindings_in (c.item at)
begins c at first none ps nothing new n own h m e =
    ap (λ z. z ++ in_rows c ps) (own ∙ ap (λ z. map (binding_seen c) z ++ own_binding (c.item at)) n)
    ∙ ap (λ z. own_binding (c.item at) ++ in_rows c z) (e ∙ ap (λ z. row_onto first (reverse z)) m)
    ∙ ap (λ z. own_binding (c.item at) ++ z) (onto_rows c first [] ∙ append-nil (in_row (row_from c first)) ∙ ap in_row h)
    ∙ sym (in_part c at)

pub goes_on : (c : Laid) (root at : ℕ) (ps qs : List ℕ) (old new : List (Place × ℕ)) →
    map (binding_seen c) old ++ in_rows c (at ∷ ps) ≡ bindings_in (c.item root) → Walks c at ps qs old new →
    map (binding_seen c) new ++ in_rows c qs ≡ bindings_in (c.item root)
goes_on c root at ps qs old new e w = w.same ∙ e

pub ends : (c : Laid) (root : ℕ) (left : List ℕ) (found : List (Place × ℕ)) → left ≡ [] →
    map (binding_seen c) found ++ in_rows c (reverse left) ≡ bindings_in (c.item root) → map (binding_seen c) found ≡ bindings_in (c.item root)
ends c root left found e h =
    sym (append-nil (map (binding_seen c) found)) ∙ ap (λ z. map (binding_seen c) found ++ in_rows c (reverse z)) (sym e) ∙ h
