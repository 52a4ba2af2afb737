-- What the code finds at a place.
use Rattle.std.proofs.Common.{◌≡◌, ◌∙◌, ap, sym, refl, ℕ, ◌<◌, ◌≤◌, arith, Bool, true, false, List, [], ◌∷◌, ◌++◌, length, map, Option, Some, None}
use Rattle.std.specs.Prelude.{MatchOption, ltb, if◌then◌else◌}
use Rattle.std.proofs.lemmas.List.{append-nil, map-append}
use Rattle.std.proofs.lemmas.Bool.Decides.{nat_tests}
use Rattle.qml_base.specs.declared.numbers.Place.{Place}
use Rattle.qml_syntax.specs.declared.node.Node.{Node}
use Rattle.qml_syntax.specs.Nodes.{mark, Table}
use Rattle.qml_syntax.specs.Opened.{item_at, node_of, parts_of}
use Rattle.qml_syntax.specs.Places.{part_at}
use Rattle.js_locals.specs.Laid.{Laid}
use Rattle.js_locals.specs.Gathering.{row_from}
use Rattle.binding_places.specs.InParts.{binding_seen, call_place, call_at, has_code, inside, OwnAdded}

pub node_there : (t : Table) (k : ℕ) (n : Node) → k < length t → n ≡ node_of (item_at t k) → n ≡ node_of (part_at t k)
node_there t k n h e = let b : ltb k (length t) ≡ true = grind (arith, nat_tests) in rw b e

pub nothing_there : (t : Table) (k : ℕ) → length t ≤ k → part_at t k ≡ mark
nothing_there t k h = let b : ltb k (length t) ≡ false = grind (arith, nat_tests) in rw b refl

pub called : (c : Laid) (at : ℕ) (n : Node) (q : Option Place) → n ≡ node_of (c.item at) → q ≡ call_place n → q ≡ call_place (node_of (c.item at))
called c at n q e h = h ∙ ap call_place e

pub nothing_called : (c : Laid) (at : ℕ) → c.item at ≡ mark → None ≡ call_place (node_of (c.item at))
nothing_called c at e = sym (ap (λ i. call_place (node_of i)) e)

pub code_there : (c : Laid) (at : ℕ) (n : Node) (b : Bool) → n ≡ node_of (c.item at) → b ≡ has_code n → b ≡ has_code (node_of (c.item at))
code_there c at n b e h = h ∙ ap has_code e

pub no_code_there : (c : Laid) (at : ℕ) → c.item at ≡ mark → false ≡ has_code (node_of (c.item at))
no_code_there c at e = sym (ap (λ i. has_code (node_of i)) e)

pub call_added : (c : Laid) (at : ℕ) (q : Place) (o : Option Place) (old new : List (Place × ℕ)) →
    o ≡ call_place (node_of (c.item at)) → o ≡ Some q → new ≡ old ++ (q, at) ∷ [] → OwnAdded c at old new
call_added c at q o old new e h n =
    ap (λ z. map (binding_seen c) z) n ∙ map-append (binding_seen c) old ((q, at) ∷ [])
    ∙ ap (λ z. map (binding_seen c) old ++ call_at z (c.item at)) (sym h ∙ e)

pub none_added : (c : Laid) (at : ℕ) (o : Option Place) (old : List (Place × ℕ)) →
    o ≡ call_place (node_of (c.item at)) → o ≡ None → OwnAdded c at old old
none_added c at o old e h =
    sym (append-nil (map (binding_seen c) old)) ∙ ap (λ z. map (binding_seen c) old ++ call_at z (c.item at)) (sym h ∙ e)

pub row_of_parts : (c : Laid) (at : ℕ) (p : Option ℕ) →
    MatchOption p (parts_of (c.item at) ≡ []) (λ q. parts_of (c.item at) ≡ c.item q ∷ c.rest q) → row_from c p ≡ parts_of (c.item at)
row_of_parts c at None h = sym h
row_of_parts c at (Some q) h = sym h

pub code_inside : (c : Laid) (at : ℕ) (p : Option ℕ) (b : Bool) → b ≡ has_code (node_of (c.item at)) → b ≡ true →
    MatchOption p (parts_of (c.item at) ≡ []) (λ q. parts_of (c.item at) ≡ c.item q ∷ c.rest q) → row_from c p ≡ inside c at
code_inside c at p b e h m =
    row_of_parts c at p m ∙ ap (λ z. if z then parts_of (c.item at) else []) (sym h ∙ e)

pub no_code_inside : (c : Laid) (at : ℕ) (b : Bool) → b ≡ has_code (node_of (c.item at)) → b ≡ false → row_from c None ≡ inside c at
no_code_inside c at b e h = ap (λ z. if z then parts_of (c.item at) else []) (sym h ∙ e)
