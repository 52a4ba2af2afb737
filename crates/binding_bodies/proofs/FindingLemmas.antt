-- The calls in bodies, body after body.
use Rattle.std.proofs.Common.{◌≡◌, ◌∙◌, ap, sym, refl, ℕ, ◌+◌, ◌<◌, List, [], ◌∷◌, ◌++◌, length, map, take, get_or, add-one}
use Rattle.std.specs.List.{flat_map}
use Rattle.std.proofs.lemmas.List.{append-nil, append_assoc, map-append}
use Rattle.std.proofs.Math.Seq.{take-suc}
use Rattle.js_locals.specs.Laid.{Laid}
use Rattle.unit_rows.specs.declared.body.BodyRow.{BodyRow}
use Rattle.binding_places.specs.InParts.{binding_seen}
use Rattle.binding_bodies.specs.Behind.{Call, bindings_of_row, AreCallsIn, AreCalls}

flat_append : {A B : Type 0} (f : A → List B) (xs ys : List A) → flat_map f (xs ++ ys) ≡ flat_map f xs ++ flat_map f ys
flat_append f [] ys = refl
flat_append f (x ∷ xs) ys = ap (λ z. f x ++ z) (flat_append f xs ys) ∙ sym (append_assoc (f x) (flat_map f xs) (flat_map f ys))

pub calls_on : (c : Laid) (at : ℕ) (rows : List BodyRow) (d : BodyRow) (old more new : List Call) → at < length rows →
    AreCalls c (take at rows) old → AreCallsIn c (get_or rows at d) more → new ≡ old ++ more → AreCalls c (take (at + 1) rows) new
calls_on c at rows d old more new h a m e =
    ap (map (binding_seen c)) e ∙ map-append (binding_seen c) old more
    ∙ ap (λ z. z ++ map (binding_seen c) more) a
    ∙ ap (λ z. flat_map (bindings_of_row c) (take at rows) ++ z) (m ∙ sym (append-nil (bindings_of_row c (get_or rows at d))))
    ∙ sym (flat_append (bindings_of_row c) (take at rows) (get_or rows at d ∷ []))
    ∙ ap (flat_map (bindings_of_row c)) (sym (ap (λ k. take k rows) (add-one at) ∙ take-suc rows at d h))
