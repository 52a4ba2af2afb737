-- Functions that are put behind, call after call.
use Rattle.std.proofs.Common.{◌≡◌, ◌∙◌, ap, sym, subst, refl, ℕ, suc, ◌+◌, ◌<◌, arith, List, [], ◌∷◌, ◌++◌, length, map, take, get_or, add-one}
use Rattle.std.proofs.lemmas.List.{append_assoc, map-append, length-append}
use Rattle.std.proofs.Math.Seq.{take-suc}
use Rattle.qml_base.specs.declared.numbers.Place.{Place}
use Rattle.unit_rows.specs.declared.body.BodyRow.{BodyRow}
use Rattle.binding_bodies.specs.Behind.{Call, body_of_call, calls_from, IsPut, ArePut}

calls_append : (n : ℕ) (calls : List Call) (call : Call) → calls_from n (calls ++ call ∷ []) ≡ calls_from n calls ++ (call.0, n + length calls) ∷ []
calls_append n [] (q, p) = ap (λ k. (q, k) ∷ []) (let e : n ≡ n + 0 = omega arith in e)
calls_append n ((q, p) ∷ rest) call =
    ap (λ z. (q, n) ∷ z) (calls_append (suc n) rest call ∙ ap (λ k. calls_from (suc n) rest ++ (call.0, k) ∷ [])
    (let e : suc n + length rest ≡ n + suc (length rest) = omega arith in e))

length_map : (calls : List Call) → length (map body_of_call calls) ≡ length calls
length_map [] = refl
length_map (c ∷ calls) = ap suc (length_map calls)

one_more : (calls : List Call) (call : Call) (first old new : List BodyRow) (before after : List (Place × ℕ)) →
    ArePut calls first old before → IsPut call old new before after → ArePut (calls ++ call ∷ []) first new after
one_more calls call first old new before after a i = record {
  bodies =
      i.body ∙ ap (λ z. z ++ body_of_call call ∷ []) a.bodies
      ∙ append_assoc first (map body_of_call calls) (body_of_call call ∷ [])
      ∙ ap (λ z. first ++ z) (sym (map-append body_of_call calls (call ∷ [])));
  places =
      i.place ∙ ap (λ z. z ++ (call.0, length old) ∷ []) a.places
      ∙ ap (λ k. calls_from (length first) calls ++ (call.0, k) ∷ [])
      (ap length a.bodies ∙ length-append first (map body_of_call calls) ∙ ap (λ k. length first + k) (length_map calls))
      ∙ sym (calls_append (length first) calls call);
}

pub put_on : (at : ℕ) (calls : List Call) (d : Call) (first old new : List BodyRow) (before after : List (Place × ℕ)) → at < length calls →
    ArePut (take at calls) first old before → IsPut (get_or calls at d) old new before after → ArePut (take (at + 1) calls) first new after
put_on at calls d first old new before after h a i =
    let e : take at calls ++ get_or calls at d ∷ [] ≡ take (at + 1) calls = sym (ap (λ k. take k calls) (add-one at) ∙ take-suc calls at d h) in
    subst (λ z. ArePut z first new after) e (one_more (take at calls) (get_or calls at d) first old new before after a i)
