-- Where another value for a local goes.
use Rattle.std.proofs.Common.{◌≡◌, ◌∙◌, ap, sym, subst, refl, arith, ℕ, ◌+◌, ◌<◌, Bool as 𝔹, true, false, if◌then◌else◌, List, [], ◌∷◌, ◌++◌, length, take, drop, reverse, slice_set, slice_index_or, zero, suc, Some, None}
use Rattle.std.proofs.lemmas.List.{append_assoc, append-nil, length-append, reverse-append}
use Rattle.std.proofs.lemmas.Grind.{reverse_onto}
use Rattle.std.proofs.Math.Seq.{take-append_seam, drop-append_seam}
use Rattle.qml_value.specs.declared.value.Value.{Value}
use Rattle.js_locals.specs.declared.locals.Local.{Local}
use Rattle.js_locals.specs.Laid.{Laid}
use Rattle.js_locals.specs.Scopes.{named_by, given_value, put_by, given_first, given_at, Placed, Unplaced}

-- the latest of some locals stands before those that are older
last_on : (rest front : List Local) (l : Local) → reverse rest ++ (l ∷ reverse front) ≡ reverse (front ++ (l ∷ rest))
last_on rest front l =
    sym (append_assoc (reverse rest) (l ∷ []) (reverse front)) ∙ ap (λ z. z ++ reverse front) (sym (reverse_onto rest l [])) ∙ sym (reverse-append front (l ∷ rest))

turned : (left front : List Local) (l : Local) → left ≡ front ++ (l ∷ []) → reverse left ≡ l ∷ reverse front
turned left front l e = ap reverse e ∙ reverse-append front (l ∷ [])

whole_on : (left front rest ls : List Local) (l : Local) → left ≡ front ++ (l ∷ []) → left ++ rest ≡ ls → front ++ (l ∷ rest) ≡ ls
whole_on left front rest ls l e f = sym (append_assoc front (l ∷ []) rest) ∙ ap (λ z. z ++ rest) (sym e) ∙ f

pub unplaced_first : (c : Laid) (n : List ℕ) (ls : List Local) → Unplaced c n ls ls
unplaced_first c n ls = record { rest = []; whole = append-nil ls; put = λ w v. refl }

pub unplaced_on : (c : Laid) (n : List ℕ) (ls left front : List Local) (l : Local) → left ≡ front ++ (l ∷ []) → named_by c n l ≡ false → Unplaced c n ls left → Unplaced c n ls front
unplaced_on c n ls left front l e h u = record {
  rest = l ∷ u.rest;
  whole = whole_on left front u.rest ls l e u.whole;
  put =
      λ w v. u.put w v
      ∙ ap (λ z. reverse u.rest ++ put_by c n w v z) (turned left front l e)
      ∙ ap (λ (b : 𝔹). reverse u.rest ++ (if b then given_value w v l ∷ reverse front else l ∷ put_by c n w v (reverse front))) h
      ∙ sym (append_assoc (reverse u.rest) (l ∷ []) (put_by c n w v (reverse front)))
      ∙ ap (λ z. z ++ put_by c n w v (reverse front)) (sym (reverse_onto u.rest l []));
}

given_there : (w : 𝔹) (v : Value) (front rest : List Local) (l : Local) → given_at (length front) w v (front ++ (l ∷ rest)) ≡ front ++ (given_value w v l ∷ rest)
given_there w v front rest l =
    ap (λ z. z ++ given_first w v (drop (length front) (front ++ (l ∷ rest)))) (take-append_seam front (l ∷ rest))
    ∙ ap (λ z. front ++ given_first w v z) (drop-append_seam front (l ∷ rest))

stands_within : (front rest : List Local) (l : Local) → length front < length (front ++ (l ∷ rest))
stands_within front rest l = subst (λ z. length front < z) (sym (length-append front (l ∷ rest))) (omega arith)

pub placed_here : (c : Laid) (n : List ℕ) (ls left front : List Local) (l : Local) (i : ℕ)
    → left ≡ front ++ (l ∷ []) → named_by c n l ≡ true → i ≡ length front → Unplaced c n ls left → Placed c n ls (Some i)
placed_here c n ls left front l i e h k u =
    let whole : front ++ (l ∷ u.rest) ≡ ls = whole_on left front u.rest ls l e u.whole in
    record {
      there = subst (λ z. i < length z) whole (subst (λ z. z < length (front ++ (l ∷ u.rest))) (sym k) (stands_within front u.rest l));
      put =
          λ w v. u.put w v
          ∙ ap (λ z. reverse u.rest ++ put_by c n w v z) (turned left front l e)
          ∙ ap (λ (b : 𝔹). reverse u.rest ++ (if b then given_value w v l ∷ reverse front else l ∷ put_by c n w v (reverse front))) h
          ∙ last_on u.rest front (given_value w v l)
          ∙ ap reverse (sym (given_there w v front u.rest l))
          ∙ ap (λ z. reverse (given_at (length front) w v z)) whole
          ∙ ap (λ z. reverse (given_at z w v ls)) (sym k);
    }

pub placed_nowhere : (c : Laid) (n : List ℕ) (ls left : List Local) → left ≡ [] → Unplaced c n ls left → Placed c n ls None
placed_nowhere c n ls left e u =
    let whole : u.rest ≡ ls = ap (λ z. z ++ u.rest) (sym e) ∙ u.whole in
    record {
      there = tt;
      put = λ w v. u.put w v ∙ ap (λ z. reverse u.rest ++ put_by c n w v (reverse z)) e ∙ append-nil (reverse u.rest) ∙ ap reverse whole;
    }

pub put_at_place : (c : Laid) (n : List ℕ) (w : 𝔹) (v : Value) (xs ys : List Local) (i : ℕ) → Placed c n xs (Some i) → ys ≡ given_at i w v xs → reverse ys ≡ put_by c n w v (reverse xs)
put_at_place c n w v xs ys i p e = ap reverse e ∙ sym (p.put w v)

pub put_nowhere : (c : Laid) (n : List ℕ) (w : 𝔹) (v : Value) (xs : List Local) → Placed c n xs None → reverse xs ≡ put_by c n w v (reverse xs)
put_nowhere c n w v xs p = sym (p.put w v)

below_none : (i : ℕ) → i < 0 → ⊥
below_none i h = omega arith

-- what was taken out at a place and put back with another value
pub given_set : (xs : List Local) (i : ℕ) (s l y d : Local) (w : 𝔹) (v : Value) → i < length xs → l ≡ slice_index_or xs i d → y ≡ given_value w v l → slice_set (slice_set xs i s) i y ≡ given_at i w v xs
given_set [] i s l y d w v h e f = absurd (below_none i h)
given_set (x ∷ xs) zero s l y d w v h e f = ap (λ z. z ∷ xs) (f ∙ ap (λ z. given_value w v z) e)
given_set (x ∷ xs) (suc i) s l y d w v h e f = ap (λ z. x ∷ z) (given_set xs i s l y d w v (omega arith) e f)
