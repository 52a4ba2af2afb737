-- Pieces between the places of a separator.
use Rattle.std.proofs.Common.{◌≡◌, ◌∙◌, ap, sym, refl, subst, ℕ, zero, suc, ◌+◌, ◌-◌, ◌<◌, ◌≤◌, Bool as 𝔹, true, false, ◌&&◌, nat_eq, List, [], ◌∷◌, length, take, drop, map, Option, Some, None, MatchOption, if◌then◌else◌, arith}
use Rattle.std.specs.List.{take-map}
use Rattle.qml_value.specs.declared.value.Value.{Value, Text}
use Rattle.js_meaning.specs.Methods.{begins_with, found_part, found_from, glued, pieces, split_of}

-- leaving units out is going on behind them
skipped : (by : List ℕ) (k : ℕ) (us : List ℕ) → pieces by k us ≡ pieces by 0 (drop k us)
skipped by zero us = refl
skipped by (suc k) [] = refl
skipped by (suc k) (u ∷ us) = skipped by k us

fits : (p us : List ℕ) → begins_with p us ≡ true → length p ≤ length us
fits [] us e = omega arith
fits (p ∷ ps) [] e = absurd (cc)
fits (p ∷ ps) (u ∷ us) e = let h : length ps ≤ length us = fits ps us (both (nat_eq p u) (begins_with ps us) e) in omega arith
  where
    both : (a b : 𝔹) → (a && b) ≡ true → b ≡ true
    both true b e = e
    both false b e = absurd (cc)

-- a separator k units behind the start
pub record Cuts (by us : List ℕ) (k : ℕ) : Type 0 where
  pub within : k + length by ≤ length us
  pub are : pieces by 0 us ≡ take k us ∷ pieces by 0 (drop (k + length by) us)

here : (b : ℕ) (bs : List ℕ) (u : ℕ) (us : List ℕ) → begins_with (b ∷ bs) (u ∷ us) ≡ true → Cuts (b ∷ bs) (u ∷ us) 0
here b bs u us e = record {
  within = let h : length (b ∷ bs) ≤ length (u ∷ us) = fits (b ∷ bs) (u ∷ us) e in omega arith;
  are =
      let left : length (b ∷ bs) - 1 ≡ length bs = omega arith in
      let gone : 0 + length (b ∷ bs) ≡ suc (length bs) = omega arith in
      rw (e, left, gone) (ap (λ z. [] ∷ z) (skipped (b ∷ bs) (length bs) us));
}

one_on : (b : ℕ) (bs : List ℕ) (u : ℕ) (us : List ℕ) (k : ℕ) → begins_with (b ∷ bs) (u ∷ us) ≡ false → Cuts (b ∷ bs) us k → Cuts (b ∷ bs) (u ∷ us) (suc k)
one_on b bs u us k e c = record {
  within = let h : k + length (b ∷ bs) ≤ length us = c.within in omega arith;
  are = let gone : suc k + length (b ∷ bs) ≡ suc (k + length (b ∷ bs)) = omega arith in rw (e, gone) (ap (λ z. glued u z) c.are);
}

-- the place is counted from where the search began
pub record Found (by us : List ℕ) (from at : ℕ) : Type 0 where
  pub place : ℕ
  pub counted : at ≡ from + place
  pub cuts : Cuts by us place

found_by : (x : 𝔹) (b : ℕ) (bs : List ℕ) (u : ℕ) (us : List ℕ) (from at : ℕ) → begins_with (b ∷ bs) (u ∷ us) ≡ x
    → (if x then Some from else found_part (b ∷ bs) us (from + 1)) ≡ Some at
    → (found_part (b ∷ bs) us (from + 1) ≡ Some at → Found (b ∷ bs) us (from + 1) at) → Found (b ∷ bs) (u ∷ us) from at
found_by true b bs u us from at e f more = record { place = 0; counted = let g : from ≡ at = cc in omega arith; cuts = here b bs u us e }
found_by false b bs u us from at e f more =
    let m = more f in
    record { place = suc m.place; counted = let h : at ≡ from + 1 + m.place = m.counted in omega arith; cuts = one_on b bs u us m.place e m.cuts }

found : (b : ℕ) (bs us : List ℕ) (from at : ℕ) → found_part (b ∷ bs) us from ≡ Some at → Found (b ∷ bs) us from at
found b bs [] from at e = absurd (cc)
found b bs (u ∷ us) from at e = found_by (begins_with (b ∷ bs) (u ∷ us)) b bs u us from at refl e (found b bs us (from + 1) at)

missed_by : (x : 𝔹) (b : ℕ) (bs : List ℕ) (u : ℕ) (us : List ℕ) (from : ℕ) → begins_with (b ∷ bs) (u ∷ us) ≡ x
    → (if x then Some from else found_part (b ∷ bs) us (from + 1)) ≡ None
    → (found_part (b ∷ bs) us (from + 1) ≡ None → pieces (b ∷ bs) 0 us ≡ us ∷ []) → pieces (b ∷ bs) 0 (u ∷ us) ≡ (u ∷ us) ∷ []
missed_by true b bs u us from e f more = absurd (cc)
missed_by false b bs u us from e f more = rw e (ap (λ z. glued u z) (more f))

missed : (b : ℕ) (bs us : List ℕ) (from : ℕ) → found_part (b ∷ bs) us from ≡ None → pieces (b ∷ bs) 0 us ≡ us ∷ []
missed b bs [] from e = refl
missed b bs (u ∷ us) from e = missed_by (begins_with (b ∷ bs) (u ∷ us)) b bs u us from refl e (missed b bs us (from + 1))

cut : (b : ℕ) (bs us : List ℕ) (at : ℕ) → found_part (b ∷ bs) us 0 ≡ Some at → Cuts (b ∷ bs) us at
cut b bs us at e = let f = found b bs us 0 at e in subst (λ (k : ℕ). Cuts (b ∷ bs) us k) (let h : at ≡ 0 + f.place = f.counted in omega arith) f.cuts

pub within : (by us : List ℕ) (o : Option ℕ) → 0 < length by → o ≡ found_from by us 0 → MatchOption o (Unit {0}) (λ k. k + length by ≤ length us)
within [] us o h e = absurd (omega arith)
within (b ∷ bs) us None h e = tt
within (b ∷ bs) us (Some k) h e = (cut b bs us k (sym e)).within

pub are : (by us : List ℕ) (o : Option ℕ) → 0 < length by → o ≡ found_from by us 0
    → MatchOption o (pieces by 0 us ≡ us ∷ []) (λ k. pieces by 0 us ≡ take k us ∷ pieces by 0 (drop (k + length by) us))
are [] us o h e = absurd (omega arith)
are (b ∷ bs) us None h e = missed b bs us 0 (sym e)
are (b ∷ bs) us (Some k) h e = (cut b bs us k (sym e)).are

-- ---- all parts

pub split_at_nothing : (by us : List ℕ) → by ≡ [] → map (λ u. u ∷ []) us ≡ split_of by us
split_at_nothing [] us e = refl
split_at_nothing (b ∷ bs) us e = absurd (cc)

pub split_at_units : (by us : List ℕ) → ¬ (by ≡ []) → pieces by 0 us ≡ split_of by us
split_at_units [] us e = absurd (e refl)
split_at_units (b ∷ bs) us e = refl

pub some_units : (by : List ℕ) → ¬ (by ≡ []) → 0 < length by
some_units [] e = absurd (e refl)
some_units (b ∷ bs) e = omega arith

-- so many of them, as values
pub first_values : (n : ℕ) (texts : List (List ℕ)) (values : List Value) → values ≡ map Text texts → take n values ≡ map Text (take n texts)
first_values n texts values e = ap (λ z. take n z) e ∙ take-map Text n texts
