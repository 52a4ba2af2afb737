-- Places in lists, and the objects of a plan by their numbers.
use Rattle.std.proofs.Common.{◌≡◌, ◌≢◌, ◌∙◌, ap, refl, ℕ, zero, suc, ◌+◌, ◌<◌, Bool, true, false, cond, nat_eq, List, [], ◌∷◌, drop, Option, Some, None, IsTrue, ◌↔◌, arith}
use Rattle.std.specs.List.{slice_get}
use Rattle.std.specs.Str.{bytes_eq}
use Rattle.std.proofs.lemmas.Slice.Eq.{bytes_eq-Decides}
use Rattle.instance_plans.specs.declared.planned.Planned.{Planned}
use Rattle.instance_plans.specs.Numbers.{planned_at}
use Rattle.instancing.specs.Numbered.{AreNumbered}

pub same_turned : (a b : ℕ) → nat_eq a b ≡ nat_eq b a
same_turned a b = grind (arith)

pub same_self : (a : ℕ) → nat_eq a a ≡ true
same_self a = grind (arith)

pub others : (m n : ℕ) → m ≢ n → nat_eq m n ≡ false
others m n ne = grind (arith)

module _ {A : Type 0} where
  pub head_at : (k : ℕ) (xs rest : List A) (x : A) → drop k xs ≡ x ∷ rest → slice_get xs k ≡ Some x
  head_at zero [] rest x e = absurd (cc)
  head_at zero (y ∷ xs) rest x e = ap (λ (zs : List A). slice_get zs 0) e
  head_at (suc k) [] rest x e = absurd (cc)
  head_at (suc k) (y ∷ xs) rest x e = head_at k xs rest x e

  pub tail_at : (k : ℕ) (xs rest : List A) (x : A) → drop k xs ≡ x ∷ rest → drop (suc k) xs ≡ rest
  tail_at zero [] rest x e = absurd (cc)
  tail_at zero (y ∷ xs) rest x e = ap (λ (zs : List A). drop 1 zs) e
  tail_at (suc k) [] rest x e = absurd (cc)
  tail_at (suc k) (y ∷ xs) rest x e = tail_at k xs rest x e

found_when : (b : Bool) (x : Planned) (o : Option Planned) → b ≡ true → cond b (Some x) o ≡ Some x
found_when b x o e = rw e refl

passed_when : (b : Bool) (x : Planned) (o : Option Planned) → b ≡ false → cond b (Some x) o ≡ o
passed_when b x o e = rw e refl

pub none_before : (first n : ℕ) (xs : List Planned) → AreNumbered first xs → n < first → planned_at xs n ≡ None
none_before first n [] h less = refl
none_before first n (x ∷ xs) h less =
    let same = h.0 in
    passed_when (nat_eq x.number n) x (planned_at xs n) (others x.number n (λ e. absurd (omega arith))) ∙ none_before (suc first) n xs h.1 (omega arith)

pub at_place : (first n k : ℕ) (xs : List Planned) → AreNumbered first xs → n ≡ first + k → planned_at xs n ≡ slice_get xs k
at_place first n k [] h e = refl
at_place first n zero (x ∷ xs) h e =
    let same = h.0 in
    let is : x.number ≡ n = omega arith in
    found_when (nat_eq x.number n) x (planned_at xs n) (ap (λ m. nat_eq m n) is ∙ same_self n)
at_place first n (suc k) (x ∷ xs) h e =
    let same = h.0 in
    passed_when (nat_eq x.number n) x (planned_at xs n) (others x.number n (λ f. absurd (omega arith))) ∙ at_place (suc first) n k xs h.1 (omega arith)

pub same_bytes : (xs ys : List ℕ) (b : Bool) → (IsTrue b ↔ (xs ≡ ys)) → b ≡ bytes_eq xs ys
same_bytes xs ys b h = grind (arith, bytes_eq-Decides)
