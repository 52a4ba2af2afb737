-- Looking up an object among those that ascend: what stands on one side of a greater or a less one.
use Rattle.std.proofs.Common.{◌≡◌, ◌≢◌, refl, ap, ◌<◌, ◌≤◌, ℕ, nat_eq, Bool, true, false, cond, List, [], ◌∷◌, ◌++◌, Option, Some, None, arith}
use Rattle.instance_plans.specs.Numbers.{number_in}
use Rattle.instancing.specs.Ascending.{Ascends}

abbrev Pairs : Type 0
Pairs = List (ℕ × ℕ)

tail : (x : ℕ × ℕ) (xs : Pairs) → Ascends (x ∷ xs) → Ascends xs
tail x [] h = tt
tail x (y ∷ xs) h = h.1

pub ascends-behind : (front : Pairs) (x : ℕ × ℕ) (behind : Pairs) → Ascends (front ++ (x ∷ behind)) → Ascends behind
ascends-behind [] x behind h = tail x behind h
ascends-behind (y ∷ front) x behind h = ascends-behind front x behind (tail y (front ++ (x ∷ behind)) h)

pub ascends-front : (front : Pairs) (x : ℕ × ℕ) (behind : Pairs) → Ascends (front ++ (x ∷ behind)) → Ascends front
ascends-front [] x behind h = tt
ascends-front (y ∷ []) x behind h = tt
ascends-front (y ∷ z ∷ front) x behind h = (h.0, ascends-front (z ∷ front) x behind h.1)

differ : (m n : ℕ) → m ≢ n → nat_eq m n ≡ false
differ m n ne = grind (arith)

-- an object that isn't above the first is none of those behind it
below : (x : ℕ × ℕ) (xs : Pairs) (o : ℕ) → Ascends (x ∷ xs) → o ≤ x.0 → number_in xs o ≡ None
below x [] o h less = refl
below x (y ∷ xs) o h less = rw (differ y.0 o (λ e. absurd (let f : x.0 < y.0 = h.0 in omega arith)), below y xs o h.1 (let f : x.0 < y.0 = h.0 in omega arith)) refl

pub among-front : (front : Pairs) (x : ℕ × ℕ) (behind : Pairs) (o : ℕ) → Ascends (front ++ (x ∷ behind)) → o < x.0
    → number_in (front ++ (x ∷ behind)) o ≡ number_in front o
among-front [] x behind o h less = rw (differ x.0 o (λ e. absurd (omega arith)), below x behind o h (omega arith)) refl
among-front (y ∷ front) x behind o h less =
    ap (λ n. cond (nat_eq y.0 o) (Some y.1) n) (among-front front x behind o (tail y (front ++ (x ∷ behind)) h) less)

first-below : (y : ℕ × ℕ) (front : Pairs) (x : ℕ × ℕ) (behind : Pairs) → Ascends (y ∷ (front ++ (x ∷ behind))) → y.0 < x.0
first-below y [] x behind h = h.0
first-below y (z ∷ front) x behind h = let f : y.0 < z.0 = h.0 in let g = first-below z front x behind h.1 in omega arith

pub among-behind : (front : Pairs) (x : ℕ × ℕ) (behind : Pairs) (o : ℕ) → Ascends (front ++ (x ∷ behind)) → x.0 < o
    → number_in (front ++ (x ∷ behind)) o ≡ number_in behind o
among-behind [] x behind o h less = rw (differ x.0 o (λ e. absurd (omega arith))) refl
among-behind (y ∷ front) x behind o h less =
    rw (differ y.0 o (λ e. absurd (let f = first-below y front x behind h in omega arith))) (among-behind front x behind o (tail y (front ++ (x ∷ behind)) h) less)

pub among-here : (front : Pairs) (x : ℕ × ℕ) (behind : Pairs) (o : ℕ) → Ascends (front ++ (x ∷ behind)) → x.0 ≡ o → number_in (front ++ (x ∷ behind)) o ≡ Some x.1
among-here [] x behind o h e = rw (same x.0 o e) refl
  where
    same : (m n : ℕ) → m ≡ n → nat_eq m n ≡ true
    same m n e = grind (arith)
among-here (y ∷ front) x behind o h e =
    rw (differ y.0 o (λ d. absurd (let f = first-below y front x behind h in omega arith))) (among-here front x behind o (tail y (front ++ (x ∷ behind)) h) e)

pub more_ascend : (xs : Pairs) (x y : ℕ × ℕ) → Ascends (xs ++ x ∷ []) → x.0 < y.0 → Ascends (xs ++ x ∷ [] ++ y ∷ [])
more_ascend [] x y h less = (less, tt)
more_ascend (z ∷ []) x y h less = (h.0, (less, tt))
more_ascend (z ∷ w ∷ xs) x y h less = (h.0, more_ascend (w ∷ xs) x y h.1 less)
