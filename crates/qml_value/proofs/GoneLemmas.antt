-- Looking up a number among those that ascend: what stands on one side of a greater or a less one.
use Rattle.std.proofs.Common.{◌≡◌, ◌≢◌, refl, ap, ◌<◌, ◌≤◌, ◌||◌, ℕ, nat_eq, Bool, true, false, List, [], ◌∷◌, ◌++◌, arith}
use Rattle.qml_base.specs.declared.numbers.ObjNo.{ObjNo}
use Rattle.qml_value.specs.Scrubbing.{is_among, Ascends}

tail : (o : ObjNo) (xs : List ObjNo) → Ascends (o ∷ xs) → Ascends xs
tail o [] h = tt
tail o (x ∷ xs) h = h.1

pub ascends-behind : (front : List ObjNo) (o : ObjNo) (behind : List ObjNo) → Ascends (front ++ (o ∷ behind)) → Ascends behind
ascends-behind [] o behind h = tail o behind h
ascends-behind (x ∷ front) o behind h = ascends-behind front o behind (tail x (front ++ (o ∷ behind)) h)

pub ascends-front : (front : List ObjNo) (o : ObjNo) (behind : List ObjNo) → Ascends (front ++ (o ∷ behind)) → Ascends front
ascends-front [] o behind h = tt
ascends-front (x ∷ []) o behind h = tt
ascends-front (x ∷ y ∷ front) o behind h = (h.0, ascends-front (y ∷ front) o behind h.1)

differ : (m n : ℕ) → m ≢ n → nat_eq m n ≡ false
differ m n ne = grind (arith)

-- a number below the first is none of them
below : (o : ObjNo) (xs : List ObjNo) (n : ObjNo) → Ascends (o ∷ xs) → n.0 ≤ o.0 → is_among xs n ≡ false
below o [] n h less = refl
below o (x ∷ xs) n h less = rw (differ x.0 n.0 (λ e. absurd (let f : o.0 < x.0 = h.0 in omega arith)), below x xs n h.1 (let f : o.0 < x.0 = h.0 in omega arith)) refl

pub among-front : (front : List ObjNo) (o : ObjNo) (behind : List ObjNo) (n : ObjNo) → Ascends (front ++ (o ∷ behind)) → n.0 < o.0
    → is_among (front ++ (o ∷ behind)) n ≡ is_among front n
among-front [] o behind n h less = rw (differ o.0 n.0 (λ e. absurd (omega arith)), below o behind n h (omega arith)) refl
among-front (x ∷ front) o behind n h less =
    ap (λ b. nat_eq x.0 n.0 || b) (among-front front o behind n (tail x (front ++ (o ∷ behind)) h) less)

first-below : (x : ObjNo) (front : List ObjNo) (o : ObjNo) (behind : List ObjNo) → Ascends (x ∷ (front ++ (o ∷ behind))) → x.0 < o.0
first-below x [] o behind h = h.0
first-below x (y ∷ front) o behind h = let f : x.0 < y.0 = h.0 in let g = first-below y front o behind h.1 in omega arith

pub among-behind : (front : List ObjNo) (o : ObjNo) (behind : List ObjNo) (n : ObjNo) → Ascends (front ++ (o ∷ behind)) → o.0 < n.0
    → is_among (front ++ (o ∷ behind)) n ≡ is_among behind n
among-behind [] o behind n h less = rw (differ o.0 n.0 (λ e. absurd (omega arith))) refl
among-behind (x ∷ front) o behind n h less =
    rw (differ x.0 n.0 (λ e. absurd (let f = first-below x front o behind h in omega arith))) (among-behind front o behind n (tail x (front ++ (o ∷ behind)) h) less)

pub among-here : (front : List ObjNo) (o : ObjNo) (behind : List ObjNo) (n : ObjNo) → nat_eq o.0 n.0 ≡ true → is_among (front ++ (o ∷ behind)) n ≡ true
among-here [] o behind n e = rw e refl
among-here (x ∷ front) o behind n e = rw (among-here front o behind n e) (or-true (nat_eq x.0 n.0))
  where
    or-true : (b : Bool) → (b || true) ≡ true
    or-true true = refl
    or-true false = refl

pub strictly : (m n : ℕ) → nat_eq m n ≡ false → m ≤ n → m < n
strictly m n ne least = grind (arith)
