-- Runs of characters of one class.
use Rattle.std.proofs.Common.{◌≡◌, ℕ, ◌≤◌, Bool, true, false, not, ◌&&◌, List, [], ◌∷◌, ◌++◌, length, refl, ap, arith, if◌then◌else◌}
use Rattle.std.specs.List.{list_all}
use Rattle.qml_lexer.specs.Characters.{begins, run, behind}

pub and_true : (a b : Bool) → (a && b) ≡ true → (a ≡ true) × (b ≡ true)
and_true true b h = (refl, h)
and_true false b h = cc

pub and_both : (a b : Bool) → a ≡ true → b ≡ true → (a && b) ≡ true
and_both a b h g = rw h g

pub and_false : (v : Bool) → (v && false) ≡ false
and_false true = refl
and_false false = refl

pub negated : (v : Bool) → not v ≡ true → v ≡ false
negated true h = cc
negated false h = refl

pub run_passes : (p : ℕ → Bool) (xs : List ℕ) → list_all p (run p xs) ≡ true
run_passes p [] = refl
run_passes p (x ∷ xs) = by (run_passes p xs) (p x) refl
  where
    by : list_all p (run p xs) ≡ true → (v : Bool) → p x ≡ v → list_all p (if v then x ∷ run p xs else []) ≡ true
    by r true h = rw h r
    by r false h = refl

pub behind_stops : (p : ℕ → Bool) (xs : List ℕ) → begins p (behind p xs) ≡ false
behind_stops p [] = refl
behind_stops p (x ∷ xs) = by (behind_stops p xs) (p x) refl
  where
    by : begins p (behind p xs) ≡ false → (v : Bool) → p x ≡ v → begins p (if v then behind p xs else x ∷ xs) ≡ false
    by r true h = r
    by r false h = h

pub run_over : (p : ℕ → Bool) (w rest : List ℕ) → list_all p w ≡ true → run p (w ++ rest) ≡ w ++ run p rest
run_over p [] rest h = refl
run_over p (x ∷ w) rest h =
    let t = and_true (p x) (list_all p w) h in
    let first : p x ≡ true = t.0 in
    rw first (ap (λ ys. x ∷ ys) (run_over p w rest t.1))

pub behind_over : (p : ℕ → Bool) (w rest : List ℕ) → list_all p w ≡ true → behind p (w ++ rest) ≡ behind p rest
behind_over p [] rest h = refl
behind_over p (x ∷ w) rest h =
    let t = and_true (p x) (list_all p w) h in
    let first : p x ≡ true = t.0 in
    rw first (behind_over p w rest t.1)

pub behind_short : (p : ℕ → Bool) (xs : List ℕ) → length (behind p xs) ≤ length xs
behind_short p [] = omega arith
behind_short p (x ∷ xs) = by (behind_short p xs) (p x)
  where
    by : length (behind p xs) ≤ length xs → (v : Bool) → length (if v then behind p xs else x ∷ xs) ≤ length (x ∷ xs)
    by r true = omega arith
    by r false = omega arith

-- where nothing was passed over, the run is empty
pub run_none : (p : ℕ → Bool) (xs : List ℕ) → length (behind p xs) ≡ length xs → run p xs ≡ []
run_none p [] h = refl
run_none p (x ∷ xs) h = by (p x) h
  where
    by : (v : Bool) → length (if v then behind p xs else x ∷ xs) ≡ length (x ∷ xs) → (if v then x ∷ run p xs else []) ≡ []
    by true g = absurd (omega (arith, behind_short p xs))
    by false g = refl

pub run_stopped : (p : ℕ → Bool) (xs : List ℕ) → begins p xs ≡ false → run p xs ≡ []
run_stopped p [] h = refl
run_stopped p (x ∷ xs) h = rw h refl

pub behind_stopped : (p : ℕ → Bool) (xs : List ℕ) → begins p xs ≡ false → behind p xs ≡ xs
behind_stopped p [] h = refl
behind_stopped p (x ∷ xs) h = rw h refl
