-- Which cells change.
use Rattle.std.proofs.Common.{rules, Bool, true, false, if◌then◌else◌, add-zero, zero-add, add-one, ◌≡◌, ◌≢◌, ◌∙◌, sym, refl, ℕ, zero, suc, ◌+◌, ◌<◌, ◌≤◌, ℤ, List, [], ◌∷◌, length, slice_index, slice_index_or, get_or, Contains, arith}
use Rattle.std.proofs.lemmas.List.Elements.{Contains-get_or}
use Rattle.std.proofs.lemmas.Bool.Decides.{Decides-int_eq}
use Rattle.std.specs.List.Sorted.{IsStrictlyIncreasing}
use Rattle.std.specs.Ordering.{int_eq}
use Rattle.qml_model.specs.Settling.{changed, changed_from, Differs}

int_eq_same : (x : ℤ) → int_eq x x ≡ true
int_eq_same x = search (rules, Decides-int_eq)

int_eq_is : (x y : ℤ) → int_eq x y ≡ true → x ≡ y
int_eq_is x y e = search (rules, Decides-int_eq)

int_eq_not : (x y : ℤ) → x ≢ y → int_eq x y ≡ false
int_eq_not x y h = by_test (int_eq x y) refl
  where
    by_test : (b : Bool) → int_eq x y ≡ b → int_eq x y ≡ false
    by_test true e = absurd (h (int_eq_is x y e))
    by_test false e = e

unchanged_from : (c : ℕ) (xs : List ℤ) → changed_from c xs xs ≡ []
unchanged_from c [] = refl
unchanged_from c (x ∷ xs) = rw int_eq_same (unchanged_from (suc c) xs)

pub unchanged : (xs : List ℤ) → changed xs xs ≡ []
unchanged xs = unchanged_from 0 xs

-- ---- whatever differs is listed
kept : (b : Bool) (c d : ℕ) (rest : List ℕ) → Contains rest d → Contains (if b then rest else c ∷ rest) d
kept true c d rest h = h
kept false c d rest h = (suc h.0, omega (arith, h.1), h.2)

listed_from : (c : ℕ) (old new : List ℤ) (k : ℕ) → Differs old new k → Contains (changed_from c old new) (k + c)
listed_from c [] new k h = let none = h.was in cc
listed_from c (x ∷ old) [] k h = let none = h.is in cc
listed_from c (x ∷ old) (y ∷ new) zero h =
    let was = h.was in
    let is = h.is in
    let first : x ≡ h.before = cc in
    let second : y ≡ h.after = cc in
    let differ : int_eq x y ≡ false = rw (first, second) (int_eq_not h.before h.after h.other) in
    rw (differ, zero-add) (0, omega arith, refl)
listed_from c (x ∷ old) (y ∷ new) (suc k) h =
    let at : k + suc c ≡ suc k + c = omega arith in
    let later : Contains (changed_from (suc c) old new) (suc k + c) = rw at at (listed_from (suc c) old new k (record { before = h.before; after = h.after; was = h.was; is = h.is; other = h.other })) in
    kept (int_eq x y) c (suc k + c) (changed_from (suc c) old new) later

-- ---- whatever is listed differs
abbrev IsListed : ℕ → List ℤ → List ℤ → ℕ → Type 0
IsListed c old new d = (k : ℕ) × (d ≡ k + c) × Differs old new k

one_later : (c d : ℕ) (x y : ℤ) (old new : List ℤ) → IsListed (suc c) old new d → IsListed c (x ∷ old) (y ∷ new) d
one_later c d x y old new h = (suc h.0, omega (arith, h.1), record { before = h.2.before; after = h.2.after; was = h.2.was; is = h.2.is; other = h.2.other })

only_from : (c : ℕ) (old new : List ℤ) (d : ℕ) → Contains (changed_from c old new) d → IsListed c old new d
only_from c [] new d h = absurd (omega (arith, h.1))
only_from c (x ∷ old) [] d h = absurd (omega (arith, h.1))
only_from c (x ∷ old) (y ∷ new) d h = by_test (only_from (suc c) old new d) (int_eq x y) refl h
  where
    here_or_later : (Contains (changed_from (suc c) old new) d → IsListed (suc c) old new d) → int_eq x y ≡ false → (k : ℕ) → k < length (c ∷ changed_from (suc c) old new) → slice_index_or (c ∷ changed_from (suc c) old new) k d ≡ d → IsListed c (x ∷ old) (y ∷ new) d
    here_or_later go_on e zero lt is =
        let other : x ≢ y = λ same. absurd (let also : int_eq x y ≡ true = rw same (int_eq_same y) in cc) in
        (0, sym is ∙ sym (zero-add c), record { before = x; after = y; was = refl; is = refl; other = other })
    here_or_later go_on e (suc k) lt is = one_later c d x y old new (go_on (k, omega arith, is))

    by_test : (Contains (changed_from (suc c) old new) d → IsListed (suc c) old new d) → (b : Bool) → int_eq x y ≡ b → Contains (if b then changed_from (suc c) old new else c ∷ changed_from (suc c) old new) d → IsListed c (x ∷ old) (y ∷ new) d
    by_test go_on true e h = one_later c d x y old new (go_on h)
    by_test go_on false e h = here_or_later go_on e h.0 h.1 h.2

pub listed : (old new : List ℤ) (c : ℕ) → Differs old new c → Contains (changed old new) c
listed old new c h = rw add-zero at (listed_from 0 old new c h)

pub only_listed : (old new : List ℤ) (c : ℕ) → Contains (changed old new) c → Differs old new c
only_listed old new c h =
    let found = only_from 0 old new c h in
    let at : c ≡ found.0 = omega (arith, found.1) in
    rw at found.2

-- ---- in ascending order
not_below : (c : ℕ) (old new : List ℤ) (j : ℕ) → j < length (changed_from c old new) → c ≤ slice_index (changed_from c old new) j
not_below c old new j h =
    let found = only_from c old new (get_or (changed_from c old new) j 0) (Contains-get_or (changed_from c old new) j 0 h) in
    omega (arith, found.1)

onto : (c : ℕ) (rest : List ℕ) → ((j : ℕ) → j < length rest → suc c ≤ slice_index rest j) → IsStrictlyIncreasing rest → IsStrictlyIncreasing (c ∷ rest)
onto c rest above rises zero h = omega (arith, above 0 (omega arith))
onto c rest above rises (suc k) h = rw add-one (rw add-one at (rises k (omega arith)))

rises_from : (c : ℕ) (old new : List ℤ) → IsStrictlyIncreasing (changed_from c old new)
rises_from c [] new k h = absurd (omega arith)
rises_from c (x ∷ old) [] k h = absurd (omega arith)
rises_from c (x ∷ old) (y ∷ new) k h = by_test (rises_from (suc c) old new) (not_below (suc c) old new) (int_eq x y) k h
  where
    by_test : IsStrictlyIncreasing (changed_from (suc c) old new) → ((j : ℕ) → j < length (changed_from (suc c) old new) → suc c ≤ slice_index (changed_from (suc c) old new) j) → (b : Bool) → IsStrictlyIncreasing (if b then changed_from (suc c) old new else c ∷ changed_from (suc c) old new)
    by_test rises above true = rises
    by_test rises above false = onto c (changed_from (suc c) old new) above rises

pub ascends : (old new : List ℤ) → IsStrictlyIncreasing (changed old new)
ascends old new = rises_from 0 old new
