-- What things with a key tell, each by those of its own key that stand before it, may be told key by key.
use Rattle.std.proofs.Common.{◌≡◌, ◌∙◌, ap, sym, refl, ℕ, zero, suc, ◌+◌, ◌<◌, ◌≤◌, arith, Bool, true, false, nat_eq, if◌then◌else◌, List, [], ◌∷◌, ◌++◌, Option}
use Rattle.std.proofs.lemmas.Bool.Decides.{nat_tests}
use Rattle.std.proofs.lemmas.List.{append_assoc}
use Rattle.program_names.specs.declared.fault.Fault.{Fault}
use Rattle.load_faults.specs.Faults.{Faults, first_from}
use Rattle.load_faults.proofs.FirstLemmas.{first_from-append, any_order}

-- what they tell one after another, the latest of those before in front
abbrev pub told : {X : Type 0} → (List X → X → Faults) → List X → List X → Faults
told f seen [] = []
told f seen (x ∷ rest) = f seen x ++ told f (x ∷ seen) rest

-- those of a key
abbrev pub of_key : {X : Type 0} → (X → ℕ) → ℕ → List X → List X
of_key key k [] = []
of_key key k (x ∷ rest) = if nat_eq (key x) k then x ∷ of_key key k rest else of_key key k rest

-- the same for each of n keys from k on
abbrev pub by_key : {X : Type 0} → (X → ℕ) → (List X → X → Faults) → List X → List X → ℕ → ℕ → Faults
by_key key f seen xs k zero = []
by_key key f seen xs k (suc n) = told f seen (of_key key k xs) ++ by_key key f seen xs (suc k) n

-- what one tells goes by none of another key
abbrev pub Apart : {X : Type 0} → (X → ℕ) → (List X → X → Faults) → Type 0
Apart {X} key f = (x y : X) (latest seen : List X) → nat_eq (key y) (key x) ≡ false → f (latest ++ x ∷ seen) y ≡ f (latest ++ seen) y

abbrev Others : {X : Type 0} → (X → ℕ) → X → List X → Type 0
Others key x [] = Unit {0}
Others key x (y ∷ ys) = (nat_eq (key y) (key x) ≡ false) × Others key x ys

abbrev Below : {X : Type 0} → (X → ℕ) → ℕ → List X → Type 0
Below key n [] = Unit {0}
Below key n (x ∷ xs) = (key x < n) × Below key n xs

-- ---- numbers

differs : (a b k : ℕ) → nat_eq a k ≡ true → nat_eq b k ≡ false → nat_eq a b ≡ false
differs a b k e h = grind (arith, nat_tests)

lower : (a k : ℕ) → a < k → nat_eq a k ≡ false
lower a k h = grind (arith, nat_tests)

is_key : (a k : ℕ) → nat_eq a k ≡ true → a < suc k
is_key a k h = grind (arith, nat_tests)

not_key : (a k : ℕ) → nat_eq a k ≡ false → k ≤ a → suc k ≤ a
not_key a k h l = grind (arith, nat_tests)

further : (a k n : ℕ) → a < k + suc n → a < suc k + n
further a k n h = omega arith

up : (a k : ℕ) → a < k → a < suc k
up a k h = omega arith

-- ---- one that is passed

skip : {X : Type 0} (key : X → ℕ) (f : List X → X → Faults) → Apart key f → (x : X) (latest seen ys : List X) → Others key x ys
    → told f (latest ++ x ∷ seen) ys ≡ told f (latest ++ seen) ys
skip key f s x latest seen [] h = refl
skip key f s x latest seen (y ∷ ys) h =
    ap (λ t. t ++ told f (y ∷ (latest ++ x ∷ seen)) ys) (s x y latest seen h.0) ∙
    ap (λ t. f (latest ++ seen) y ++ t) (skip key f s x (y ∷ latest) seen ys h.1)

others : {X : Type 0} (key : X → ℕ) (x : X) (k : ℕ) → nat_eq (key x) k ≡ false → (ys : List X) → Others key x (of_key key k ys)
others key x k h [] = tt
others {X} key x k h (y ∷ ys) = by_test (others key x k h ys) (nat_eq (key y) k) refl
  where
    by_test : Others key x (of_key key k ys) → (b : Bool) → nat_eq (key y) k ≡ b → Others key x (if b then y ∷ of_key key k ys else of_key key k ys)
    by_test rest true e = (differs (key y) (key x) k e h, rest)
    by_test rest false e = rest

without : {X : Type 0} (key : X → ℕ) (x : X) (k : ℕ) (xs : List X) → nat_eq (key x) k ≡ false → of_key key k (x ∷ xs) ≡ of_key key k xs
without key x k xs h = ap (λ b. if b then x ∷ of_key key k xs else of_key key k xs) h

passed : {X : Type 0} (key : X → ℕ) (f : List X → X → Faults) → Apart key f → (x : X) (seen xs : List X) (k n : ℕ) → key x < k
    → by_key key f (x ∷ seen) xs k n ≡ by_key key f seen (x ∷ xs) k n
passed key f s x seen xs k zero h = refl
passed key f s x seen xs k (suc n) h =
    let e : nat_eq (key x) k ≡ false = lower (key x) k h in
    ap (λ t. t ++ by_key key f (x ∷ seen) xs (suc k) n) (skip key f s x [] seen (of_key key k xs) (others key x k e xs) ∙ ap (told f seen) (sym (without key x k xs e))) ∙
    ap (λ t. told f seen (of_key key k (x ∷ xs)) ++ t) (passed key f s x seen xs (suc k) n (up (key x) k h))

-- ---- one that is put in

moved : (kept : Option Fault) (a t b : Faults) → first_from kept (a ++ (t ++ b)) ≡ first_from kept (t ++ (a ++ b))
moved kept a t b =
    ap (first_from kept) (sym (append_assoc a t b)) ∙ first_from-append kept (a ++ t) b ∙ ap (λ k. first_from k b) (any_order kept a t) ∙
    sym (first_from-append kept (t ++ a) b) ∙ ap (first_from kept) (append_assoc t a b)

put_in : {X : Type 0} (key : X → ℕ) (f : List X → X → Faults) → Apart key f → (x : X) (seen xs : List X) (k n : ℕ) → k ≤ key x → key x < k + n → (kept : Option Fault)
    → first_from kept (f seen x ++ by_key key f (x ∷ seen) xs k n) ≡ first_from kept (by_key key f seen (x ∷ xs) k n)
put_in key f s x seen xs k zero low high kept = absurd (omega arith)
put_in {X} key f s x seen xs k (suc n) low high kept =
    by_test (λ l h kept. put_in key f s x seen xs (suc k) n l h kept) (nat_eq (key x) k) refl
  where
    by_test : (suc k ≤ key x → key x < suc k + n → (kept : Option Fault) → first_from kept (f seen x ++ by_key key f (x ∷ seen) xs (suc k) n) ≡ first_from kept (by_key key f seen (x ∷ xs) (suc k) n))
        → (b : Bool) → nat_eq (key x) k ≡ b
        → first_from kept (f seen x ++ (told f (x ∷ seen) (of_key key k xs) ++ by_key key f (x ∷ seen) xs (suc k) n)) ≡
        first_from kept (told f seen (if b then x ∷ of_key key k xs else of_key key k xs) ++ by_key key f seen (x ∷ xs) (suc k) n)
    by_test go_on true e =
        ap (first_from kept) (sym (append_assoc (f seen x) (told f (x ∷ seen) (of_key key k xs)) (by_key key f (x ∷ seen) xs (suc k) n)) ∙
        ap (λ t. (f seen x ++ told f (x ∷ seen) (of_key key k xs)) ++ t) (passed key f s x seen xs (suc k) n (is_key (key x) k e)))
    by_test go_on false e =
        moved kept (f seen x) (told f (x ∷ seen) (of_key key k xs)) (by_key key f (x ∷ seen) xs (suc k) n) ∙
        ap (λ t. first_from kept (t ++ (f seen x ++ by_key key f (x ∷ seen) xs (suc k) n))) (skip key f s x [] seen (of_key key k xs) (others key x k e xs)) ∙
        first_from-append kept (told f seen (of_key key k xs)) (f seen x ++ by_key key f (x ∷ seen) xs (suc k) n) ∙
        go_on (not_key (key x) k e low) (further (key x) k n high) (first_from kept (told f seen (of_key key k xs))) ∙
        sym (first_from-append kept (told f seen (of_key key k xs)) (by_key key f seen (x ∷ xs) (suc k) n))

nothing : {X : Type 0} (key : X → ℕ) (f : List X → X → Faults) (seen : List X) (k n : ℕ) → by_key key f seen [] k n ≡ []
nothing key f seen k zero = refl
nothing key f seen k (suc n) = nothing key f seen (suc k) n

from_none : (a : ℕ) → 0 ≤ a
from_none a = omega arith

below_sum : (a n : ℕ) → a < n → a < 0 + n
below_sum a n h = omega arith

grouped : {X : Type 0} (key : X → ℕ) (f : List X → X → Faults) → Apart key f → (n : ℕ) (seen xs : List X) → Below key n xs → (kept : Option Fault)
    → first_from kept (told f seen xs) ≡ first_from kept (by_key key f seen xs 0 n)
grouped key f s n seen [] h kept = ap (first_from kept) (sym (nothing key f seen 0 n))
grouped key f s n seen (x ∷ xs) h kept =
    first_from-append kept (f seen x) (told f (x ∷ seen) xs) ∙ grouped key f s n (x ∷ seen) xs h.1 (first_from kept (f seen x)) ∙
    sym (first_from-append kept (f seen x) (by_key key f (x ∷ seen) xs 0 n)) ∙
    put_in key f s x seen xs 0 n (from_none (key x)) (below_sum (key x) n h.0) kept

-- ---- two orders

abbrev bound : {X : Type 0} → (X → ℕ) → List X → ℕ
bound key [] = 0
bound key (x ∷ xs) = suc (key x + bound key xs)

higher : (a m n : ℕ) → a < m → m ≤ n → a < n
higher a m n h l = omega arith

below_more : {X : Type 0} (key : X → ℕ) (m n : ℕ) (xs : List X) → Below key m xs → m ≤ n → Below key n xs
below_more key m n [] h l = tt
below_more key m n (x ∷ xs) h l = (higher (key x) m n h.0 l, below_more key m n xs h.1 l)

own_sum : (a b : ℕ) → a < suc (a + b)
own_sum a b = omega arith

rest_sum : (a b : ℕ) → b ≤ suc (a + b)
rest_sum a b = omega arith

bounded : {X : Type 0} (key : X → ℕ) (xs : List X) → Below key (bound key xs) xs
bounded key [] = tt
bounded key (x ∷ xs) = (own_sum (key x) (bound key xs), below_more key (bound key xs) (suc (key x + bound key xs)) xs (bounded key xs) (rest_sum (key x) (bound key xs)))

left_sum : (a b : ℕ) → a ≤ a + b
left_sum a b = omega arith

right_sum : (a b : ℕ) → b ≤ a + b
right_sum a b = omega arith

same_keys : {X : Type 0} (key : X → ℕ) (f : List X → X → Faults) (xs ys : List X) → ((k : ℕ) → of_key key k xs ≡ of_key key k ys) → (k n : ℕ)
    → by_key key f [] xs k n ≡ by_key key f [] ys k n
same_keys key f xs ys same k zero = refl
same_keys key f xs ys same k (suc n) =
    ap (λ zs. told f [] zs ++ by_key key f [] xs (suc k) n) (same k) ∙ ap (λ t. told f [] (of_key key k ys) ++ t) (same_keys key f xs ys same (suc k) n)

-- in two orders in which those of each key stand alike, the first fault is the same
pub alike : {X : Type 0} (key : X → ℕ) (f : List X → X → Faults) → Apart key f → (xs ys : List X) → ((k : ℕ) → of_key key k xs ≡ of_key key k ys) → (kept : Option Fault)
    → first_from kept (told f [] xs) ≡ first_from kept (told f [] ys)
alike key f s xs ys same kept =
    let n : ℕ = bound key xs + bound key ys in
    grouped key f s n [] xs (below_more key (bound key xs) n xs (bounded key xs) (left_sum (bound key xs) (bound key ys))) kept ∙
    ap (first_from kept) (same_keys key f xs ys same 0 n) ∙
    sym (grouped key f s n [] ys (below_more key (bound key ys) n ys (bounded key ys) (right_sum (bound key xs) (bound key ys))) kept)
