-- Elements of lists, from the front.
use Rattle.std.proofs.Common.{◌≡◌, ℕ, zero, suc, ◌<◌, arith, inl, inr, List, [], ◌∷◌, ◌++◌, length}
use Rattle.std.specs.Prelude.{◌⊎◌, Contains, slice_index_or}

abbrev pub Has : {A : Type 0} → List A → A → Type 0
Has [] x = ⊥
Has (y ∷ ys) x = (y ≡ x) ⊎ Has ys x

has_at : {A : Type 0} (xs : List A) (x : A) (k : ℕ) → k < length xs → slice_index_or xs k x ≡ x → Has xs x
has_at [] x k below e = absurd (omega arith)
has_at (y ∷ ys) x zero below e = inl e
has_at (y ∷ ys) x (suc k) below e = inr (has_at ys x k (omega arith) e)

pub to_has : {A : Type 0} (xs : List A) (x : A) → Contains xs x → Has xs x
to_has xs x c = has_at xs x c.0 c.1 c.2

pub from_has : {A : Type 0} (xs : List A) (x : A) → Has xs x → Contains xs x
from_has [] x h = absurd h
from_has (y ∷ ys) x (inl e) = (0, omega arith, e)
from_has (y ∷ ys) x (inr h) = let c : Contains ys x = from_has ys x h in (suc c.0, omega arith, c.2)

pub has_front : {A : Type 0} (xs ys : List A) (x : A) → Has xs x → Has (xs ++ ys) x
has_front [] ys x h = absurd h
has_front (y ∷ xs) ys x (inl e) = inl e
has_front (y ∷ xs) ys x (inr h) = inr (has_front xs ys x h)

pub has_back : {A : Type 0} (xs ys : List A) (x : A) → Has ys x → Has (xs ++ ys) x
has_back [] ys x h = h
has_back (y ∷ xs) ys x h = inr (has_back xs ys x h)

one_more : {A : Type 0} (y : A) (xs ys : List A) (x : A) → Has xs x ⊎ Has ys x → Has (y ∷ xs) x ⊎ Has ys x
one_more y xs ys x (inl k) = inl (inr k)
one_more y xs ys x (inr k) = inr k

pub has_either : {A : Type 0} (xs ys : List A) (x : A) → Has (xs ++ ys) x → Has xs x ⊎ Has ys x
has_either [] ys x h = inr h
has_either (y ∷ xs) ys x (inl e) = inl (inl e)
has_either (y ∷ xs) ys x (inr h) = one_more y xs ys x (has_either xs ys x h)
