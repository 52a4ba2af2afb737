-- The front and the back of a list at one of its objects.
use Rattle.std.proofs.Common.{◌≡◌, ap, refl, ℕ, zero, suc, ◌<◌, ◌≤◌, List, [], ◌∷◌, ◌++◌, length, slice_get, slice_set, take, drop, arith}
use Rattle.std.specs.declared.option.Option.TheVariants.{Some}
use Rattle.tree_model.specs.declared.cells.Object.{Object}

pub take_set : (xs : List Object) (i : ℕ) (m : Object) → i < length xs → take (suc i) (slice_set xs i m) ≡ take i xs ++ m ∷ []
take_set [] i m h = absurd (omega arith)
take_set (x ∷ xs) zero m h = refl
take_set (x ∷ xs) (suc i) m h = ap (λ ys. x ∷ ys) (take_set xs i m (omega arith))

pub drop_set : (xs : List Object) (i : ℕ) (m : Object) → drop (suc i) (slice_set xs i m) ≡ drop (suc i) xs
drop_set [] i m = refl
drop_set (x ∷ xs) zero m = refl
drop_set (x ∷ xs) (suc i) m = drop_set xs i m

pub drop_first : (xs : List Object) (i : ℕ) → i < length xs → (x : Object) × ((slice_get xs i ≡ Some x) × (drop i xs ≡ x ∷ drop (suc i) xs))
drop_first [] i h = absurd (omega arith)
drop_first (x ∷ xs) zero h = (x, (refl, refl))
drop_first (x ∷ xs) (suc i) h = drop_first xs i (omega arith)

pub take_all : (xs : List Object) (i : ℕ) → length xs ≤ i → take i xs ≡ xs
take_all [] zero h = refl
take_all [] (suc i) h = refl
take_all (x ∷ xs) zero h = absurd (omega arith)
take_all (x ∷ xs) (suc i) h = ap (λ ys. x ∷ ys) (take_all xs i (omega arith))

pub drop_all : (xs : List Object) (i : ℕ) → length xs ≤ i → drop i xs ≡ []
drop_all [] zero h = refl
drop_all [] (suc i) h = refl
drop_all (x ∷ xs) zero h = absurd (omega arith)
drop_all (x ∷ xs) (suc i) h = drop_all xs i (omega arith)
