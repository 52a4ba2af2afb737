-- The first name that passes a test, as a loop over places finds it.
use Rattle.std.proofs.Common.{◌≡◌, ◌∙◌, ap, sym, refl, ℕ, Bool, true, false, List, [], ◌∷◌, drop, Option, None, zero, suc, ◌+◌, ◌≤◌, add-one, slice_get, length, arith}
use Rattle.std.proofs.lemmas.Bool.{false≢true}
use Rattle.name_table.specs.Named.{row_name, row_found}
use Rattle.qml_scope.specs.Names.{named_by, fits}

here : {X : Type 0} (test : X → Bool) (xs : List (List ℕ × X)) (i : ℕ) → fits test (row_found (slice_get xs i)) ≡ true → row_name (slice_get xs i) ≡ named_by test (drop i xs)
here test [] i e = absurd (false≢true e)
here test (x ∷ xs) zero e = rw e refl
here test (x ∷ xs) (suc i) e = here test xs i e

next : {X : Type 0} (test : X → Bool) (xs : List (List ℕ × X)) (i : ℕ) → fits test (row_found (slice_get xs i)) ≡ false → named_by test (drop (suc i) xs) ≡ named_by test (drop i xs)
next test [] zero e = refl
next test [] (suc i) e = refl
next test (x ∷ xs) zero e = rw e refl
next test (x ∷ xs) (suc i) e = next test xs i e

at_end : {X : Type 0} (test : X → Bool) (xs : List (List ℕ × X)) (i : ℕ) → length xs ≤ i → named_by test (drop i xs) ≡ None
at_end test [] zero h = refl
at_end test [] (suc i) h = refl
at_end test (x ∷ xs) zero h = absurd (omega arith)
at_end test (x ∷ xs) (suc i) h = at_end test xs i (omega arith)

pub named_here : {X : Type 0} (test : X → Bool) (xs : List (List ℕ × X)) (i : ℕ) (all told : Option (List ℕ)) → fits test (row_found (slice_get xs i)) ≡ true → told ≡ row_name (slice_get xs i) → named_by test (drop i xs) ≡ all → told ≡ all
named_here test xs i all told fit is done = is ∙ here test xs i fit ∙ done

pub named_next : {X : Type 0} (test : X → Bool) (xs : List (List ℕ × X)) (i : ℕ) (all : Option (List ℕ)) → fits test (row_found (slice_get xs i)) ≡ false → named_by test (drop i xs) ≡ all → named_by test (drop (i + 1) xs) ≡ all
named_next test xs i all fails done = ap (λ k. named_by test (drop k xs)) (add-one i) ∙ next test xs i fails ∙ done

pub named_end : {X : Type 0} (test : X → Bool) (xs : List (List ℕ × X)) (i : ℕ) (all : Option (List ℕ)) → length xs ≤ i → named_by test (drop i xs) ≡ all → Path (Option (List ℕ)) None all
named_end test xs i all past done = sym (at_end test xs i past) ∙ done
