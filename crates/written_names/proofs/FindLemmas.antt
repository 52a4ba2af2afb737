-- What is found in rows of three kinds.
use Rattle.std.proofs.Common.{◌≡◌, ◌∙◌, ap, sym, refl, ℕ, suc, ◌+◌, ◌<◌, add-one, drop, length, get_or, is_some, Bool, true, false, cond, List, [], ◌∷◌, ◌++◌, Option, Some, None}
use Rattle.std.proofs.Math.Seq.{drop-cons}
use Rattle.std.specs.List.{find, flat_map}
use Rattle.std.specs.Option.{option_or}

module _ {X : Type 0} (p : X → Bool) where
  pub find_append : (xs ys : List X) → find p (xs ++ ys) ≡ option_or (find p xs) (find p ys)
  find_append [] ys = refl
  find_append (x ∷ xs) ys = by_test (p x) (find_append xs ys)
    where
      by_test : (b : Bool) → find p (xs ++ ys) ≡ option_or (find p xs) (find p ys) → cond b (Some x) (find p (xs ++ ys)) ≡ option_or (cond b (Some x) (find p xs)) (find p ys)
      by_test true e = refl
      by_test false e = e

  pub find_three : (xs ys zs : List X) → find p (xs ++ ys ++ zs) ≡ option_or (option_or (find p xs) (find p ys)) (find p zs)
  find_three xs ys zs = find_append (xs ++ ys) zs ∙ ap (λ o. option_or o (find p zs)) (find_append xs ys)

  -- ---- document after document

  split : (f : ℕ → List X) (us : List ℕ) (i : ℕ) → i < length us
      → find p (flat_map f (drop i us)) ≡ option_or (find p (f (get_or us i 0))) (find p (flat_map f (drop (i + 1) us)))
  split f us i less =
      ap (λ ds. find p (flat_map f ds)) (drop-cons us i 0 less)
      ∙ find_append (f (get_or us i 0)) (flat_map f (drop (suc i) us))
      ∙ ap (λ m. option_or (find p (f (get_or us i 0))) (find p (flat_map f (drop m us)))) (sym (add-one i))

  second : (o q : Option X) → is_some o ≡ false → option_or o q ≡ q
  second None q h = refl
  second (Some x) q h = absurd (cc)

  first : (o q : Option X) → is_some o ≡ true → option_or o q ≡ o
  first None q h = absurd (cc)
  first (Some x) q h = refl

  pub further : (f : ℕ → List X) (us : List ℕ) (i : ℕ) (found all : Option X) → i < length us → found ≡ find p (f (get_or us i 0)) → is_some found ≡ false
      → find p (flat_map f (drop i us)) ≡ all → find p (flat_map f (drop (i + 1) us)) ≡ all
  further f us i found all less e none h =
      sym (second (find p (f (get_or us i 0))) (find p (flat_map f (drop (i + 1) us))) (ap is_some (sym e) ∙ none)) ∙ sym (split f us i less) ∙ h

  pub here : (f : ℕ → List X) (us : List ℕ) (i : ℕ) (found all : Option X) → i < length us → found ≡ find p (f (get_or us i 0)) → is_some found ≡ true
      → find p (flat_map f (drop i us)) ≡ all → found ≡ all
  here f us i found all less e some h =
      e ∙ sym (first (find p (f (get_or us i 0))) (find p (flat_map f (drop (i + 1) us))) (ap is_some (sym e) ∙ some)) ∙ sym (split f us i less) ∙ h
