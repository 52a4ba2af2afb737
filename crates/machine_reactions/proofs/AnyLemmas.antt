-- Whether one of many passes a test.
use Rattle.std.proofs.Common.{◌≡◌, ◌∙◌, ap, sym, refl, ℕ, suc, ◌+◌, ◌<◌, add-one, drop, length, get_or, Bool, true, false, ◌||◌, List, [], ◌∷◌, ◌++◌, Option, Some, None}
use Rattle.std.proofs.Math.Seq.{drop-cons}
use Rattle.std.proofs.lemmas.List.Folds.{list_any-append}
use Rattle.std.specs.List.{filter_map, flat_map, list_any, cons_option}
use Rattle.std.specs.Option.{option_map, unwrap_or}

module _ {X : Type 0} (p : X → Bool) where
  pub any_three : (xs ys zs : List X) → list_any p (xs ++ ys ++ zs) ≡ ((list_any p xs || list_any p ys) || list_any p zs)
  any_three xs ys zs = list_any-append p (xs ++ ys) zs ∙ ap (λ b. b || list_any p zs) (list_any-append p xs ys)

  -- ---- document after document

  split : (f : ℕ → List X) (us : List ℕ) (i : ℕ) → i < length us
      → list_any p (flat_map f (drop i us)) ≡ (list_any p (f (get_or us i 0)) || list_any p (flat_map f (drop (i + 1) us)))
  split f us i less =
      ap (λ ds. list_any p (flat_map f ds)) (drop-cons us i 0 less)
      ∙ list_any-append p (f (get_or us i 0)) (flat_map f (drop (suc i) us))
      ∙ ap (λ m. list_any p (f (get_or us i 0)) || list_any p (flat_map f (drop m us))) (sym (add-one i))

  pub further : (f : ℕ → List X) (us : List ℕ) (i : ℕ) (found all : Bool) → i < length us → found ≡ list_any p (f (get_or us i 0)) → found ≡ false
      → list_any p (flat_map f (drop i us)) ≡ all → list_any p (flat_map f (drop (i + 1) us)) ≡ all
  further f us i found all less e none h =
      ap (λ b. b || list_any p (flat_map f (drop (i + 1) us))) (sym none ∙ e) ∙ sym (split f us i less) ∙ h

  pub here : (f : ℕ → List X) (us : List ℕ) (i : ℕ) (found all : Bool) → i < length us → found ≡ list_any p (f (get_or us i 0)) → found ≡ true
      → list_any p (flat_map f (drop i us)) ≡ all → true ≡ all
  here f us i found all less e some h =
      ap (λ b. b || list_any p (flat_map f (drop (i + 1) us))) (sym some ∙ e) ∙ sym (split f us i less) ∙ h

-- ---- of what a list gives

module _ {X Y : Type 0} (f : X → Option Y) (p : Y → Bool) (q : X → Bool) (same : (x : X) → q x ≡ unwrap_or (option_map p (f x)) false) where
  one_more : (o : Option Y) (xs : List X) → list_any p (filter_map f xs) ≡ list_any q xs
      → list_any p (cons_option o (filter_map f xs)) ≡ (unwrap_or (option_map p o) false || list_any q xs)
  one_more None xs h = h
  one_more (Some y) xs h = ap (λ b. p y || b) h

  pub any_through : (xs : List X) → list_any p (filter_map f xs) ≡ list_any q xs
  any_through [] = refl
  any_through (x ∷ xs) = one_more (f x) xs (any_through xs) ∙ ap (λ b. b || list_any q xs) (sym (same x))
