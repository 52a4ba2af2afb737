-- Comments.
use Rattle.std.proofs.Common.{◌≡◌, ◌≢◌, ℕ, ◌⊎◌, inl, inr, Bool, true, false, ◌&&◌, List, [], ◌∷◌, ◌++◌, Option, Some, None, refl, sym, ap, ◌∙◌, if◌then◌else◌, append_assoc}
use Rattle.std.specs.Prelude.{◌==◌}
use Rattle.qml_lexer.specs.Front.{behind_comment}
use Rattle.qml_lexer.specs.Gaps.{EndsAtFirstClose}
use Rattle.qml_lexer.proofs.CharacterLemmas.{same_number}
use Rattle.qml_lexer.proofs.RunLemmas.{and_false}

-- a close is found
closes : (star : Bool) (a b : List ℕ) → (r : List ℕ) × (behind_comment star (a ++ 42 ∷ 47 ∷ b) ≡ Some r)
closes star [] b = (b, rw (and_false star) refl)
closes star (x ∷ a) b = by (closes (x == 42) a b) (star && (x == 47))
  where
    by : (r : List ℕ) × (behind_comment (x == 42) (a ++ 42 ∷ 47 ∷ b) ≡ Some r) → (v : Bool)
        → (r : List ℕ) × ((if v then Some (a ++ 42 ∷ 47 ∷ b) else behind_comment (x == 42) (a ++ 42 ∷ 47 ∷ b)) ≡ Some r)
    by r true = (a ++ 42 ∷ 47 ∷ b, refl)
    by r false = r

-- a star stands last
abbrev ends_star : Bool → List ℕ → Bool
ends_star star [] = star
ends_star star (x ∷ xs) = ends_star (x == 42) xs

record Opened (star : Bool) (xs rest : List ℕ) : Type 0 where
  pub front : List ℕ
  pub cut : xs ≡ front ++ 47 ∷ rest
  pub none : behind_comment star front ≡ None
  pub star_last : ends_star star front ≡ true

comment_cut : (star : Bool) (xs rest : List ℕ) → behind_comment star xs ≡ Some rest → Opened star xs rest
comment_cut star [] rest h = cc
comment_cut star (x ∷ xs) rest h = by (comment_cut (x == 42) xs rest) star refl (x == 47) refl h
  where
    by : (behind_comment (x == 42) xs ≡ Some rest → Opened (x == 42) xs rest) → (v : Bool) → star ≡ v → (w : Bool) → (x == 47) ≡ w
        → (if v && w then Some xs else behind_comment (x == 42) xs) ≡ Some rest → Opened star (x ∷ xs) rest
    by r true e true d g =
        let same : xs ≡ rest = cc in
        record { front = []; cut = ap (λ z. z ∷ xs) (same_number x 47 d) ∙ ap (λ z. 47 ∷ z) same; none = refl; star_last = e }
    by r true e false d g =
        let o = r g in
        record { front = x ∷ o.front; cut = ap (λ z. x ∷ z) o.cut; none = rw (e, d) o.none; star_last = o.star_last }
    by r false e w d g =
        let o = r g in
        record { front = x ∷ o.front; cut = ap (λ z. x ∷ z) o.cut; none = rw e o.none; star_last = o.star_last }

last_star : (star : Bool) (front : List ℕ) → ends_star star front ≡ true → ((front ≡ []) × (star ≡ true)) ⊎ ((a : List ℕ) × (front ≡ a ++ 42 ∷ []))
last_star star [] h = inl (refl, h)
last_star star (x ∷ front) h = by (last_star (x == 42) front h)
  where
    by : ((front ≡ []) × ((x == 42) ≡ true)) ⊎ ((a : List ℕ) × (front ≡ a ++ 42 ∷ [])) → ((x ∷ front ≡ []) × (star ≡ true)) ⊎ ((a : List ℕ) × (x ∷ front ≡ a ++ 42 ∷ []))
    by (inl p) = inr ([], ap (λ z. z ∷ front) (same_number x 42 p.1) ∙ ap (λ z. 42 ∷ z) p.0)
    by (inr p) = inr (x ∷ p.0, ap (λ z. x ∷ z) p.1)

front_star : (front : List ℕ) → ends_star false front ≡ true → (a : List ℕ) × (front ≡ a ++ 42 ∷ [])
front_star front h = by (last_star false front h)
  where
    by : ((front ≡ []) × (false ≡ true)) ⊎ ((a : List ℕ) × (front ≡ a ++ 42 ∷ [])) → (a : List ℕ) × (front ≡ a ++ 42 ∷ [])
    by (inl p) = let no = p.1 in cc
    by (inr p) = p

pub block_cut : (xs rest : List ℕ) → behind_comment false xs ≡ Some rest → (w : List ℕ) × (xs ≡ w ++ rest) × EndsAtFirstClose w
block_cut xs rest h =
    let o = comment_cut false xs rest h in
    let s = front_star o.front o.star_last in (
      s.0 ++ 42 ∷ 47 ∷ [],
      o.cut ∙ ap (λ z. z ++ 47 ∷ rest) s.1 ∙ append_assoc s.0 (42 ∷ []) (47 ∷ rest) ∙ sym (append_assoc s.0 (42 ∷ 47 ∷ []) rest),
      record {
        inside = s.0;
        ends = refl;
        first = λ f r e. let found = closes false f r in let none = ap (behind_comment false) (sym e ∙ sym s.1) ∙ o.none in let some = found.1 in cc;
      },
    )

closed_late : (star : Bool) (inside rest : List ℕ) → behind_comment star (inside ++ 42 ∷ []) ≡ None → behind_comment star (inside ++ 42 ∷ 47 ∷ rest) ≡ Some rest
closed_late star [] rest h = rw (and_false star) refl
closed_late star (x ∷ inside) rest h = by (closed_late (x == 42) inside rest) (star && (x == 47)) h
  where
    by : (behind_comment (x == 42) (inside ++ 42 ∷ []) ≡ None → behind_comment (x == 42) (inside ++ 42 ∷ 47 ∷ rest) ≡ Some rest) → (v : Bool)
        → (if v then Some (inside ++ 42 ∷ []) else behind_comment (x == 42) (inside ++ 42 ∷ [])) ≡ None
        → (if v then Some (inside ++ 42 ∷ 47 ∷ rest) else behind_comment (x == 42) (inside ++ 42 ∷ 47 ∷ rest)) ≡ Some rest
    by r true g = cc
    by r false g = r g

no_close : (inside : List ℕ) → ((front rest : List ℕ) → inside ++ 42 ∷ [] ≢ front ++ 42 ∷ 47 ∷ rest) → behind_comment false (inside ++ 42 ∷ []) ≡ None
no_close inside n = by (behind_comment false (inside ++ 42 ∷ [])) refl
  where
    by : (o : Option (List ℕ)) → behind_comment false (inside ++ 42 ∷ []) ≡ o → o ≡ None
    by None e = refl
    by (Some r) e =
        let o = comment_cut false (inside ++ 42 ∷ []) r e in
        let s = front_star o.front o.star_last in
        absurd (n s.0 r (o.cut ∙ ap (λ z. z ++ 47 ∷ r) s.1 ∙ append_assoc s.0 (42 ∷ []) (47 ∷ r)))

pub block_read : (w rest : List ℕ) → EndsAtFirstClose w → behind_comment false (w ++ rest) ≡ Some rest
block_read w rest c =
    ap (λ z. behind_comment false (z ++ rest)) c.ends ∙ ap (behind_comment false) (append_assoc c.inside (42 ∷ 47 ∷ []) rest) ∙ closed_late false c.inside rest (no_close c.inside c.first)
