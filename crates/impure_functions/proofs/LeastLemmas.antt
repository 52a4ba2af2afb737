-- Functions of which none comes to an effect are all that are looked at where none is found.
use Rattle.std.proofs.Common.{◌≡◌, ◌∙◌, sym, refl, subst, ℕ, zero, suc, ◌+◌, ◌≤◌, arith, inl, inr, Bool, true, false, if◌then◌else◌, List, [], ◌∷◌, length}
use Rattle.std.specs.Prelude.{◌⊎◌, Contains}
use Rattle.std.proofs.lemmas.Bool.{false≢true}
use Rattle.program_names.specs.Loaded.{Program}
use Rattle.program_names.specs.Components.{Roots}
use Rattle.load_faults.specs.Effects.{Declared, is_impure}
use Rattle.impure_functions.specs.Functions.{function_count, acts, calls_of, same_function}
use Rattle.impure_functions.specs.Least.{ComesToEffect, by_itself, by_call, AreWhole}
use Rattle.impure_functions.proofs.HasLemmas.{Has, to_has, from_has}
use Rattle.impure_functions.proofs.SearchLemmas.{is_among, added, comes_to_effect, Within, Covered, left, is_left, some_added, or_split, or_front, or_back, among_has, all_added, added_fits, left_moved, still}

-- none of these acts, and what they call is seen or still to be looked at
record Quiet (p : Program) (roots : Roots) (seen todo : List Declared) : Type 0 where
  pub still : (f : Declared) → Has seen f → acts p roots f ≡ false
  pub calls : (f g : Declared) → Has seen f → Has (calls_of p roots f) g → Covered seen todo g

-- all that are looked at in the end
record Ends (p : Program) (roots : Roots) (fs seen todo : List Declared) : Type 0 where
  pub all : List Declared
  pub within : Within fs all
  pub covers : (g : Declared) → Covered seen todo g → is_among g all ≡ true
  pub quiet : Quiet p roots all []

-- one that was to be looked at is seen, and what it calls is to be looked at
over : (seen todo cs : List Declared) (f g : Declared) → Covered seen (f ∷ todo) g → Covered (f ∷ seen) (added (f ∷ seen) todo cs) g
over seen todo cs f g (inl e) = inl (or_back (same_function g f) (is_among g seen) e)
over seen todo cs f g (inr e) = by_place (or_split (same_function g f) (is_among g todo) e)
  where
    by_place : (same_function g f ≡ true) ⊎ (is_among g todo ≡ true) → Covered (f ∷ seen) (added (f ∷ seen) todo cs) g
    by_place (inl k) = inl (or_front (same_function g f) (is_among g seen) k)
    by_place (inr k) = inr (still (f ∷ seen) todo cs g k)

module _ (p : Program) (roots : Roots) (fs : List Declared) (closed : (f g : Declared) → Has fs f → Has (calls_of p roots f) g → Has fs g) where
  one_more : (seen todo : List Declared) (f : Declared) → acts p roots f ≡ false → Quiet p roots seen (f ∷ todo) → Quiet p roots (f ∷ seen) (added (f ∷ seen) todo (calls_of p roots f))
  one_more seen todo f a q = record {
    still = λ x h. quiet x h;
    calls = λ x g h k. called x g h k;
  }
    where
      quiet : (x : Declared) → Has (f ∷ seen) x → acts p roots x ≡ false
      quiet x (inl e) = subst (λ y. acts p roots y ≡ false) e a
      quiet x (inr h) = q.still x h

      called : (x g : Declared) → Has (f ∷ seen) x → Has (calls_of p roots x) g → Covered (f ∷ seen) (added (f ∷ seen) todo (calls_of p roots f)) g
      called x g (inl e) k = all_added (f ∷ seen) todo (calls_of p roots f) g (subst (λ y. Has (calls_of p roots y) g) (sym e) k)
      called x g (inr h) k = over seen todo (calls_of p roots f) f g (q.calls x g h k)

  more_within : (seen todo : List Declared) (f : Declared) → Within fs (f ∷ todo) → Within fs (added (f ∷ seen) todo (calls_of p roots f))
  more_within seen todo f w x h = by_place (some_added (f ∷ seen) todo (calls_of p roots f) x h)
    where
      by_place : Has todo x ⊎ Has (calls_of p roots f) x → Has fs x
      by_place (inl k) = w x (inr k)
      by_place (inr k) = closed f x (w f (inl refl)) k

  seen_within : (seen todo : List Declared) (f : Declared) → Within fs seen → Within fs (f ∷ todo) → Within fs (f ∷ seen)
  seen_within seen todo f v w x (inl e) = subst (Has fs) e (w f (inl refl))
  seen_within seen todo f v w x (inr h) = v x h

  nothing_left : (seen : List Declared) → Within fs seen → Quiet p roots seen [] → Ends p roots fs seen []
  nothing_left seen v q = record { all = seen; within = v; covers = λ g c. of_seen g c; quiet = q }
    where
      of_seen : (g : Declared) → Covered seen [] g → is_among g seen ≡ true
      of_seen g (inl e) = e
      of_seen g (inr e) = absurd (false≢true e)

  ends_later : (seen todo : List Declared) (f : Declared) → Ends p roots fs (f ∷ seen) (added (f ∷ seen) todo (calls_of p roots f)) → Ends p roots fs seen (f ∷ todo)
  ends_later seen todo f e = record {
    all = e.all;
    within = e.within;
    covers = λ g c. e.covers g (over seen todo (calls_of p roots f) f g c);
    quiet = e.quiet;
  }

  fits_on : (n : ℕ) (seen todo : List Declared) (f : Declared) → length (f ∷ todo) + left seen (f ∷ todo) fs ≤ suc n → length todo + left (f ∷ seen) todo fs ≤ n
  fits_on n seen todo f h = less (length todo) (left (f ∷ seen) todo fs) (left seen (f ∷ todo) fs) n (left_moved seen todo f fs) h
    where
      less : (t x y n : ℕ) → x ≤ y → suc t + y ≤ suc n → t + x ≤ n
      less t x y n h k = omega arith

  ends : (n : ℕ) (seen todo : List Declared) → length todo + left seen todo fs ≤ n → Within fs seen → Within fs todo → Quiet p roots seen todo → comes_to_effect n p roots seen todo ≡ false → Ends p roots fs seen todo
  ends zero seen [] h v w q e = nothing_left seen v q
  ends zero seen (f ∷ todo) h v w q e = absurd (omega arith)
  ends (suc n) seen [] h v w q e = nothing_left seen v q
  ends (suc n) seen (f ∷ todo) h v w q e =
      (elim (acts p roots f) as (λ b. acts p roots f ≡ b
      → (elim b [ true ↦ true | false ↦ comes_to_effect n p roots (f ∷ seen) (added (f ∷ seen) todo (calls_of p roots f)) ]) ≡ false → Ends p roots fs seen (f ∷ todo)) [
        | true ↦ λ a k. absurd (false≢true (sym k))
        | false ↦ λ a k. ends_later seen todo f
            (ends n (f ∷ seen) (added (f ∷ seen) todo (calls_of p roots f))
            (added_fits fs (f ∷ seen) todo (calls_of p roots f) n (λ x c. closed f x (w f (inl refl)) c) (fits_on n seen todo f h))
            (seen_within seen todo f v w) (more_within seen todo f w) (one_more seen todo f a q) k)
      ]) refl e

  -- ---- so none of them comes to an effect

  among_all : (apart : (f g : Declared) → Has fs f → Has fs g → same_function f g ≡ true → f ≡ g) (all : List Declared) → Within fs all → (f : Declared) → Has fs f → is_among f all ≡ true → Has all f
  among_all apart [] w f h e = absurd (false≢true e)
  among_all apart (x ∷ all) w f h e = by_place (or_split (same_function f x) (is_among f all) e) (λ k. among_all apart all (λ y j. w y (inr j)) f h k)
    where
      by_place : (same_function f x ≡ true) ⊎ (is_among f all ≡ true) → (is_among f all ≡ true → Has all f) → Has (x ∷ all) f
      by_place (inl k) on = inl (sym (apart f x h (w x (inl refl)) k))
      by_place (inr k) on = inr (on k)

  module _ (apart : (f g : Declared) → Has fs f → Has fs g → same_function f g ≡ true → f ≡ g) (all : List Declared) (w : Within fs all) (q : Quiet p roots all []) where
    called_among : (g : Declared) → Covered all [] g → is_among g all ≡ true
    called_among g (inl e) = e
    called_among g (inr e) = absurd (false≢true e)

    no_effect : (f : Declared) → ComesToEffect p roots f → Has fs f → is_among f all ≡ true → true ≡ false
    no_effect _ (by_itself f a) h e = sym a ∙ q.still f (among_all apart all w f h e)
    no_effect _ (by_call f g c x) h e =
        let k : Has (calls_of p roots f) g = to_has (calls_of p roots f) g c in
        no_effect g x (closed f g h k) (called_among g (q.calls f g (among_all apart all w f h e) k))

left_all : (seen todo fs : List Declared) → left seen todo fs ≤ length fs
left_all seen todo [] = omega arith
left_all seen todo (f ∷ fs) = one (is_left seen todo f) (left seen todo fs) (length fs) (left_all seen todo fs)
  where
    one : (b : Bool) (n m : ℕ) → n ≤ m → (if b then 1 else 0) + n ≤ suc m
    one true n m h = omega arith
    one false n m h = omega arith

fits_first : (n m : ℕ) → n ≤ m → 1 + n ≤ suc m
fits_first n m h = omega arith

chained : (a b c : ℕ) → a ≤ b → b ≤ c → a ≤ c
chained a b c h k = omega arith

pub is_complete : (p : Program) (roots : Roots) (functions : List Declared) → AreWhole p roots functions → (f : Declared) → Contains functions f → ComesToEffect p roots f → is_impure p roots f ≡ true
is_complete p roots fs whole f inside x = by_test (is_impure p roots f) refl
  where
    within_one : Within fs (f ∷ [])
    within_one y (inl e) = subst (Has fs) e (to_has fs f inside)
    within_one y (inr h) = absurd h

    closed : (g k : Declared) → Has fs g → Has (calls_of p roots g) k → Has fs k
    closed g k h c = to_has fs k (whole.called g k (from_has fs g h) (from_has (calls_of p roots g) k c))

    apart : (g k : Declared) → Has fs g → Has fs k → same_function g k ≡ true → g ≡ k
    apart g k h j e = whole.apart g k (from_has fs g h) (from_has fs k j) e

    by_end : Ends p roots fs [] (f ∷ []) → true ≡ false
    by_end e = no_effect p roots fs closed apart e.all e.within e.quiet f x (to_has fs f inside) (e.covers f (inr (among_has f (f ∷ []) (inl refl))))

    by_test : (b : Bool) → is_impure p roots f ≡ b → is_impure p roots f ≡ true
    by_test true e = e
    by_test false e =
        absurd (false≢true (sym (by_end
        (ends p roots fs closed (suc (function_count p)) [] (f ∷ [])
        (fits_first (left [] (f ∷ []) fs) (function_count p) (chained (left [] (f ∷ []) fs) (length fs) (function_count p) (left_all [] (f ∷ []) fs) whole.few))
        (λ y h. absurd h) within_one (record { still = λ y h. absurd h; calls = λ y g h c. absurd h }) e))))
