-- What goes through called functions finds an effect only where the function comes to one.
use Rattle.std.proofs.Common.{◌≡◌, ◌∙◌, ap, sym, refl, subst, ℕ, zero, suc, ◌+◌, ◌≤◌, arith, inl, inr, Bool, true, false, ◌||◌, ◌&&◌, not, nat_eq, if◌then◌else◌, List, [], ◌∷◌, length}
use Rattle.std.specs.Prelude.{◌⊎◌}
use Rattle.std.specs.List.{list_any}
use Rattle.std.proofs.lemmas.Bool.{false≢true}
use Rattle.std.proofs.lemmas.Bool.Decides.{nat_tests}
use Rattle.program_names.specs.Loaded.{Program}
use Rattle.program_names.specs.Components.{Roots}
use Rattle.load_faults.specs.Effects.{Declared, is_impure}
use Rattle.impure_functions.specs.Functions.{deeds_of, has_effect, calls_in, acts, calls_of, same_function, place_of_function, function_count}
use Rattle.impure_functions.specs.Least.{ComesToEffect, by_itself, by_call}
use Rattle.impure_functions.proofs.HasLemmas.{Has, from_has}

-- ---- the search, in the words of the definition

abbrev pub is_among : Declared → List Declared → Bool
is_among f functions = list_any (same_function f) functions

abbrev pub added : List Declared → List Declared → List Declared → List Declared
added seen todo [] = todo
added seen todo (f ∷ rest) = added seen (if is_among f seen || is_among f todo then todo else f ∷ todo) rest

abbrev pub comes_to_effect : ℕ → Program → Roots → List Declared → List Declared → Bool
comes_to_effect zero p roots seen todo = false
comes_to_effect (suc n) p roots seen [] = false
comes_to_effect (suc n) p roots seen (f ∷ todo) =
    let done = deeds_of p roots f in
    elim (list_any has_effect done) [
      | true ↦ true
      | false ↦ comes_to_effect n p roots (f ∷ seen) (added (f ∷ seen) todo (calls_in done))
    ]

pub is_search : (p : Program) (roots : Roots) (f : Declared) → is_impure p roots f ≡ comes_to_effect (suc (function_count p)) p roots [] (f ∷ [])
is_search p roots f = refl

-- ---- what is found

front_more : (todo cs : List Declared) (c g : Declared) → Has todo g ⊎ Has cs g → Has todo g ⊎ Has (c ∷ cs) g
front_more todo cs c g (inl a) = inl a
front_more todo cs c g (inr a) = inr (inr a)

moved_over : (todo cs : List Declared) (c g : Declared) → Has (c ∷ todo) g ⊎ Has cs g → Has todo g ⊎ Has (c ∷ cs) g
moved_over todo cs c g (inl (inl e)) = inr (inl e)
moved_over todo cs c g (inl (inr a)) = inl a
moved_over todo cs c g (inr a) = inr (inr a)

pub some_added : (seen todo cs : List Declared) (g : Declared) → Has (added seen todo cs) g → Has todo g ⊎ Has cs g
some_added seen todo [] g = λ h. inl h
some_added seen todo (c ∷ cs) g =
    elim (is_among c seen || is_among c todo) as (λ b. Has (added seen (if b then todo else c ∷ todo) cs) g → Has todo g ⊎ Has (c ∷ cs) g) [
      | true ↦ λ h. front_more todo cs c g (some_added seen todo cs g h)
      | false ↦ λ h. moved_over todo cs c g (some_added seen (c ∷ todo) cs g h)
    ]

abbrev Found : Program → Roots → List Declared → Type 0
Found p roots todo = (f : Declared) × Has todo f × ComesToEffect p roots f

found_here : (p : Program) (roots : Roots) (f g : Declared) (todo : List Declared) → Has todo g ⊎ Has (calls_of p roots f) g → ComesToEffect p roots g → Found p roots (f ∷ todo)
found_here p roots f g todo (inl k) c = (g, inr k, c)
found_here p roots f g todo (inr k) c = (f, inl refl, by_call f g (from_has (calls_of p roots f) g k) c)

found_later : (p : Program) (roots : Roots) (f : Declared) (seen todo : List Declared) → Found p roots (added seen todo (calls_of p roots f)) → Found p roots (f ∷ todo)
found_later p roots f seen todo x = found_here p roots f x.0 todo (some_added seen todo (calls_of p roots f) x.0 x.1) x.2

abbrev on_found : Bool → ℕ → Program → Roots → Declared → List Declared → List Declared → Bool
on_found b n p roots f seen todo =
    elim b [ true ↦ true | false ↦ comes_to_effect n p roots (f ∷ seen) (added (f ∷ seen) todo (calls_of p roots f)) ]

found : (n : ℕ) (p : Program) (roots : Roots) (seen todo : List Declared) → comes_to_effect n p roots seen todo ≡ true → Found p roots todo
found zero p roots seen todo e = absurd (false≢true e)
found (suc n) p roots seen [] e = absurd (false≢true e)
found (suc n) p roots seen (f ∷ todo) e =
    (elim (acts p roots f) as (λ b. acts p roots f ≡ b → on_found b n p roots f seen todo ≡ true → Found p roots (f ∷ todo)) [
      | true ↦ λ a h. (f, inl refl, by_itself f a)
      | false ↦ λ a h. found_later p roots f (f ∷ seen) todo (found n p roots (f ∷ seen) (added (f ∷ seen) todo (calls_of p roots f)) h)
    ]) refl e

the_one : (p : Program) (roots : Roots) (f : Declared) → Found p roots (f ∷ []) → ComesToEffect p roots f
the_one p roots f (g, inl q, c) = subst (ComesToEffect p roots) (sym q) c
the_one p roots f (g, inr h, c) = absurd h

pub is_sound : (p : Program) (roots : Roots) (f : Declared) → is_impure p roots f ≡ true → ComesToEffect p roots f
is_sound p roots f e = the_one p roots f (found (suc (function_count p)) p roots [] (f ∷ []) e)

-- ---- nothing is left out: functions that are neither seen nor still to be looked at get fewer

same_numbers : (a b : ℕ) → nat_eq a b ≡ nat_eq b a
same_numbers a b = grind (arith, nat_tests)

same_itself : (a : ℕ) → nat_eq a a ≡ true
same_itself a = grind (arith, nat_tests)

same_back : (f g : Declared) → same_function f g ≡ same_function g f
same_back f g =
    ap (λ b. b && (nat_eq (place_of_function f.function).line (place_of_function g.function).line && nat_eq (place_of_function f.function).column (place_of_function g.function).column))
    (same_numbers f.document g.document) ∙
    ap (λ b. nat_eq g.document f.document && (b && nat_eq (place_of_function f.function).column (place_of_function g.function).column))
    (same_numbers (place_of_function f.function).line (place_of_function g.function).line) ∙
    ap (λ b. nat_eq g.document f.document && (nat_eq (place_of_function g.function).line (place_of_function f.function).line && b))
    (same_numbers (place_of_function f.function).column (place_of_function g.function).column)

pub same_self : (f : Declared) → same_function f f ≡ true
same_self f =
    rw (same_itself f.document, same_itself (place_of_function f.function).line, same_itself (place_of_function f.function).column) refl

-- how many of these are among neither
abbrev pub is_left : List Declared → List Declared → Declared → Bool
is_left seen todo f = not (is_among f seen || is_among f todo)

abbrev pub left : List Declared → List Declared → List Declared → ℕ
left seen todo [] = 0
left seen todo (f ∷ fs) = (if is_left seen todo f then 1 else 0) + left seen todo fs

fewer_one : (s x t : Bool) → Path Bool (not (s || (x || t))) (if x then false else not (s || t))
fewer_one true true t = refl
fewer_one true false t = refl
fewer_one false true t = refl
fewer_one false false t = refl

count_one : (x y : Bool) (n m : ℕ) → n ≤ m → (if (if x then false else y) then 1 else 0) + n ≤ (if y then 1 else 0) + m
count_one true true n m h = omega arith
count_one true false n m h = omega arith
count_one false true n m h = omega arith
count_one false false n m h = omega arith

-- one more to be looked at leaves no more
left_less : (seen todo : List Declared) (c : Declared) (fs : List Declared) → left seen (c ∷ todo) fs ≤ left seen todo fs
left_less seen todo c [] = omega arith
left_less seen todo c (f ∷ fs) =
    subst (λ b. (if b then 1 else 0) + left seen (c ∷ todo) fs ≤ left seen todo (f ∷ fs)) (sym (fewer_one (is_among f seen) (same_function f c) (is_among f todo)))
    (count_one (same_function f c) (is_left seen todo f) (left seen (c ∷ todo) fs) (left seen todo fs) (left_less seen todo c fs))

-- and one fewer where it was left
left_one_less : (seen todo : List Declared) (c : Declared) (fs : List Declared) → Has fs c → is_left seen todo c ≡ true → suc (left seen (c ∷ todo) fs) ≤ left seen todo fs
left_one_less seen todo c [] h e = absurd h
left_one_less seen todo c (f ∷ fs) (inl q) e =
    subst (λ g. suc (left seen (c ∷ todo) (g ∷ fs)) ≤ left seen todo (g ∷ fs)) (sym q)
    (subst (λ b. suc ((if b then 1 else 0) + left seen (c ∷ todo) fs) ≤ left seen todo (c ∷ fs)) (sym (fewer_one (is_among c seen) (same_function c c) (is_among c todo)))
    (subst (λ b. suc ((if (if b then false else is_left seen todo c) then 1 else 0) + left seen (c ∷ todo) fs) ≤ (if is_left seen todo c then 1 else 0) + left seen todo fs) (sym (same_self c))
    (subst (λ b. suc (0 + left seen (c ∷ todo) fs) ≤ (if b then 1 else 0) + left seen todo fs) (sym e) (next (left seen (c ∷ todo) fs) (left seen todo fs) (left_less seen todo c fs)))))
  where
    next : (n m : ℕ) → n ≤ m → suc (0 + n) ≤ 1 + m
    next n m h = omega arith
left_one_less seen todo c (f ∷ fs) (inr h) e =
    subst (λ b. suc ((if b then 1 else 0) + left seen (c ∷ todo) fs) ≤ left seen todo (f ∷ fs)) (sym (fewer_one (is_among f seen) (same_function f c) (is_among f todo)))
    (count_more (same_function f c) (is_left seen todo f) (left seen (c ∷ todo) fs) (left seen todo fs) (left_one_less seen todo c fs h e))
  where
    count_more : (x y : Bool) (n m : ℕ) → suc n ≤ m → suc ((if (if x then false else y) then 1 else 0) + n) ≤ (if y then 1 else 0) + m
    count_more true true n m h = omega arith
    count_more true false n m h = omega arith
    count_more false true n m h = omega arith
    count_more false false n m h = omega arith

-- ---- what is added

abbrev pub Within : List Declared → List Declared → Type 0
Within fs xs = (x : Declared) → Has xs x → Has fs x

pub or_split : (a b : Bool) → (a || b) ≡ true → (a ≡ true) ⊎ (b ≡ true)
or_split true b e = inl refl
or_split false b e = inr e

pub or_front : (a b : Bool) → a ≡ true → (a || b) ≡ true
or_front a b e = rw e refl

pub or_back : (a b : Bool) → b ≡ true → (a || b) ≡ true
or_back true b e = refl
or_back false b e = e

or_false : (a b : Bool) → (a || b) ≡ false → not (a || b) ≡ true
or_false a b e = rw e refl

pub among_has : (f : Declared) (xs : List Declared) → Has xs f → is_among f xs ≡ true
among_has f [] h = absurd h
among_has f (x ∷ xs) (inl e) = or_front (same_function f x) (is_among f xs) (ap (same_function f) e ∙ same_self f)
among_has f (x ∷ xs) (inr h) = or_back (same_function f x) (is_among f xs) (among_has f xs h)

-- what was to be looked at still is
kept : (seen todo cs : List Declared) (g : Declared) → Has todo g → Has (added seen todo cs) g
kept seen todo [] g h = h
kept seen todo (c ∷ cs) g h =
    elim (is_among c seen || is_among c todo) as (λ b. Has (added seen (if b then todo else c ∷ todo) cs) g) [
      | true ↦ kept seen todo cs g h
      | false ↦ kept seen (c ∷ todo) cs g (inr h)
    ]

abbrev pub Covered : List Declared → List Declared → Declared → Type 0
Covered seen todo g = (is_among g seen ≡ true) ⊎ (is_among g todo ≡ true)

pub still : (seen todo cs : List Declared) (g : Declared) → is_among g todo ≡ true → is_among g (added seen todo cs) ≡ true
still seen todo [] g h = h
still seen todo (c ∷ cs) g h =
    elim (is_among c seen || is_among c todo) as (λ b. is_among g (added seen (if b then todo else c ∷ todo) cs) ≡ true) [
      | true ↦ still seen todo cs g h
      | false ↦ still seen (c ∷ todo) cs g (or_back (same_function g c) (is_among g todo) h)
    ]

pub all_added : (seen todo cs : List Declared) (g : Declared) → Has cs g → Covered seen (added seen todo cs) g
all_added seen todo [] g h = absurd h
all_added seen todo (c ∷ cs) g (inr h) =
    elim (is_among c seen || is_among c todo) as (λ b. Covered seen (added seen (if b then todo else c ∷ todo) cs) g) [
      | true ↦ all_added seen todo cs g h
      | false ↦ all_added seen (c ∷ todo) cs g h
    ]
all_added seen todo (c ∷ cs) g (inl q) =
    subst (λ x. Covered seen (added seen todo (c ∷ cs)) x) q
    ((elim (is_among c seen || is_among c todo) as (λ b. (is_among c seen || is_among c todo) ≡ b → Covered seen (added seen (if b then todo else c ∷ todo) cs) c) [
      | true ↦ λ e. by_place (or_split (is_among c seen) (is_among c todo) e)
      | false ↦ λ e. inr (still seen (c ∷ todo) cs c (among_has c (c ∷ todo) (inl refl)))
    ]) refl)
  where
    by_place : (is_among c seen ≡ true) ⊎ (is_among c todo ≡ true) → Covered seen (added seen todo cs) c
    by_place (inl e) = inl e
    by_place (inr e) = inr (still seen todo cs c e)

-- what is to be looked at grows by no more than what is left gets less
pub added_fits : (fs seen todo cs : List Declared) (n : ℕ) → Within fs cs → length todo + left seen todo fs ≤ n → length (added seen todo cs) + left seen (added seen todo cs) fs ≤ n
added_fits fs seen todo [] n w h = h
added_fits fs seen todo (c ∷ cs) n w h =
    (elim (is_among c seen || is_among c todo) as (λ b. (is_among c seen || is_among c todo) ≡ b
    → length (added seen (if b then todo else c ∷ todo) cs) + left seen (added seen (if b then todo else c ∷ todo) cs) fs ≤ n) [
      | true ↦ λ e. added_fits fs seen todo cs n (λ x k. w x (inr k)) h
      | false ↦ λ e. added_fits fs seen (c ∷ todo) cs n (λ x k. w x (inr k))
          (moves (length todo) (left seen (c ∷ todo) fs) (left seen todo fs) n (left_one_less seen todo c fs (w c (inl refl)) (or_false (is_among c seen) (is_among c todo) e)) h)
    ]) refl
  where
    moves : (t x y n : ℕ) → suc x ≤ y → t + y ≤ n → suc t + x ≤ n
    moves t x y n h k = omega arith

-- one that was to be looked at is seen
pub left_moved : (seen todo : List Declared) (f : Declared) (fs : List Declared) → left (f ∷ seen) todo fs ≤ left seen (f ∷ todo) fs
left_moved seen todo f [] = omega arith
left_moved seen todo f (g ∷ gs) =
    subst (λ b. (if not b then 1 else 0) + left (f ∷ seen) todo gs ≤ left seen (f ∷ todo) (g ∷ gs)) (sym (turned (same_function g f) (is_among g seen) (is_among g todo)))
    (more (if is_left seen (f ∷ todo) g then 1 else 0) (left (f ∷ seen) todo gs) (left seen (f ∷ todo) gs) (left_moved seen todo f gs))
  where
    turned : (x s t : Bool) → ((x || s) || t) ≡ (s || (x || t))
    turned true true t = refl
    turned true false t = refl
    turned false s t = refl

    more : (k n m : ℕ) → n ≤ m → k + n ≤ k + m
    more k n m h = omega arith
