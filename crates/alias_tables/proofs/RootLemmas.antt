-- The roots of components, object after object, are those of the program.
use Rattle.std.proofs.Common.{inl, inr, ◌≡◌, ◌∙◌, ap, sym, refl, subst, ℕ, zero, suc, ◌+◌, ◌<◌, arith, Bool, true, false, List, [], ◌∷◌, ◌++◌, length, get_or, drop, add-one, drop-cons, Option, Some, None}
use Rattle.std.specs.Prelude.{if◌then◌else◌, slice_get, ◌⊎◌}
use Rattle.std.specs.Option.{unwrap_or}
use Rattle.program_names.specs.Loaded.{Program, unit_at}
use Rattle.program_names.specs.Components.{Roots, owner, root_of, around}
use Rattle.alias_tables.specs.Roots.{begins_at, root_around, root_by, roots_after, begins}

-- ---- the walk

pub goes_on : (known : List Bool) (owners : List (Option ℕ)) (i : ℕ) (d : Option ℕ) (roots after all : List ℕ) (root : ℕ) → i < length owners
    → root ≡ root_by known roots i (get_or owners i d) → after ≡ roots ++ root ∷ [] → roots_after known roots i (drop i owners) ≡ all → roots_after known after (i + 1) (drop (i + 1) owners) ≡ all
goes_on known owners i d roots after all root h r a l =
    ap (λ k. roots_after known after k (drop k owners)) (add-one i) ∙
    ap (λ rs. roots_after known rs (suc i) (drop (suc i) owners)) (a ∙ ap (λ x. roots ++ x ∷ []) r) ∙
    ap (roots_after known roots i) (sym (drop-cons owners i d h)) ∙ l

-- ---- the definition, by the words that it is made of

abbrev within : ℕ → Program → Roots → ℕ → ℕ → ℕ
within zero p roots d o = 0
within (suc n) p roots d o = elim (begins roots d o) [ true ↦ o | false ↦ around o (λ w. within n p roots d w) (owner p d o) ]

root_so : (p : Program) (roots : Roots) (d o : ℕ) → root_of p roots d o ≡ within (length (unit_at p d).objects) p roots d o
root_so p roots d o = refl

abbrev Below : Program → ℕ → Type 0
Below p d = (o w : ℕ) → owner p d o ≡ Some w → w < o

below_both : (o w n : ℕ) → w < o → o < suc n → w < n
below_both o w n h g = omega arith

by_owner : (n o : ℕ) (f g : ℕ → ℕ) (p : Program) (d : ℕ) → Below p d → o < suc n → ((w : ℕ) → w < n → f w ≡ g w) → (w : Option ℕ) → owner p d o ≡ w → around o f w ≡ around o g w
by_owner n o f g p d b h same None e = refl
by_owner n o f g p d b h same (Some w) e = same w (below_both o w n (b o w e) h)

by_begin : (o : ℕ) (x y : ℕ) (c : Bool) → x ≡ y → Path ℕ (elim c [ true ↦ o | false ↦ x ]) (elim c [ true ↦ o | false ↦ y ])
by_begin o x y true e = refl
by_begin o x y false e = e

chosen : (o : ℕ) (x y : ℕ) (c : Bool) → x ≡ y → Path ℕ (if c then o else x) (elim c [ true ↦ o | false ↦ y ])
chosen o x y true e = refl
chosen o x y false e = e

-- more objects around make no difference
enough : (p : Program) (roots : Roots) (d : ℕ) → Below p d → (n o : ℕ) → o < n → within n p roots d o ≡ within (suc n) p roots d o
enough p roots d b zero o h = absurd (omega arith)
enough p roots d b (suc n) o h =
    by_begin o (around o (λ k. within n p roots d k) (owner p d o)) (around o (λ k. within (suc n) p roots d k) (owner p d o)) (begins roots d o)
    (by_owner n o (λ k. within n p roots d k) (λ k. within (suc n) p roots d k) p d b h (λ w l. enough p roots d b n w l) (owner p d o) refl)

-- ---- object after object

-- the roots of all objects before number o
abbrev Done : Program → Roots → ℕ → ℕ → List ℕ → Type 0
Done p roots d o done = (length done ≡ o) × ((j : ℕ) → j < o → slice_get done j ≡ Some (root_of p roots d j))

got_front : (done : List ℕ) (x j : ℕ) → j < length done → slice_get (done ++ x ∷ []) j ≡ slice_get done j
got_front [] x j h = absurd (omega arith)
got_front (y ∷ done) x zero h = refl
got_front (y ∷ done) x (suc j) h = let less : j < length done = omega arith in got_front done x j less

got_last : (done : List ℕ) (x : ℕ) → slice_get (done ++ x ∷ []) (length done) ≡ Some x
got_last [] x = refl
got_last (y ∷ done) x = got_last done x

one_longer : (done : List ℕ) (x : ℕ) → length (done ++ x ∷ []) ≡ suc (length done)
one_longer [] x = refl
one_longer (y ∷ done) x = ap suc (one_longer done x)

before_or_at : (j o : ℕ) → j < suc o → (j < o) ⊎ (j ≡ o)
before_or_at j zero h = inr (omega arith)
before_or_at zero (suc o) h = inl (omega arith)
before_or_at (suc j) (suc o) h = let less : j < suc o = omega arith in one_up (before_or_at j o less)
  where
    one_up : (j < o) ⊎ (j ≡ o) → (suc j < suc o) ⊎ (suc j ≡ suc o)
    one_up (inl l) = inl (omega arith)
    one_up (inr e) = inr (ap suc e)

one_done : (p : Program) (roots : Roots) (d o : ℕ) (done : List ℕ) (x : ℕ) → Done p roots d o done → x ≡ root_of p roots d o → Done p roots d (suc o) (done ++ x ∷ [])
one_done p roots d o done x h e = (one_longer done x ∙ ap suc h.0, λ j l. each j (before_or_at j o l))
  where
    each : (j : ℕ) → (j < o) ⊎ (j ≡ o) → slice_get (done ++ x ∷ []) j ≡ Some (root_of p roots d j)
    each j (inl l) = got_front done x j (subst (λ k. j < k) (sym h.0) l) ∙ h.1 j l
    each j (inr i) = ap (slice_get (done ++ x ∷ [])) (i ∙ sym h.0) ∙ got_last done x ∙ ap Some (e ∙ ap (root_of p roots d) (sym i))

root_here : (p : Program) (roots : Roots) (d o : ℕ) (known : List Bool) (done : List ℕ) → Below p d → begins_at known o ≡ begins roots d o → o < length (unit_at p d).objects → Done p roots d o done
    → root_by known done o (owner p d o) ≡ root_of p roots d o
root_here p roots d o known done b e l h = at_fuel (length (unit_at p d).objects) refl l
  where
    around_here : (n : ℕ) → length (unit_at p d).objects ≡ suc n → o < suc n → (w : Option ℕ) → owner p d o ≡ w → root_around done o w ≡ around o (λ k. within n p roots d k) w
    around_here n i g None m = refl
    around_here n i g (Some w) m =
        ap (λ r. unwrap_or r 0) (h.1 w (b o w m)) ∙ ap (λ k. within k p roots d w) i ∙ sym (enough p roots d b n w (below_both o w n (b o w m) g))

    at_fuel : (n : ℕ) → length (unit_at p d).objects ≡ n → o < n → root_by known done o (owner p d o) ≡ within n p roots d o
    at_fuel zero i g = absurd (omega arith)
    at_fuel (suc n) i g =
        ap (λ c. if c then o else root_around done o (owner p d o)) e ∙
        chosen o (root_around done o (owner p d o)) (around o (λ k. within n p roots d k) (owner p d o)) (begins roots d o) (around_here n i g (owner p d o) refl)

from_here : (p : Program) (roots : Roots) (d : ℕ) (known : List Bool) → Below p d → ((o : ℕ) → begins_at known o ≡ begins roots d o) → (o : ℕ) (done : List ℕ) (ws : List (Option ℕ))
    → o + length ws ≡ length (unit_at p d).objects → ((k : ℕ) (w : Option ℕ) → slice_get ws k ≡ Some w → w ≡ owner p d (o + k)) → Done p roots d o done
    → Done p roots d (o + length ws) (roots_after known done o ws)
from_here p roots d known b e o done [] l s h = subst (λ k. Done p roots d k done) (plus_none o) h
  where
    plus_none : (o : ℕ) → o ≡ o + 0
    plus_none o = omega arith
from_here p roots d known b e o done (w ∷ ws) l s h =
    subst (λ k. Done p roots d k (roots_after known (done ++ root_by known done o w ∷ []) (suc o) ws)) (one_on o (length ws))
    (from_here p roots d known b e (suc o) (done ++ root_by known done o w ∷ []) ws (one_on o (length ws) ∙ l)
    (λ k x i. s (suc k) x i ∙ ap (owner p d) (sym (one_on o k)))
    (one_done p roots d o done (root_by known done o w) h
    (ap (root_by known done o) (s 0 w refl ∙ ap (owner p d) (and_none o)) ∙ root_here p roots d o known done b (e o) (room o (length ws) (length (unit_at p d).objects) l) h)))
  where
    one_on : (o k : ℕ) → suc o + k ≡ o + suc k
    one_on o k = omega arith

    and_none : (o : ℕ) → o + 0 ≡ o
    and_none o = omega arith

    room : (o k n : ℕ) → o + suc k ≡ n → o < n
    room o k n i = omega arith

from_none : (k : ℕ) → 0 + k ≡ k
from_none k = omega arith

pub roots_as_meant : (p : Program) (roots : Roots) (d : ℕ) (owners : List (Option ℕ)) (known : List Bool) → length owners ≡ length (unit_at p d).objects
    → ((o : ℕ) (w : Option ℕ) → slice_get owners o ≡ Some w → w ≡ owner p d o) → Below p d → ((o : ℕ) → begins_at known o ≡ begins roots d o)
    → (o : ℕ) → o < length owners → slice_get (roots_after known [] 0 owners) o ≡ Some (root_of p roots d o)
roots_as_meant p roots d owners known l s b e o h =
    let done = from_here p roots d known b e 0 [] owners (from_none (length owners) ∙ l) (λ k w i. s k w i ∙ ap (owner p d) (sym (from_none k))) (refl, λ j g. absurd (none_below j g)) in
    done.1 o (subst (λ k. o < k) (sym (from_none (length owners))) h)
  where
    none_below : (j : ℕ) → j < 0 → ⊥
    none_below j g = omega arith
