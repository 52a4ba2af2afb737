-- Rounds that settle which objects begin components.
use Rattle.std.proofs.Common.{◌≡◌, ◌∙◌, ap, sym, refl, subst, inl, inr, ℕ, zero, suc, ◌+◌, ◌<◌, ◌≤◌, arith, Bool, true, false, List, [], ◌∷◌, length, map, flat_map, Option, Some, None, is_some}
use Rattle.std.specs.Prelude.{◌&&◌, slice_get, ◌⊎◌}
use Rattle.std.specs.Option.{unwrap_or}
use Rattle.std.proofs.lemmas.Bool.{false≢true}
use Rattle.std.proofs.lemmas.List.{length-append}
use Rattle.program_names.specs.Written.{WrittenObject}
use Rattle.program_names.specs.Loaded.{Unit as AUnit, Program, unit_at, object_at, no_object, no_unit}
use Rattle.program_names.specs.Components.{IsRoot, Roots, is_root_at, owner, is_known, around, known_within}
use Rattle.program_names.specs.ComponentRoots.{root_as, same_root, roots_of, owner_known, next_root, next_roots, next_round, same_row, same_roots, rounds, unknown, nothing_known, settled, rounds_enough}
use Rattle.component_roots.specs.Decided.{OwnersAreLower, AreDecided}

-- ---- the definition, by the words that it is made of

roots_so : (p : Program) → roots_of p ≡ map (λ row. map settled row) (rounds (rounds_enough p) p (nothing_known p))
roots_so p = refl

known_so : (p : Program) (roots : Roots) (d o : ℕ) → is_known p roots d o ≡ known_within (length (unit_at p d).objects) p roots d o
known_so p roots d o = refl

-- ---- places

abbrev row_in : Roots → ℕ → List IsRoot
row_in roots d = unwrap_or (slice_get roots d) []

abbrev root_in : List IsRoot → ℕ → IsRoot
root_in row o = unwrap_or (slice_get row o) None

-- those of a document have as many places as it has objects
abbrev Fits : Program → ℕ → Roots → Type 0
Fits p d roots = length (row_in roots d) ≡ length (unit_at p d).objects

next_long : (p : Program) (roots : Roots) (d o : ℕ) (ws : List WrittenObject) → length (next_roots p roots d o ws) ≡ length ws
next_long p roots d o [] = refl
next_long p roots d o (w ∷ ws) = ap suc (next_long p roots d (suc o) ws)

one_on : (o k : ℕ) → suc o + k ≡ o + suc k
one_on o k = omega arith

no_more : (o : ℕ) → o ≡ o + 0
no_more o = omega arith

from_none : (k : ℕ) → 0 + k ≡ k
from_none k = omega arith

next_row : (p : Program) (roots : Roots) (n : ℕ) (us : List AUnit) (k : ℕ) → row_in (next_round p roots n us) k ≡ next_roots p roots (n + k) 0 (unwrap_or (slice_get us k) no_unit).objects
next_row p roots n [] k = refl
next_row p roots n (u ∷ us) zero = ap (λ d. next_roots p roots d 0 u.objects) (no_more n)
next_row p roots n (u ∷ us) (suc k) = next_row p roots (suc n) us k ∙ ap (λ d. next_roots p roots d 0 (unwrap_or (slice_get us k) no_unit).objects) (one_on n k)

row_next : (p : Program) (roots : Roots) (d : ℕ) → row_in (next_round p roots 0 p) d ≡ next_roots p roots d 0 (unit_at p d).objects
row_next p roots d = next_row p roots 0 p d ∙ ap (λ e. next_roots p roots e 0 (unit_at p d).objects) (from_none d)

next_there : (p : Program) (roots : Roots) (d n : ℕ) (ws : List WrittenObject) (k : ℕ) → k < length ws
    → root_in (next_roots p roots d n ws) k ≡ next_root p roots d (n + k) (unwrap_or (slice_get ws k) no_object) (is_root_at roots d (n + k))
next_there p roots d n [] k h = absurd (omega arith)
next_there p roots d n (w ∷ ws) zero h = ap (λ o. next_root p roots d o w (is_root_at roots d o)) (no_more n)
next_there p roots d n (w ∷ ws) (suc k) h =
    let less : k < length ws = omega arith in
    next_there p roots d (suc n) ws k less ∙ ap (λ o. next_root p roots d o (unwrap_or (slice_get ws k) no_object) (is_root_at roots d o)) (one_on n k)

-- what one round makes of an object
root_next : (p : Program) (roots : Roots) (d o : ℕ) → o < length (unit_at p d).objects → is_root_at (next_round p roots 0 p) d o ≡ next_root p roots d o (object_at p d o) (is_root_at roots d o)
root_next p roots d o h =
    ap (λ row. root_in row o) (row_next p roots d) ∙ next_there p roots d 0 (unit_at p d).objects o h ∙
    ap (λ e. next_root p roots d e (object_at p d o) (is_root_at roots d e)) (from_none o)

next_fits : (p : Program) (roots : Roots) (d : ℕ) → Fits p d (next_round p roots 0 p)
next_fits p roots d = ap length (row_next p roots d) ∙ next_long p roots d 0 (unit_at p d).objects

map_long : {A B : Type 0} (f : A → B) (xs : List A) → length (map f xs) ≡ length xs
map_long f [] = refl
map_long f (x ∷ xs) = ap suc (map_long f xs)

first_row : (us : List AUnit) (d : ℕ) → row_in (map (λ (u : AUnit). map unknown u.objects) us) d ≡ map unknown (unwrap_or (slice_get us d) no_unit).objects
first_row [] d = refl
first_row (u ∷ us) zero = refl
first_row (u ∷ us) (suc d) = first_row us d

first_fits : (p : Program) (d : ℕ) → Fits p d (nothing_known p)
first_fits p d = ap length (first_row p d) ∙ map_long unknown (unit_at p d).objects

rounds_fit : (n : ℕ) (p : Program) (roots : Roots) (d : ℕ) → Fits p d roots → Fits p d (rounds n p roots)
rounds_fit zero p roots d f = f
rounds_fit (suc n) p roots d f = by_test (same_roots roots (next_round p roots 0 p)) (rounds_fit n p (next_round p roots 0 p) d (next_fits p roots d))
  where
    by_test : (c : Bool) → Fits p d (rounds n p (next_round p roots 0 p)) → Fits p d (elim c [ true ↦ roots | false ↦ rounds n p (next_round p roots 0 p) ])
    by_test true g = f
    by_test false g = g

-- ---- at last all is known

settled_row : (roots : Roots) (d : ℕ) → row_in (map (λ row. map settled row) roots) d ≡ map settled (row_in roots d)
settled_row [] d = refl
settled_row (r ∷ roots) zero = refl
settled_row (r ∷ roots) (suc d) = settled_row roots d

settled_there : (row : List IsRoot) (o : ℕ) → o < length row → root_in (map settled row) o ≡ settled (root_in row o)
settled_there [] o h = absurd (omega arith)
settled_there (r ∷ row) zero h = refl
settled_there (r ∷ row) (suc o) h = let less : o < length row = omega arith in settled_there row o less

abbrev last_round : Program → Roots
last_round p = rounds (rounds_enough p) p (nothing_known p)

at_last : (p : Program) (d o : ℕ) → o < length (unit_at p d).objects → is_root_at (roots_of p) d o ≡ settled (is_root_at (last_round p) d o)
at_last p d o h =
    ap (λ row. root_in row o) (settled_row (last_round p) d) ∙
    settled_there (row_in (last_round p) d) o (subst (λ n. o < n) (sym (rounds_fit (rounds_enough p) p (nothing_known p) d (first_fits p d))) h)

nowhere : (row : List IsRoot) (o : ℕ) → length row ≤ o → root_in row o ≡ None
nowhere [] o h = refl
nowhere (r ∷ row) zero h = absurd (omega arith)
nowhere (r ∷ row) (suc o) h = let less : length row ≤ o = omega arith in nowhere row o less

pub unknown_outside : (p : Program) (d o : ℕ) → length (unit_at p d).objects ≤ o → is_root_at (roots_of p) d o ≡ None
unknown_outside p d o h =
    ap (λ row. root_in row o) (settled_row (last_round p) d) ∙
    nowhere (map settled (row_in (last_round p) d)) o
    (subst (λ n. n ≤ o) (sym (map_long settled (row_in (last_round p) d) ∙ rounds_fit (rounds_enough p) p (nothing_known p) d (first_fits p d))) h)

is_settled : (x : IsRoot) → is_some (settled x) ≡ true
is_settled None = refl
is_settled (Some b) = refl

-- where all up to an object are known, it and all around it are
known_up_to : (p : Program) (roots : Roots) (d : ℕ) → OwnersAreLower p d → (n o : ℕ) → ((j : ℕ) → j ≤ o → is_some (is_root_at roots d j) ≡ true) → known_within n p roots d o ≡ true
known_up_to p roots d lower zero o h = refl
known_up_to p roots d lower (suc n) o h =
    ap (λ c. elim c [ false ↦ false | true ↦ around true (λ w. known_within n p roots d w) (owner p d o) ]) (h o (itself o)) ∙
    by_owner (owner p d o) refl (λ w l. known_up_to p roots d lower n w (λ j i. h j (up j w o i l)))
  where
    itself : (o : ℕ) → o ≤ o
    itself o = omega arith

    up : (j w o : ℕ) → j ≤ w → w < o → j ≤ o
    up j w o i l = omega arith

    by_owner : (x : Option ℕ) → owner p d o ≡ x → ((w : ℕ) → w < o → known_within n p roots d w ≡ true) → around true (λ w. known_within n p roots d w) x ≡ true
    by_owner None e rest = refl
    by_owner (Some w) e rest = rest w (lower o w e)

pub known_at_last : (p : Program) (d : ℕ) → OwnersAreLower p d → (o : ℕ) → o < length (unit_at p d).objects → is_known p (roots_of p) d o ≡ true
known_at_last p d lower o h =
    known_up_to p (roots_of p) d lower (length (unit_at p d).objects) o
    (λ j l. ap is_some (at_last p d j (below j o (length (unit_at p d).objects) l h)) ∙ is_settled (is_root_at (last_round p) d j))
  where
    below : (j o n : ℕ) → j ≤ o → o < n → j < n
    below j o n l h = omega arith

-- ---- what is decided

same_unknown : (a b : IsRoot) → same_root a b ≡ true → a ≡ None → b ≡ None
same_unknown None None s e = refl
same_unknown None (Some b) s e = absurd (false≢true s)
same_unknown (Some a) b s e = absurd (false≢true (sym (ap is_some e)))

both_true : (a c : Bool) → (a && c) ≡ true → (a ≡ true) × (c ≡ true)
both_true true c i = (refl, i)
both_true false c i = absurd (false≢true i)

row_unknown : (a b : List IsRoot) → same_row a b ≡ true → (o : ℕ) → root_in a o ≡ None → root_in b o ≡ None
row_unknown [] [] s o e = refl
row_unknown [] (b ∷ others) s o e = absurd (false≢true s)
row_unknown (a ∷ more) [] s o e = absurd (false≢true s)
row_unknown (a ∷ more) (b ∷ others) s zero e = same_unknown a b (both_true (same_root a b) (same_row more others) s).0 e
row_unknown (a ∷ more) (b ∷ others) s (suc o) e = row_unknown more others (both_true (same_root a b) (same_row more others) s).1 o e

rows_unknown : (a b : Roots) → same_roots a b ≡ true → (d o : ℕ) → is_root_at a d o ≡ None → is_root_at b d o ≡ None
rows_unknown [] [] s d o e = refl
rows_unknown [] (b ∷ others) s d o e = absurd (false≢true s)
rows_unknown (a ∷ more) [] s d o e = absurd (false≢true s)
rows_unknown (a ∷ more) (b ∷ others) s zero o e = row_unknown a b (both_true (same_row a b) (same_roots more others) s).0 o e
rows_unknown (a ∷ more) (b ∷ others) s (suc d) o e = rows_unknown more others (both_true (same_row a b) (same_roots more others) s).1 d o e

module _ (p : Program) (d : ℕ) (decided : ℕ → Bool) (lower : OwnersAreLower p d) (all : AreDecided p d decided) where
  abbrev N : ℕ
  N = length (unit_at p d).objects

  -- what is known is what is decided
  abbrev Right : Roots → Type 0
  Right roots = (o : ℕ) (c : Bool) → o < N → is_root_at roots d o ≡ Some c → c ≡ decided o

  -- the objects below a number are known
  abbrev Below : Roots → ℕ → Type 0
  Below roots k = (o : ℕ) → o < k → o < N → is_root_at roots d o ≡ Some (decided o)

  none_some : {X : Type 0} (c : Bool) → Path IsRoot None (Some c) → X
  none_some c e = absurd (false≢true (ap is_some e))

  right_at_first : Right (nothing_known p)
  right_at_first o c h e = none_some c (sym (none_there (unit_at p d).objects o) ∙ sym (ap (λ row. root_in row o) (first_row p d)) ∙ e)
    where
      none_there : (ws : List WrittenObject) (o : ℕ) → root_in (map unknown ws) o ≡ None
      none_there [] o = refl
      none_there (w ∷ ws) zero = refl
      none_there (w ∷ ws) (suc o) = none_there ws o

  right_next : (roots : Roots) → Right roots → Right (next_round p roots 0 p)
  right_next roots r o c h e = by_root (is_root_at roots d o) refl (sym (root_next p roots d o h) ∙ e)
    where
      by_known : (k : Bool) → Path IsRoot (elim k [ true ↦ root_as p roots d o (object_at p d o).role | false ↦ None ]) (Some c) → c ≡ decided o
      by_known true e = ap (λ x. unwrap_or x c) (sym e ∙ all roots o h)
      by_known false e = none_some c e

      by_root : (x : IsRoot) → is_root_at roots d o ≡ x → next_root p roots d o (object_at p d o) x ≡ Some c → c ≡ decided o
      by_root (Some b) i e = ap (λ x. unwrap_or x c) (sym e) ∙ r o b h i
      by_root None i e = by_known (owner_known p roots d (owner p d o)) e

  -- where all below are known, the next round knows the object
  knows_next : (roots : Roots) (o : ℕ) → o < N → Right roots → Below roots o → is_root_at (next_round p roots 0 p) d o ≡ Some (decided o)
  knows_next roots o h r b = root_next p roots d o h ∙ by_root (is_root_at roots d o) refl
    where
      less_than : (j w o n : ℕ) → j ≤ w → w < o → o < n → (j < o) × (j < n)
      less_than j w o n i l h = (let a : j < o = omega arith in a, let a : j < n = omega arith in a)

      owner_is_known : (x : Option ℕ) → owner p d o ≡ x → owner_known p roots d x ≡ true
      owner_is_known None e = refl
      owner_is_known (Some w) e =
          known_up_to p roots d lower (length (unit_at p d).objects) w
          (λ j i. let l = less_than j w o N i (lower o w e) h in ap is_some (b j l.0 l.1))

      by_root : (x : IsRoot) → is_root_at roots d o ≡ x → next_root p roots d o (object_at p d o) x ≡ Some (decided o)
      by_root (Some c) i = ap Some (r o c h i)
      by_root None i =
          ap (λ k. elim k [ true ↦ root_as p roots d o (object_at p d o).role | false ↦ None ]) (owner_is_known (owner p d o) refl) ∙ all roots o h

  stays_next : (roots : Roots) (o : ℕ) (c : Bool) → o < N → is_root_at roots d o ≡ Some c → is_root_at (next_round p roots 0 p) d o ≡ Some c
  stays_next roots o c h e = root_next p roots d o h ∙ ap (next_root p roots d o (object_at p d o)) e

  before_or_at : (j k : ℕ) → j < suc k → (j < k) ⊎ (j ≡ k)
  before_or_at j zero h = inr (omega arith)
  before_or_at zero (suc k) h = inl (omega arith)
  before_or_at (suc j) (suc k) h = let less : j < suc k = omega arith in one_up (before_or_at j k less)
    where
      one_up : (j < k) ⊎ (j ≡ k) → (suc j < suc k) ⊎ (suc j ≡ suc k)
      one_up (inl l) = inl (omega arith)
      one_up (inr e) = inr (ap suc e)

  below_next : (roots : Roots) (k : ℕ) → Right roots → Below roots k → Below (next_round p roots 0 p) (suc k)
  below_next roots k r b o l h = by_place (before_or_at o k l)
    where
      by_place : (o < k) ⊎ (o ≡ k) → is_root_at (next_round p roots 0 p) d o ≡ Some (decided o)
      by_place (inl i) = stays_next roots o (decided o) h (b o i h)
      by_place (inr e) = knows_next roots o h r (subst (Below roots) (sym e) b)

  -- where a round changes nothing, all are known
  all_at_rest : (roots : Roots) → Right roots → same_roots roots (next_round p roots 0 p) ≡ true → (k : ℕ) → Below roots k
  all_at_rest roots r s zero o l h = absurd (none_less o l)
    where
      none_less : (a : ℕ) → a < 0 → ⊥
      none_less a i = omega arith
  all_at_rest roots r s (suc k) o l h = by_place (all_at_rest roots r s k) (before_or_at o k l)
    where
      by_root : Below roots o → (x : IsRoot) → is_root_at roots d o ≡ x → x ≡ Some (decided o)
      by_root b (Some c) i = ap Some (r o c h i)
      by_root b None i = sym (rows_unknown roots (next_round p roots 0 p) s d o i) ∙ knows_next roots o h r b

      by_place : Below roots k → (o < k) ⊎ (o ≡ k) → is_root_at roots d o ≡ Some (decided o)
      by_place b (inl i) = b o i h
      by_place b (inr e) = by_root (subst (Below roots) (sym e) b) (is_root_at roots d o) refl

  after_rounds : (n k : ℕ) (roots : Roots) → Right roots → Below roots k → N ≤ n + k → (o : ℕ) → o < N → is_root_at (rounds n p roots) d o ≡ Some (decided o)
  after_rounds zero k roots r b e o h = b o (within o k N e h) h
    where
      within : (o k n : ℕ) → n ≤ 0 + k → o < n → o < k
      within o k n e h = omega arith
  after_rounds (suc n) k roots r b e o h =
      by_test (same_roots roots (next_round p roots 0 p)) refl
      (after_rounds n (suc k) (next_round p roots 0 p) (right_next roots r) (below_next roots k r b) (moved n k N e) o h)
    where
      moved : (n k m : ℕ) → m ≤ suc n + k → m ≤ n + suc k
      moved n k m e = omega arith

      by_test : (c : Bool) → same_roots roots (next_round p roots 0 p) ≡ c → is_root_at (rounds n p (next_round p roots 0 p)) d o ≡ Some (decided o)
          → is_root_at (elim c [ true ↦ roots | false ↦ rounds n p (next_round p roots 0 p) ]) d o ≡ Some (decided o)
      by_test true s rest = all_at_rest roots r s (suc o) o (itself o) h
        where
          itself : (o : ℕ) → o < suc o
          itself o = omega arith
      by_test false s rest = rest

  enough : (us : List AUnit) (d : ℕ) → length (unwrap_or (slice_get us d) no_unit).objects ≤ length (flat_map (λ (u : AUnit). u.objects) us)
  enough [] d = omega arith
  enough (u ∷ us) zero =
      subst (λ n. length u.objects ≤ n) (sym (length-append u.objects (flat_map (λ (v : AUnit). v.objects) us))) (first (length u.objects) (length (flat_map (λ (v : AUnit). v.objects) us)))
    where
      first : (a c : ℕ) → a ≤ a + c
      first a c = omega arith
  enough (u ∷ us) (suc d) =
      subst (λ n. length (unwrap_or (slice_get us d) no_unit).objects ≤ n) (sym (length-append u.objects (flat_map (λ (v : AUnit). v.objects) us)))
      (second (length u.objects) (length (flat_map (λ (v : AUnit). v.objects) us)) (length (unwrap_or (slice_get us d) no_unit).objects) (enough us d))
    where
      second : (a c n : ℕ) → n ≤ c → n ≤ a + c
      second a c n h = omega arith

  pub decided_at_last : (o : ℕ) → o < N → is_root_at (roots_of p) d o ≡ Some (decided o)
  decided_at_last o h =
      at_last p d o h ∙
      ap settled (after_rounds (rounds_enough p) 0 (nothing_known p) right_at_first none_below (room N (length (flat_map (λ (u : AUnit). u.objects) p)) (enough p d)) o h)
    where
      none_below : Below (nothing_known p) 0
      none_below o l h = absurd (none_less o l)
        where
          none_less : (a : ℕ) → a < 0 → ⊥
          none_less a i = omega arith

      room : (n m : ℕ) → n ≤ m → n ≤ suc m + 0
      room n m h = omega arith
