-- More depth than there are rules changes nothing, and what cells come to is the least solution.
use Rattle.std.proofs.Common.{zero-add, suc-add, ◌≡◌, ◌≢◌, ◌∙◌, ap, sym, refl, ℕ, zero, suc, ◌+◌, ◌-◌, ◌<◌, ◌≤◌, ◌⊎◌, inl, inr, List, [], ◌∷◌, length, slice_get, count_by, arith, if◌then◌else◌}
use Rattle.std.proofs.Math.Path.{fun_ext}
use Rattle.std.proofs.lemmas.Bool.{cases_lt}
use Rattle.std.proofs.lemmas.Grind.{common_steps}
use Rattle.std.proofs.lemmas.Option.{slice_get_past}
use Rattle.std.specs.declared.option.Option.{Option}
use Rattle.std.specs.declared.option.Option.TheVariants.{None, Some}
use Rattle.evaluation.specs.declared.came.Came.{Came}
use Rattle.evaluation.specs.declared.came.Came.TheVariants.{Value, Threw, Loop, Past}
use Rattle.tree_model.specs.Systems.{Outcomes, Step, given, ruled, is_ruled, step_of, shallow_of, if_there, pull, Keeps, AllSteady, Solves}

-- ---- how many cells loop
abbrev one_loop : Came → ℕ
one_loop (Value v) = 0
one_loop (Threw why) = 0
one_loop Loop = 1
one_loop Past = 0

abbrev pub loops : Outcomes → List Step → ℕ
loops f [] = 0
loops f (x ∷ xs) = one_loop (f 0) + loops (λ i. f (suc i)) xs

one_falls : (a b : Came) → (a ≢ Loop → b ≡ a) → one_loop b ≤ one_loop a
one_falls (Value z) b k = let e : b ≡ Value z = k (λ e. cc) in rw e (omega arith)
one_falls (Threw z) b k = let e : b ≡ Threw z = k (λ e. cc) in rw e (omega arith)
one_falls Loop (Value z) k = omega arith
one_falls Loop (Threw z) k = omega arith
one_falls Loop Loop k = omega arith
one_falls Loop Past k = omega arith
one_falls Past b k = let e : b ≡ Past = k (λ e. cc) in rw e (omega arith)

loops_fall : (f g : Outcomes) (xs : List Step) → Keeps f g → loops g xs ≤ loops f xs
loops_fall f g [] k = omega arith
loops_fall f g (x ∷ xs) k = omega (arith, one_falls (f 0) (g 0) (k 0), loops_fall (λ i. f (suc i)) (λ i. g (suc i)) xs (λ i. k (suc i)))

one_same : (a b : Came) → (a ≢ Loop → b ≡ a) → one_loop b ≡ one_loop a → b ≡ a
one_same (Value z) b k e = k (λ e. cc)
one_same (Threw z) b k e = k (λ e. cc)
one_same Loop (Value z) k e = absurd (omega arith)
one_same Loop (Threw z) k e = absurd (omega arith)
one_same Loop Loop k e = refl
one_same Loop Past k e = absurd (omega arith)
one_same Past b k e = k (λ e. cc)

loops_same : (f g : Outcomes) (xs : List Step) → Keeps f g → loops g xs ≡ loops f xs → (c : ℕ) → c < length xs → g c ≡ f c
loops_same f g [] k e c h = absurd (omega arith)
loops_same f g (x ∷ xs) k e zero h =
    one_same (f 0) (g 0) (k 0) (omega (arith, one_falls (f 0) (g 0) (k 0), loops_fall (λ i. f (suc i)) (λ i. g (suc i)) xs (λ i. k (suc i))))
loops_same f g (x ∷ xs) k e (suc c) h =
    loops_same (λ i. f (suc i)) (λ i. g (suc i)) xs (λ i. k (suc i))
    (omega (arith, one_falls (f 0) (g 0) (k 0), loops_fall (λ i. f (suc i)) (λ i. g (suc i)) xs (λ i. k (suc i)))) c (omega arith)

one_bound : (x : Step) → one_loop (shallow_of x) ≤ (if is_ruled x then 1 else 0)
one_bound (given v) = omega arith
one_bound (ruled rule) = omega arith

counted : (x : Step) (xs : List Step) → count_by is_ruled (x ∷ xs) ≡ (if is_ruled x then 1 else 0) + count_by is_ruled xs
counted x xs = grind (arith, common_steps)

loops_bound : (xs : List Step) → loops (pull xs zero) xs ≤ count_by is_ruled xs
loops_bound [] = omega arith
loops_bound (x ∷ xs) = omega (arith, one_bound x, loops_bound xs, counted x xs)

-- past the end each cell loops
pub past_end : (steps : List Step) (n c : ℕ) → length steps ≤ c → pull steps n c ≡ Loop
past_end steps zero c h = rw (slice_get_past steps c h) refl
past_end steps (suc n) c h = rw (slice_get_past steps c h) refl

module _ (steps : List Step) (steady : AllSteady steps) where
  step_keeps : (r s : Outcomes) (c : ℕ) → Keeps r s → (x : Option Step) → slice_get steps c ≡ x → if_there (step_of r) x ≢ Loop → if_there (step_of s) x ≡ if_there (step_of r) x
  step_keeps r s c keeps None at h = refl
  step_keeps r s c keeps (Some (given v)) at h = refl
  step_keeps r s c keeps (Some (ruled rule)) at h = steady c rule at r s keeps h

  pub content_keeps : (r s : Outcomes) → Keeps r s → (c : ℕ) → if_there (step_of r) (slice_get steps c) ≢ Loop → if_there (step_of s) (slice_get steps c) ≡ if_there (step_of r) (slice_get steps c)
  content_keeps r s keeps c h = step_keeps r s c keeps (slice_get steps c) refl h

  shallow_keeps : (r : Outcomes) (x : Option Step) → if_there shallow_of x ≢ Loop → if_there (step_of r) x ≡ if_there shallow_of x
  shallow_keeps r None h = refl
  shallow_keeps r (Some (given v)) h = refl
  shallow_keeps r (Some (ruled rule)) h = absurd (h refl)

  -- one level more keeps what doesn't loop
  pub pull_keeps : (n : ℕ) → Keeps (pull steps n) (pull steps (suc n))
  pull_keeps zero c h = shallow_keeps (pull steps zero) (slice_get steps c) h
  pull_keeps (suc n) c h = content_keeps (pull steps n) (pull steps (suc n)) (pull_keeps n) c h

  abbrev N : ℕ
  N = count_by is_ruled steps

  abbrev IsSettledAt : ℕ → Type 0
  IsSettledAt n = (c : ℕ) → pull steps (suc n) c ≡ pull steps n c

  -- where the loops are as many one level deeper, nothing changes there
  settles : (n : ℕ) → loops (pull steps (suc n)) steps ≡ loops (pull steps n) steps → IsSettledAt n
  settles n e c = by_place (cases_lt c (length steps))
    where
      by_place : (c < length steps) ⊎ (length steps ≤ c) → pull steps (suc n) c ≡ pull steps n c
      by_place (inl h) = loops_same (pull steps n) (pull steps (suc n)) steps (pull_keeps n) e c h
      by_place (inr h) = past_end steps (suc n) c h ∙ sym (past_end steps n c h)

  goes_on : (n : ℕ) → IsSettledAt n → IsSettledAt (suc n)
  goes_on n e c = ap (λ (f : Outcomes). if_there (step_of f) (slice_get steps c)) (fun_ext e)

  -- each level either changes nothing any more, or a cell less loops
  at_level : (n : ℕ) → IsSettledAt n ⊎ (loops (pull steps n) steps + n ≤ N)
  at_level zero = inr (omega (arith, loops_bound steps))
  at_level (suc n) = next (at_level n)
    where
      fall : loops (pull steps (suc n)) steps ≤ loops (pull steps n) steps
      fall = loops_fall (pull steps n) (pull steps (suc n)) steps (pull_keeps n)

      compare : (loops (pull steps (suc n)) steps < loops (pull steps n) steps) ⊎ (loops (pull steps n) steps ≤ loops (pull steps (suc n)) steps) → loops (pull steps n) steps + n ≤ N → IsSettledAt (suc n) ⊎ (loops (pull steps (suc n)) steps + suc n ≤ N)
      compare (inr ge) h = inl (goes_on n (settles n (omega (arith, fall))))
      compare (inl lt) h = inr (omega arith)

      next : IsSettledAt n ⊎ (loops (pull steps n) steps + n ≤ N) → IsSettledAt (suc n) ⊎ (loops (pull steps (suc n)) steps + suc n ≤ N)
      next (inl e) = inl (goes_on n e)
      next (inr h) = compare (cases_lt (loops (pull steps (suc n)) steps) (loops (pull steps n) steps)) h

  at_bound : IsSettledAt N
  at_bound = decide (at_level N)
    where
      fall : loops (pull steps (suc N)) steps ≤ loops (pull steps N) steps
      fall = loops_fall (pull steps N) (pull steps (suc N)) steps (pull_keeps N)

      decide : IsSettledAt N ⊎ (loops (pull steps N) steps + N ≤ N) → IsSettledAt N
      decide (inl e) = e
      decide (inr h) = settles N (omega (arith, fall, h))

  from_bound : (k c : ℕ) → IsSettledAt (k + N) × (pull steps (k + N) c ≡ pull steps N c)
  from_bound zero c = rw zero-add (at_bound, refl)
  from_bound (suc k) c =
      let before = from_bound k c in
      rw suc-add (goes_on (k + N) before.0, before.0 c ∙ before.1)

  -- from as many levels on as there are rules
  pub same_from : (n m c : ℕ) → N ≤ n → N ≤ m → pull steps n c ≡ pull steps m c
  same_from n m c h k =
      let at : n - N + N ≡ n = omega arith in
      let also : m - N + N ≡ m = omega arith in
      let there = from_bound (n - N) c in
      let here = from_bound (m - N) c in
      ap (λ j. pull steps j c) (sym at) ∙ there.1 ∙ sym here.1 ∙ ap (λ j. pull steps j c) also

  -- ---- solutions
  pub pull_solves : (n : ℕ) → N ≤ n → Solves steps (pull steps n)
  pull_solves n h c = same_from (suc n) n c (omega arith) h

  -- whatever solves the steps keeps what is pulled, to any depth
  pub pull_least : (read : Outcomes) → Solves steps read → (n : ℕ) → Keeps (pull steps n) read
  pull_least read solves zero c h = sym (solves c) ∙ shallow_keeps read (slice_get steps c) h
  pull_least read solves (suc n) c h = sym (solves c) ∙ content_keeps (pull steps n) read (pull_least read solves n) c h

  -- what is known at some depth is so at each depth that is enough
  pub pull_sound : (n m : ℕ) → N ≤ m → Keeps (pull steps n) (pull steps m)
  pull_sound n m h = pull_least (pull steps m) (pull_solves m h) n
