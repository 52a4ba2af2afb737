-- How many cells loop, before a sweep and in it.
use Rattle.std.proofs.Common.{◌≡◌, ◌∙◌, ap, subst, refl, ℕ, zero, suc, ◌+◌, ◌-◌, ◌<◌, ◌≤◌, ◌⊎◌, inl, inr, Bool, true, false, List, [], ◌∷◌, length, take, drop, slice_set, add-one, arith, if◌then◌else◌}
use Rattle.std.proofs.lemmas.Bool.{cases_lt}
use Rattle.std.specs.declared.option.Option.{Option}
use Rattle.std.specs.declared.option.Option.TheVariants.{None, Some}
use Rattle.qml_value.specs.declared.value.Value.{Value}
use Rattle.evaluation.specs.declared.came.Came.{Came}
use Rattle.evaluation.specs.declared.came.Came.TheVariants as came
use Rattle.tree_model.specs.declared.cells.Cell.{Cell}
use Rattle.tree_model.specs.declared.cells.Object.{Object}
use Rattle.tree_model.specs.declared.cells.Content.{Content}
use Rattle.tree_model.specs.declared.cells.Content.TheVariants.{Plain, Bound}
use Rattle.tree_model.specs.Settling.{is_active}
use Rattle.tree_model.specs.Rules.{World}
use Rattle.tree_settling.specs.Tables.{Table, BegunPlain, BegunContent, AllBegun, is_loop, loops_in, Visits, turn_of}
use Rattle.tree_settling.specs.Steps.{is_active_content, active_among, sum_to, loops_at, loops_left}
use Rattle.tree_settling.proofs.SweepLemmas.{count_loop}

drop_loops : (xs : Table) (i : ℕ) → i < length xs → loops_in (drop i xs) ≡ loops_at xs i + loops_in (drop (suc i) xs)
drop_loops [] i h = absurd (omega arith)
drop_loops (x ∷ xs) zero h = count_loop x xs
drop_loops (x ∷ xs) (suc i) h = drop_loops xs i (omega arith)

take_loops : (xs : Table) (i : ℕ) → i < length xs → loops_in (take (suc i) xs) ≡ loops_at xs i + loops_in (take i xs)
take_loops [] i h = absurd (omega arith)
take_loops (x ∷ xs) zero h = count_loop x []
take_loops (x ∷ xs) (suc i) h = omega (arith, take_loops xs i (omega arith), count_loop x (take (suc i) xs), count_loop x (take i xs))

drop_set : (xs : Table) (i : ℕ) (y : Option Came) → drop (suc i) (slice_set xs i y) ≡ drop (suc i) xs
drop_set [] i y = refl
drop_set (x ∷ xs) zero y = refl
drop_set (x ∷ xs) (suc i) y = drop_set xs i y

take_set : (xs : Table) (i : ℕ) (y : Option Came) → take i (slice_set xs i y) ≡ take i xs
take_set [] i y = refl
take_set (x ∷ xs) zero y = refl
take_set (x ∷ xs) (suc i) y = ap (λ (l : Table). x ∷ l) (take_set xs i y)

take_whole : (xs : Table) (n : ℕ) → n ≡ length xs → take n xs ≡ xs
take_whole [] n e = rw e refl
take_whole (x ∷ xs) n e = rw e (ap (λ (l : Table). x ∷ l) (take_whole xs (length xs) refl))

-- a visit changes what stands at its place alone
around_visit : (world : World) (cells : List Cell) (table : Table) (at : ℕ) (b : Bool) (new : Table) → Visits world cells table at b new → (drop (suc at) new ≡ drop (suc at) table) × (take at new ≡ take at table)
around_visit world cells table at true new v = rw v.written (drop_set table at (Some v.value), take_set table at (Some v.value))
around_visit world cells table at false new v = rw v.0 (refl, refl)

pub none_visited : (up : Bool) (table : Table) → loops_left up 0 table ≡ loops_in table
none_visited true table = refl
none_visited false table = ap loops_in (take_whole table (length table - 0) (omega arith))

pub next_left : (up : Bool) (table new : Table) (at k : ℕ) → k < length table → at ≡ turn_of up (length table) k → length new ≡ length table → (drop (suc at) new ≡ drop (suc at) table) × (take at new ≡ take at table) → loops_left up k table ≡ loops_at table at + loops_left up (k + 1) new
next_left true table new at k h e long same =
    let a = drop_loops table k h in
    let b : loops_in (drop (k + 1) new) ≡ loops_in (drop (suc k) table) = ap (λ n. loops_in (drop n new)) (add-one k) ∙ ap loops_in (subst (λ n. drop (suc n) new ≡ drop (suc n) table) e same.0) in
    let c : loops_at table at ≡ loops_at table k = ap (loops_at table) e in
    omega (arith, a, b, c)
next_left false table new at k h e long same =
    let a = take_loops table at (omega arith) in
    let s : length table - k ≡ suc at = omega arith in
    let b : loops_in (take (length table - k) table) ≡ loops_in (take (suc at) table) = ap (λ n. loops_in (take n table)) s in
    let t : length new - (k + 1) ≡ at = omega arith in
    let c : loops_in (take (length new - (k + 1)) new) ≡ loops_in (take at table) = ap (λ n. loops_in (take n new)) t ∙ ap loops_in same.1 in
    omega (arith, a, b, c)

pub visit_left : (world : World) (cells : List Cell) (up : Bool) (table new : Table) (at k : ℕ) (b : Bool) → Visits world cells table at b new → k < length table → at ≡ turn_of up (length table) k → length new ≡ length table → loops_left up k table ≡ loops_at table at + loops_left up (k + 1) new
visit_left world cells up table new at k b v h e long = next_left up table new at k h e long (around_visit world cells table at b new v)

pub one_left : (up : Bool) (table : Table) (at k : ℕ) → k < length table → at ≡ turn_of up (length table) k → loops_at table at ≤ loops_left up k table
one_left up table at k h e = let next = next_left up table table at k h e refl (refl, refl) in omega (arith, next)

-- ---- sums
sum_grows : (m n : ℕ) → m ≤ n → sum_to m ≤ sum_to n
sum_grows m zero h = let none : m ≡ 0 = omega arith in rw none (omega arith)
sum_grows m (suc n) h = by_less (cases_lt n m) (sum_grows m n)
  where
    by_less : (n < m) ⊎ (m ≤ n) → (m ≤ n → sum_to m ≤ sum_to n) → sum_to m ≤ sum_to (suc n)
    by_less (inl more) rest = let same : m ≡ suc n = omega arith in rw same (omega arith)
    by_less (inr less) rest = let grows = rest less in omega (arith, grows)

pub sum_falls : (m n : ℕ) → m < n → n + sum_to m ≤ sum_to n
sum_falls m zero h = absurd (omega arith)
sum_falls m (suc n) h = let rest = sum_grows m n (omega arith) in omega (arith, rest)

pub at_most_sum : (n : ℕ) → n ≤ sum_to n
at_most_sum zero = omega arith
at_most_sum (suc n) = omega arith

-- ---- at depth 0 the active bindings loop
plain_loops : (v held : Value) (entry : Option Came) → BegunPlain v held entry → is_loop entry ≡ false
plain_loops v held None e = refl
plain_loops v held (Some o) e = rw e refl

bound_loops : (b : Bool) → is_loop (if b then Some came.Loop else None) ≡ b
bound_loops true = refl
bound_loops false = refl

content_loops : (objects : List Object) (cell : Cell) (content : Content) (entry : Option Came) → BegunContent objects cell content entry → is_loop entry ≡ is_active_content objects cell.no content
content_loops objects cell (Plain v) entry e = plain_loops v cell.held entry e
content_loops objects cell (Bound binding) entry e = ap is_loop e ∙ bound_loops (is_active objects cell.no binding)

pub begun_loops : (objects : List Object) (cells : List Cell) (table : Table) → AllBegun objects cells table → loops_in table ≡ active_among objects cells
begun_loops objects [] [] all = refl
begun_loops objects [] (entry ∷ table) all = absurd all
begun_loops objects (cell ∷ cells) [] all = absurd all
begun_loops objects (cell ∷ cells) (entry ∷ table) all =
    let rest = begun_loops objects cells table all.1 in
    let here : ◌≡◌ {A = ℕ} (if is_loop entry then 1 else 0) (if is_active_content objects cell.no cell.content then 1 else 0) = ap (λ (b : Bool). if b then 1 else 0) (content_loops objects cell cell.content entry all.0) in
    omega (arith, rest, here, count_loop entry table)
