-- A tree that has settled is fresh, and settles to itself.
use Rattle.std.proofs.Common.{◌≡◌, ◌≢◌, ◌∙◌, ap, sym, refl, ℕ, suc, zero, ◌<◌, ◌+◌, zero-add, Bool, true, false, List, [], ◌∷◌, length, slice_get, count_by, arith, if◌then◌else◌}
use Rattle.std.proofs.Math.Path.{fun_ext}
use Rattle.std.proofs.lemmas.Grind.{common_steps}
use Rattle.std.specs.declared.option.Option.{Option}
use Rattle.std.specs.declared.option.Option.TheVariants.{None, Some}
use Rattle.qml_value.specs.declared.value.Value.{Value}
use Rattle.qml_base.specs.declared.cause.Cause.{Cause}
use Rattle.evaluation.specs.declared.came.Came.{Came}
use Rattle.evaluation.specs.declared.came.Came.TheVariants as came
use Rattle.qml_base.specs.declared.numbers.CellNo.{CellNo}
use Rattle.tree_model.specs.declared.cells.Cell.{Cell}
use Rattle.tree_model.specs.declared.cells.Content.{Content}
use Rattle.tree_model.specs.declared.cells.Content.TheVariants.{Plain, Bound}
use Rattle.tree_model.specs.Systems.{Outcomes, Step, given, ruled, step_of, shallow_of, if_there, pull, Keeps, Solves}
use Rattle.evaluation.specs.Evaluating.{is, Reading}
use Rattle.tree_model.specs.Rules.{World, evaluation, converted}
use Rattle.tree_model.specs.Settling.{Tree, same_cell, place_of, held_in, held_at, seen_of, reading, came_of, content_step, step, steps, is_bound, is_active, fresh, held_by, taking, taking_all, settled, with_cells, Shows, Fresh, NonePast}
use Rattle.tree_model.proofs.DepthLemmas.{same_from, pull_solves, pull_least}
use Rattle.tree_model.proofs.SteadyLemmas.{all_steady, few_rules, step_at}

pub fresh_is_pull : (world : World) (tree : Tree) (i : ℕ) → fresh world tree i ≡ pull (steps world tree) (suc (count_by is_bound tree.cells)) i
unfolding fresh
fresh_is_pull world tree i = refl

pub same_below : (world : World) (tree : Tree) (n i : ℕ) → count_by is_bound tree.cells < n → pull (steps world tree) n i ≡ fresh world tree i
same_below world tree n i h =
    let few = few_rules world tree in
    same_from (steps world tree) (all_steady world tree) n (suc (count_by is_bound tree.cells)) i (omega arith) (omega arith) ∙ sym (fresh_is_pull world tree i)

pub fresh_solves : (world : World) (tree : Tree) → Solves (steps world tree) (fresh world tree)
fresh_solves world tree =
    let few = few_rules world tree in
    let is_pull : fresh world tree ≡ pull (steps world tree) (suc (count_by is_bound tree.cells)) = fun_ext (fresh_is_pull world tree) in
    rw is_pull (pull_solves (steps world tree) (all_steady world tree) (suc (count_by is_bound tree.cells)) (omega arith))

pub fresh_least : (world : World) (tree : Tree) → (read : Outcomes) → Solves (steps world tree) read → Keeps (fresh world tree) read
fresh_least world tree read solves i h =
    let is_pull = fresh_is_pull world tree i in
    pull_least (steps world tree) (all_steady world tree) read solves (suc (count_by is_bound tree.cells)) i (rw (← is_pull) h) ∙ sym is_pull

pub pull_keeps_fresh : (world : World) (tree : Tree) → (n : ℕ) → Keeps (pull (steps world tree) n) (fresh world tree)
pull_keeps_fresh world tree n = pull_least (steps world tree) (all_steady world tree) (fresh world tree) (fresh_solves world tree) n

-- ---- the cells that took what came
taken_at : (read : Outcomes) (k : ℕ) (cells : List Cell) (i : ℕ) → slice_get (taking_all read k cells) i ≡ elim (slice_get cells i) [ None ↦ None | Some cell ↦ Some (taking cell (read (i + k))) ]
taken_at read k [] i = refl
taken_at read k (x ∷ xs) zero = rw zero-add refl
taken_at read k (x ∷ xs) (suc i) =
    let at : i + suc k ≡ suc i + k = omega arith in
    taken_at read (suc k) xs i ∙ ap (λ n. elim (slice_get xs i) [ None ↦ None | Some cell ↦ Some (taking cell (read n)) ]) at

pub settled_at : (world : World) (tree : Tree) (i : ℕ) → slice_get (settled world tree) i ≡ elim (slice_get tree.cells i) [ None ↦ None | Some cell ↦ Some (taking cell (fresh world tree i)) ]
settled_at world tree i =
    let at : i + 0 ≡ i = omega arith in
    taken_at (fresh world tree) 0 tree.cells i ∙ ap (λ n. elim (slice_get tree.cells i) [ None ↦ None | Some cell ↦ Some (taking cell (fresh world tree n)) ]) at

there_below : (cells : List Cell) (i : ℕ) (cell : Cell) → slice_get cells i ≡ Some cell → i < length cells
there_below [] i cell e = cc
there_below (x ∷ xs) zero cell e = omega arith
there_below (x ∷ xs) (suc i) cell e = omega (arith, there_below xs i cell e)

shows : (o : Came) (cell : Cell) → o ≢ came.Past → Shows o (taking cell o)
shows (came.Value v) cell h = (refl, refl)
shows (came.Threw why) cell h = refl
shows came.Loop cell h = refl
shows came.Past cell h = absurd (h refl)

pub settled_shows : (world : World) (tree : Tree) → NonePast (fresh world tree) tree.cells → (i : ℕ) (cell : Cell) → slice_get (settled world tree) i ≡ Some cell → Shows (fresh world tree i) cell
settled_shows world tree none i cell e = by_cell (slice_get tree.cells i) refl (settled_at world tree i)
  where
    by_cell : (o : Option Cell) → slice_get tree.cells i ≡ o → slice_get (settled world tree) i ≡ elim o [ None ↦ None | Some cell ↦ Some (taking cell (fresh world tree i)) ] → Shows (fresh world tree i) cell
    by_cell None at taken = absurd (cc)
    by_cell (Some old) at taken =
        let same : taking old (fresh world tree i) ≡ cell = cc in
        let there : i < length tree.cells = there_below tree.cells i old at in
        rw (← same) (shows (fresh world tree i) old (none i there))

-- ---- the same steps again
take_twice : (o : Came) (cell : Cell) → taking (taking cell o) o ≡ taking cell o
take_twice (came.Value v) cell = refl
take_twice (came.Threw why) cell = refl
take_twice came.Loop cell = refl
take_twice came.Past cell = refl

all_twice : (read : Outcomes) (k : ℕ) (cells : List Cell) → taking_all read k (taking_all read k cells) ≡ taking_all read k cells
all_twice read k [] = refl
all_twice read k (x ∷ xs) = rw (take_twice (read k) x, all_twice read (suc k) xs) refl

count_bound : (x : Cell) (xs : List Cell) → count_by is_bound (x ∷ xs) ≡ (if is_bound x then 1 else 0) + count_by is_bound xs
count_bound x xs = grind (arith, common_steps)

as_many_bound : (read : Outcomes) (k : ℕ) (cells : List Cell) → count_by is_bound (taking_all read k cells) ≡ count_by is_bound cells
as_many_bound read k [] = refl
as_many_bound read k (x ∷ xs) = count_bound (taking x (read k)) (taking_all read (suc k) xs) ∙ ap (λ n. (if is_bound x then 1 else 0) + n) (as_many_bound read (suc k) xs) ∙ sym (count_bound x xs)

same_places : (read : Outcomes) (k : ℕ) (cells : List Cell) (c : CellNo) → place_of (taking_all read k cells) c ≡ place_of cells c
same_places read k [] c = refl
same_places read k (x ∷ xs) c = ap (λ n. if same_cell x.no c then 0 else suc n) (same_places read (suc k) xs c)

module _ (world : World) (tree : Tree) where
  abbrev again : Tree
  again = with_cells tree (settled world tree)

  held_stays : (j : ℕ) (why : Cause) → fresh world tree j ≡ came.Threw why → held_at (settled world tree) j ≡ held_at tree.cells j
  held_stays j why e = by_cell (slice_get tree.cells j) (settled_at world tree j)
    where
      by_cell : (o : Option Cell) → slice_get (settled world tree) j ≡ elim o [ None ↦ None | Some cell ↦ Some (taking cell (fresh world tree j)) ] → held_at (settled world tree) j ≡ held_in o
      by_cell None taken = ap held_in taken
      by_cell (Some cell) taken = ap held_in taken ∙ ap (λ o. held_by o cell.held) e

  same_seen : (n j : ℕ) (o : Came) → pull (steps world tree) n j ≡ o → seen_of (held_at (settled world tree) j) o ≡ seen_of (held_at tree.cells j) o
  same_seen n j (came.Value v) e = refl
  same_seen n j (came.Threw why) e =
      let not : pull (steps world tree) n j ≢ came.Loop = λ l. let no : came.Threw why ≡ came.Loop = sym e ∙ l in cc in
      ap is (held_stays j why (pull_keeps_fresh world tree n j not ∙ e))
  same_seen n j came.Loop e = refl
  same_seen n j came.Past e = refl

  same_reading : (n : ℕ) (c : CellNo) → reading (settled world tree) (pull (steps world tree) n) c ≡ reading tree.cells (pull (steps world tree) n) c
  same_reading n c =
      let places = same_places (fresh world tree) 0 tree.cells c in
      rw places (same_seen n (place_of tree.cells c) (pull (steps world tree) n (place_of tree.cells c)) refl)

  -- what is given is the same
  inactive_fresh : (i : ℕ) (cell : Cell) (v : Value) → slice_get tree.cells i ≡ Some cell → step world tree cell ≡ given v → fresh world tree i ≡ came.Value v
  inactive_fresh i cell v at e =
      let here : slice_get (steps world tree) i ≡ Some (given v) = step_at world tree tree.cells i ∙ ap (λ o. elim o [ None ↦ None | Some cell ↦ Some (step world tree cell) ]) at ∙ ap Some e in
      fresh_is_pull world tree i ∙ ap (if_there (step_of (pull (steps world tree) (count_by is_bound tree.cells)))) here

  abbrev Alike : Step → Step → Type 0
  Alike s t = (n : ℕ) → ((j : ℕ) → pull (steps world again) n j ≡ pull (steps world tree) n j) → step_of (pull (steps world again) n) s ≡ step_of (pull (steps world tree) n) t

  step_alike : (i : ℕ) (cell : Cell) (content : Content) → slice_get tree.cells i ≡ Some cell → cell.content ≡ content → (shallow_of (content_step world again (taking cell (fresh world tree i)) content) ≡ shallow_of (content_step world tree cell content)) × Alike (content_step world again (taking cell (fresh world tree i)) content) (content_step world tree cell content)
  step_alike i cell (Plain v) at with_content = (refl, λ n same. refl)
  step_alike i cell (Bound binding) at with_content = by_active (is_active tree.objects cell.no binding) refl
    where
      by_active : (b : Bool) → is_active tree.objects cell.no binding ≡ b → (shallow_of (if b then ruled (came_of world (settled world tree) (taking cell (fresh world tree i)) binding) else given (held_by (fresh world tree i) cell.held)) ≡ shallow_of (if b then ruled (came_of world tree.cells cell binding) else given cell.held)) × Alike (if b then ruled (came_of world (settled world tree) (taking cell (fresh world tree i)) binding) else given (held_by (fresh world tree i) cell.held)) (if b then ruled (came_of world tree.cells cell binding) else given cell.held)
      by_active true e = (
        refl,
        λ n same.
            let reads : pull (steps world again) n ≡ pull (steps world tree) n = fun_ext same in
            let seen : reading (settled world tree) (pull (steps world tree) n) ≡ reading tree.cells (pull (steps world tree) n) = fun_ext (same_reading n) in
            ap (λ (r : Outcomes). came_of world (settled world tree) cell binding r) reads ∙ ap (λ (r : Reading). converted world.types cell.kind (evaluation world cell.no.object binding.rule r).came) seen,
      )
      by_active false e =
          let was : step world tree cell ≡ given cell.held = ap (content_step world tree cell) with_content ∙ ap (λ (b : Bool). if b then ruled (came_of world tree.cells cell binding) else given cell.held) e in
          let same : held_by (fresh world tree i) cell.held ≡ cell.held = ap (λ o. held_by o cell.held) (inactive_fresh i cell cell.held at was) in
          (ap came.Value same, λ n eq. ap came.Value same)

  both_steps : (i : ℕ) (cell : Cell) → slice_get tree.cells i ≡ Some cell → (slice_get (steps world again) i ≡ Some (step world again (taking cell (fresh world tree i)))) × (slice_get (steps world tree) i ≡ Some (step world tree cell))
  both_steps i cell at =
      let taken : slice_get (settled world tree) i ≡ Some (taking cell (fresh world tree i)) = settled_at world tree i ∙ ap (λ o. elim o [ None ↦ None | Some cell ↦ Some (taking cell (fresh world tree i)) ]) at in (
        step_at world again (settled world tree) i ∙ ap (λ o. elim o [ None ↦ None | Some cell ↦ Some (step world again cell) ]) taken,
        step_at world tree tree.cells i ∙ ap (λ o. elim o [ None ↦ None | Some cell ↦ Some (step world tree cell) ]) at,
      )

  no_steps : (i : ℕ) → slice_get tree.cells i ≡ None → (slice_get (steps world again) i ≡ None) × (slice_get (steps world tree) i ≡ None)
  no_steps i at =
      let taken : slice_get (settled world tree) i ≡ None = settled_at world tree i ∙ ap (λ o. elim o [ None ↦ None | Some cell ↦ Some (taking cell (fresh world tree i)) ]) at in (
        step_at world again (settled world tree) i ∙ ap (λ o. elim o [ None ↦ None | Some cell ↦ Some (step world again cell) ]) taken,
        step_at world tree tree.cells i ∙ ap (λ o. elim o [ None ↦ None | Some cell ↦ Some (step world tree cell) ]) at,
      )

  shallow_again : (i : ℕ) → pull (steps world again) zero i ≡ pull (steps world tree) zero i
  shallow_again i = by_cell (slice_get tree.cells i) refl
    where
      by_cell : (o : Option Cell) → slice_get tree.cells i ≡ o → pull (steps world again) zero i ≡ pull (steps world tree) zero i
      by_cell None at = let none = no_steps i at in ap (if_there shallow_of) none.0 ∙ sym (ap (if_there shallow_of) none.1)
      by_cell (Some cell) at = let both = both_steps i cell at in ap (if_there shallow_of) both.0 ∙ (step_alike i cell cell.content at refl).0 ∙ sym (ap (if_there shallow_of) both.1)

  deeper_again : (n : ℕ) → ((j : ℕ) → pull (steps world again) n j ≡ pull (steps world tree) n j) → (i : ℕ) → pull (steps world again) (suc n) i ≡ pull (steps world tree) (suc n) i
  deeper_again n same i = by_cell (slice_get tree.cells i) refl
    where
      by_cell : (o : Option Cell) → slice_get tree.cells i ≡ o → pull (steps world again) (suc n) i ≡ pull (steps world tree) (suc n) i
      by_cell None at = let none = no_steps i at in ap (if_there (step_of (pull (steps world again) n))) none.0 ∙ sym (ap (if_there (step_of (pull (steps world tree) n))) none.1)
      by_cell (Some cell) at =
          let both = both_steps i cell at in
          ap (if_there (step_of (pull (steps world again) n))) both.0 ∙ (step_alike i cell cell.content at refl).1 n same ∙ sym (ap (if_there (step_of (pull (steps world tree) n))) both.1)

  pub pull_again : (n i : ℕ) → pull (steps world again) n i ≡ pull (steps world tree) n i
  pull_again zero i = shallow_again i
  pull_again (suc n) i = deeper_again n (pull_again n) i

  pub fresh_again : (i : ℕ) → fresh world again i ≡ fresh world tree i
  fresh_again i =
      let many : count_by is_bound (settled world tree) ≡ count_by is_bound tree.cells = as_many_bound (fresh world tree) 0 tree.cells in
      fresh_is_pull world again i ∙ ap (λ n. pull (steps world again) (suc n) i) many ∙ pull_again (suc (count_by is_bound tree.cells)) i ∙ sym (fresh_is_pull world tree i)

  pub settled_again : settled world again ≡ settled world tree
  settled_again =
      let same : fresh world again ≡ fresh world tree = fun_ext fresh_again in
      ap (λ (read : Outcomes). taking_all read 0 (settled world tree)) same ∙ all_twice (fresh world tree) 0 tree.cells

pub settled_fresh : (world : World) (tree : Tree) → NonePast (fresh world tree) tree.cells → Fresh world (with_cells tree (settled world tree))
settled_fresh world tree none i cell e = rw (fresh_again world tree i) (settled_shows world tree none i cell e)
