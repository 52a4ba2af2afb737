-- Visits keep the table right, and where all rest it says what is fresh.
use Rattle.std.proofs.Common.{◌≡◌, ◌≢◌, ◌∙◌, ap, sym, subst, refl, ℕ, zero, suc, ◌+◌, ◌-◌, ◌<◌, ◌≤◌, ◌⊎◌, inl, inr, Bool, true, false, List, [], ◌∷◌, length, slice_get, slice_set, count_by, length-set, arith, if◌then◌else◌}
use Rattle.std.proofs.lemmas.Bool.{cases_eq, cases_lt}
use Rattle.std.proofs.lemmas.Option.{slice_get_within}
use Rattle.std.proofs.lemmas.Grind.{common_steps}
use Rattle.std.specs.declared.option.Option.{Option}
use Rattle.std.specs.declared.option.Option.TheVariants.{None, Some}
use Rattle.qml_value.specs.declared.value.Value.{Value}
use Rattle.evaluation.specs.declared.came.Came.{Came}
use Rattle.evaluation.specs.declared.came.Came.TheVariants as came
use Rattle.tree_model.specs.declared.cells.Cell.{Cell}
use Rattle.tree_model.specs.declared.cells.Binding.{Binding}
use Rattle.tree_model.specs.declared.cells.Content.{Content}
use Rattle.tree_model.specs.declared.cells.Content.TheVariants.{Plain, Bound}
use Rattle.tree_model.specs.declared.cells.Object.{Object}
use Rattle.tree_model.specs.Systems.{given, ruled, step_of, if_there, Keeps, IsSteady, Solves}
use Rattle.tree_model.specs.Rules.{World}
use Rattle.tree_model.specs.Settling.{Tree, step, steps, content_step, fresh, is_active, came_of}
use Rattle.tree_model.proofs.DepthLemmas.{content_keeps}
use Rattle.tree_model.proofs.SteadyLemmas.{all_steady, came_steady, step_at}
use Rattle.tree_model.proofs.SettlingLemmas.{fresh_solves, fresh_least}
use Rattle.tree_settling.specs.Tables.{Table, read_in, there_came, entry_came, own_value, BegunContent, AllBegun, Ready, IsRuled, IsRight, is_loop, loops_in, Visited, StillLoops, Visits, Swept, turn_of, tree_of}

-- ---- one entry of a table
get_set_same : (xs : Table) (i : ℕ) (y : Option Came) → i < length xs → slice_get (slice_set xs i y) i ≡ Some y
get_set_same [] i y h = absurd (omega arith)
get_set_same (x ∷ xs) zero y h = refl
get_set_same (x ∷ xs) (suc i) y h = get_set_same xs i y (omega arith)

get_set_other : (xs : Table) (i j : ℕ) (y : Option Came) → j ≢ i → slice_get (slice_set xs i y) j ≡ slice_get xs j
get_set_other [] i j y h = refl
get_set_other (x ∷ xs) zero zero y h = absurd (h refl)
get_set_other (x ∷ xs) zero (suc j) y h = refl
get_set_other (x ∷ xs) (suc i) zero y h = refl
get_set_other (x ∷ xs) (suc i) (suc j) y h = get_set_other xs i j y (λ e. h (ap suc e))

slice_there : (xs : Table) (i : ℕ) → i < length xs → slice_get xs i ≢ None
slice_there [] i h e = absurd (omega arith)
slice_there (x ∷ xs) zero h e = cc
slice_there (x ∷ xs) (suc i) h e = slice_there xs i (omega arith) e

slice_there_cells : (xs : List Cell) (i : ℕ) → i < length xs → slice_get xs i ≢ None
slice_there_cells [] i h e = absurd (omega arith)
slice_there_cells (x ∷ xs) zero h e = cc
slice_there_cells (x ∷ xs) (suc i) h e = slice_there_cells xs i (omega arith) e

pub count_loop : (x : Option Came) (xs : Table) → count_by is_loop (x ∷ xs) ≡ (if is_loop x then 1 else 0) + count_by is_loop xs
count_loop x xs = grind (arith, common_steps)

falls : (xs : Table) (i : ℕ) (o : Came) → slice_get xs i ≡ Some (Some came.Loop) → o ≢ came.Loop → loops_in (slice_set xs i (Some o)) < loops_in xs
falls [] i o at some = cc
falls (x ∷ xs) zero o at some = by_came o some
  where
    here : x ≡ Some came.Loop
    here = cc

    one : ◌≡◌ {A = ℕ} (if is_loop x then 1 else 0) 1
    one = rw here refl

    by_came : (o : Came) → o ≢ came.Loop → loops_in (Some o ∷ xs) < loops_in (x ∷ xs)
    by_came (came.Value v) h = omega (arith, count_loop (Some (came.Value v)) xs, count_loop x xs, one)
    by_came (came.Threw why) h = omega (arith, count_loop (Some (came.Threw why)) xs, count_loop x xs, one)
    by_came came.Loop h = absurd (h refl)
    by_came came.Past h = omega (arith, count_loop (Some came.Past) xs, count_loop x xs, one)
falls (x ∷ xs) (suc i) o at some = omega (arith, falls xs i o at some, count_loop x xs, count_loop x (slice_set xs i (Some o)))

pub visited_falls : (world : World) (cells : List Cell) (table : Table) (at : ℕ) (new : Table) → Visited world cells table at new → loops_in new < loops_in table
visited_falls world cells table at new v = rw v.written (falls table at v.value v.looped v.some)

-- ---- a visit
module _ (world : World) (objects : List Object) (cells : List Cell) where
  abbrev tree : Tree
  tree = tree_of objects cells

  ruled_at : (i : ℕ) (cell : Cell) (binding : Binding) → slice_get cells i ≡ Some cell → cell.content ≡ Bound binding → is_active objects cell.no binding ≡ true → slice_get (steps world tree) i ≡ Some (ruled (came_of world cells cell binding))
  ruled_at i cell binding at bound active =
      step_at world tree cells i ∙ ap (λ o. elim o [ None ↦ None | Some cell ↦ Some (step world tree cell) ]) at ∙ ap Some (ap (content_step world tree cell) bound ∙ ap (λ (b : Bool). if b then ruled (came_of world cells cell binding) else given cell.held) active)

  module _ (table : Table) (at : ℕ) (new : Table) (was : IsRight world tree table) (v : Visited world cells table at new) where
    there : at < length table
    there = slice_get_within table at (Some came.Loop) v.looped

    -- the binding that was evaluated is the active one of that place
    rule_at : slice_get (steps world tree) at ≡ Some (ruled (came_of world cells v.cell v.binding))
    rule_at =
        let r = was.fits at v.looped in
        let same_cell : r.cell ≡ v.cell = let both : Some r.cell ≡ Some v.cell = sym r.there ∙ v.there in cc in
        let same_binding : r.binding ≡ v.binding = let both : Bound r.binding ≡ Bound v.binding = sym r.bound ∙ ap (λ (c : Cell). c.content) same_cell ∙ v.bound in cc in
        let active : is_active objects v.cell.no v.binding ≡ true = ap (λ (b : Binding). is_active objects v.cell.no b) (sym same_binding) ∙ ap (λ (c : Cell). is_active objects c.no r.binding) (sym same_cell) ∙ r.active in
        ruled_at at v.cell v.binding v.there v.bound active

    read_same : read_in cells new at ≡ v.value
    read_same = ap (λ (t : Table). read_in cells t at) v.written ∙ ap (λ o. there_came o (slice_get (slice_set table at (Some v.value)) at)) v.there ∙ ap (there_came (Some v.cell)) (get_set_same table at (Some v.value) there)

    read_other : (d : ℕ) → d ≢ at → read_in cells new d ≡ read_in cells table d
    read_other d other = ap (λ (t : Table). read_in cells t d) v.written ∙ ap (there_came (slice_get cells d)) (get_set_other table at d (Some v.value) other)

    read_before : read_in cells table at ≡ came.Loop
    read_before = ap (λ o. there_came o (slice_get table at)) v.there ∙ ap (there_came (Some v.cell)) v.looped

    more_is_known : Keeps (read_in cells table) (read_in cells new)
    more_is_known d h = by_place (cases_eq d at)
      where
        by_place : (d ≡ at) ⊎ (d ≢ at) → read_in cells new d ≡ read_in cells table d
        by_place (inl same) = absurd (h (ap (read_in cells table) same ∙ read_before))
        by_place (inr other) = read_other d other

    steady : IsSteady (came_of world cells v.cell v.binding)
    steady = came_steady world cells v.cell v.binding

    some : came_of world cells v.cell v.binding (read_in cells table) ≢ came.Loop
    some e = v.some (v.is ∙ e)

    solved : came_of world cells v.cell v.binding (fresh world tree) ≡ fresh world tree at
    solved = sym (ap (if_there (step_of (fresh world tree))) rule_at) ∙ fresh_solves world tree at

    new_sound : Keeps (read_in cells new) (fresh world tree)
    new_sound d h = by_place (cases_eq d at)
      where
        by_place : (d ≡ at) ⊎ (d ≢ at) → fresh world tree d ≡ read_in cells new d
        by_place (inl same) = rw same (sym solved ∙ steady (read_in cells table) (fresh world tree) was.sound some ∙ sym v.is ∙ sym read_same)
        by_place (inr other) = was.sound d (rw (read_other d other) at h) ∙ sym (read_other d other)

    new_supported : (d : ℕ) → read_in cells new d ≢ came.Loop → if_there (step_of (read_in cells new)) (slice_get (steps world tree) d) ≡ read_in cells new d
    new_supported d h = by_place (cases_eq d at)
      where
        by_place : (d ≡ at) ⊎ (d ≢ at) → if_there (step_of (read_in cells new)) (slice_get (steps world tree) d) ≡ read_in cells new d
        by_place (inl same) = rw same (ap (if_there (step_of (read_in cells new))) rule_at ∙ steady (read_in cells table) (read_in cells new) more_is_known some ∙ sym v.is ∙ sym read_same)
        by_place (inr other) =
            let k : read_in cells table d ≢ came.Loop = rw (read_other d other) at h in
            let e = was.supported d k in
            content_keeps (steps world tree) (all_steady world tree) (read_in cells table) (read_in cells new) more_is_known d (rw e k) ∙ e ∙ sym (read_other d other)

    new_fits : (i : ℕ) → slice_get new i ≡ Some (Some came.Loop) → IsRuled objects cells i
    new_fits i e = by_place (cases_eq i at)
      where
        by_place : (i ≡ at) ⊎ (i ≢ at) → IsRuled objects cells i
        by_place (inl same) =
            let is_value : slice_get new i ≡ Some (Some v.value) = rw same (ap (λ (t : Table). slice_get t at) v.written ∙ get_set_same table at (Some v.value) there) in
            absurd (v.some (let both : Some (Some v.value) ≡ Some (Some came.Loop) = sym is_value ∙ e in cc))
        by_place (inr other) = was.fits i (sym (ap (λ (t : Table). slice_get t i) v.written ∙ get_set_other table at i (Some v.value) other) ∙ e)

    new_ready : Ready cells new
    new_ready i cell is_cell e = by_place (cases_eq i at)
      where
        by_place : (i ≡ at) ⊎ (i ≢ at) → own_value cell.content cell.held ≡ cell.held
        by_place (inl same) =
            let is_value : slice_get new i ≡ Some (Some v.value) = rw same (ap (λ (t : Table). slice_get t at) v.written ∙ get_set_same table at (Some v.value) there) in
            absurd (let both : Some (Some v.value) ≡ Some None = sym is_value ∙ e in cc)
        by_place (inr other) = was.ready i cell is_cell (sym (ap (λ (t : Table). slice_get t i) v.written ∙ get_set_other table at i (Some v.value) other) ∙ e)

    pub visited_right : IsRight world tree new
    visited_right = record {
      as_long = ap length v.written ∙ length-set table at (Some v.value) ∙ was.as_long;
      fits = new_fits;
      ready = new_ready;
      sound = new_sound;
      supported = new_supported;
    }

  -- ---- where all rest
  both_ways : (o p : Came) → (o ≢ came.Loop → p ≡ o) → (p ≢ came.Loop → o ≡ p) → o ≡ p
  both_ways (came.Value z) p up down = sym (up (λ e. let no : came.Value z ≡ came.Loop = e in cc))
  both_ways (came.Threw z) p up down = sym (up (λ e. let no : came.Threw z ≡ came.Loop = e in cc))
  both_ways came.Past p up down = sym (up (λ e. let no : came.Past ≡ came.Loop = e in cc))
  both_ways came.Loop (came.Value z) up down = down (λ e. let no : came.Value z ≡ came.Loop = e in cc)
  both_ways came.Loop (came.Threw z) up down = down (λ e. let no : came.Threw z ≡ came.Loop = e in cc)
  both_ways came.Loop came.Past up down = down (λ e. let no : came.Past ≡ came.Loop = e in cc)
  both_ways came.Loop came.Loop up down = refl

  is_or_not : (o : Came) → (o ≡ came.Loop) ⊎ (o ≢ came.Loop)
  is_or_not (came.Value v) = inr (λ e. let no : came.Value v ≡ came.Loop = e in cc)
  is_or_not (came.Threw why) = inr (λ e. let no : came.Threw why ≡ came.Loop = e in cc)
  is_or_not came.Loop = inl refl
  is_or_not came.Past = inr (λ e. let no : came.Past ≡ came.Loop = e in cc)

  -- a cell of the tree that loops by the table has an entry that says so
  entry_loops : (cell : Cell) (entry : Option Came) → entry_came cell entry ≡ came.Loop → entry ≡ Some came.Loop
  entry_loops cell None e = absurd (let no : came.Value (own_value cell.content cell.held) ≡ came.Loop = e in cc)
  entry_loops cell (Some o) e = ap Some e

  at_rest_solves : (table : Table) → IsRight world tree table → ((i : ℕ) → i < length cells → StillLoops world cells table i) → Solves (steps world tree) (read_in cells table)
  at_rest_solves table was rest i = by_loop (is_or_not (read_in cells table i))
    where
      by_entry : (cell : Cell) (entry : Option (Option Came)) → slice_get cells i ≡ Some cell → slice_get table i ≡ entry → read_in cells table i ≡ came.Loop → i < length cells → slice_get table i ≡ Some (Some came.Loop)
      by_entry cell None at e loops h = let long : length table ≡ length cells = was.as_long in absurd (slice_there table i (omega arith) e)
      by_entry cell (Some entry) at e loops h =
          let read : read_in cells table i ≡ entry_came cell entry = ap (λ o. there_came o (slice_get table i)) at ∙ ap (there_came (Some cell)) e in
          e ∙ ap Some (entry_loops cell entry (sym read ∙ loops))

      by_cell : (o : Option Cell) → slice_get cells i ≡ o → read_in cells table i ≡ came.Loop → if_there (step_of (read_in cells table)) (slice_get (steps world tree) i) ≡ read_in cells table i
      by_cell None at loops = ap (if_there (step_of (read_in cells table))) (step_at world tree cells i ∙ ap (λ o. elim o [ None ↦ None | Some cell ↦ Some (step world tree cell) ]) at) ∙ sym loops
      by_cell (Some cell) at loops =
          let here : i < length cells = slice_get_within cells i cell at in
          let entry = by_entry cell (slice_get table i) at refl loops here in
          let r = was.fits i entry in
          ap (if_there (step_of (read_in cells table))) (ruled_at i r.cell r.binding r.there r.bound r.active) ∙ rest i here r.cell r.binding r.there r.bound entry ∙ sym loops

      by_loop : (read_in cells table i ≡ came.Loop) ⊎ (read_in cells table i ≢ came.Loop) → if_there (step_of (read_in cells table)) (slice_get (steps world tree) i) ≡ read_in cells table i
      by_loop (inl loops) = by_cell (slice_get cells i) refl loops
      by_loop (inr not) = was.supported i not

  pub at_rest : (table : Table) → IsRight world tree table → ((i : ℕ) → i < length cells → StillLoops world cells table i) → (i : ℕ) → read_in cells table i ≡ fresh world tree i
  at_rest table was rest i = both_ways (read_in cells table i) (fresh world tree i) (was.sound i) (fresh_least world tree (read_in cells table) (at_rest_solves table was rest) i)

  -- ---- depth 0
  abbrev IsGiven : Cell → Content → Option Came → Type 0
  IsGiven cell content entry = (entry_came cell entry ≡ came.Value (own_value content cell.held)) × (entry ≡ None → own_value content cell.held ≡ cell.held) × (content_step world tree cell content ≡ given (own_value content cell.held))

  abbrev IsActive : Cell → Content → Option Came → Type 0
  IsActive cell content entry = (entry ≡ Some came.Loop) × ((binding : Binding) × (content ≡ Bound binding) × (is_active objects cell.no binding ≡ true))

  shape : (cell : Cell) (content : Content) (entry : Option Came) → cell.content ≡ content → BegunContent objects cell content entry → IsGiven cell content entry ⊎ IsActive cell content entry
  shape cell (Plain v) None is h = inl (ap (λ c. came.Value (own_value c cell.held)) is, λ e. h, refl)
  shape cell (Plain v) (Some o) is h = inl (h, λ e. let no : Some o ≡ None = e in cc, refl)
  shape cell (Bound binding) entry is h = by_active (is_active objects cell.no binding) refl
    where
      by_active : (b : Bool) → is_active objects cell.no binding ≡ b → IsGiven cell (Bound binding) entry ⊎ IsActive cell (Bound binding) entry
      by_active true e = inr (h ∙ ap (λ (b : Bool). if b then Some came.Loop else None) e, (binding, refl, e))
      by_active false e =
          let none : entry ≡ None = h ∙ ap (λ (b : Bool). if b then Some came.Loop else None) e in
          inl (ap (entry_came cell) none ∙ ap (λ c. came.Value (own_value c cell.held)) is, λ n. refl, ap (λ (b : Bool). if b then ruled (came_of world cells cell binding) else given cell.held) e)

  begun_at : (xs : List Cell) (table : Table) → AllBegun objects xs table → (i : ℕ) (cell : Cell) (entry : Option Came) → slice_get xs i ≡ Some cell → slice_get table i ≡ Some entry → BegunContent objects cell cell.content entry
  begun_at [] table h i cell entry at e = let no : None ≡ Some cell = at in cc
  begun_at (x ∷ xs) [] h i cell entry at e = absurd h
  begun_at (x ∷ xs) (y ∷ ys) h zero cell entry at e =
      let same : x ≡ cell = cc in
      let also : y ≡ entry = cc in
      rw (← same, ← also) h.0
  begun_at (x ∷ xs) (y ∷ ys) h (suc i) cell entry at e = begun_at xs ys h.1 i cell entry at e

  pub begun_long : (xs : List Cell) (table : Table) → AllBegun objects xs table → length table ≡ length xs
  begun_long [] [] h = refl
  begun_long [] (y ∷ ys) h = absurd h
  begun_long (x ∷ xs) [] h = absurd h
  begun_long (x ∷ xs) (y ∷ ys) h = ap suc (begun_long xs ys h.1)

  module _ (table : Table) (begun : AllBegun objects cells table) where
    -- what is known at depth 0 is given
    abbrev Known : ℕ → Type 0
    Known i = (v : Value) × ((read_in cells table i ≡ came.Value v) × (slice_get (steps world tree) i ≡ Some (given v)))

    abbrev Shape : ℕ → Cell → Option Came → Type 0
    Shape i cell entry = IsGiven cell cell.content entry ⊎ IsActive cell cell.content entry

    shape_at : (i : ℕ) (cell : Cell) (entry : Option Came) → slice_get cells i ≡ Some cell → slice_get table i ≡ Some entry → Shape i cell entry
    shape_at i cell entry at e = shape cell cell.content entry refl (begun_at cells table begun i cell entry at e)

    read_at : (i : ℕ) (cell : Cell) (entry : Option Came) → slice_get cells i ≡ Some cell → slice_get table i ≡ Some entry → read_in cells table i ≡ entry_came cell entry
    read_at i cell entry at e = ap (λ o. there_came o (slice_get table i)) at ∙ ap (there_came (Some cell)) e

    known_there : (i : ℕ) → read_in cells table i ≢ came.Loop → (o : Option Cell) → slice_get cells i ≡ o → (p : Option (Option Came)) → slice_get table i ≡ p → Known i
    known_there i h None at p e = absurd (h (ap (λ o. there_came o (slice_get table i)) at))
    known_there i h (Some cell) at None e = absurd (h (ap (λ o. there_came o (slice_get table i)) at ∙ ap (there_came (Some cell)) e))
    known_there i h (Some cell) at (Some entry) e = by_shape (shape_at i cell entry at e)
      where
        by_shape : Shape i cell entry → Known i
        by_shape (inl g) = (
          own_value cell.content cell.held,
          (
            read_at i cell entry at e ∙ g.0,
            step_at world tree cells i ∙ ap (λ o. elim o [ None ↦ None | Some cell ↦ Some (step world tree cell) ]) at ∙ ap Some g.2,
          ),
        )
        by_shape (inr a) = absurd (h (read_at i cell entry at e ∙ ap (entry_came cell) a.0))

    known : (i : ℕ) → read_in cells table i ≢ came.Loop → Known i
    known i h = known_there i h (slice_get cells i) refl (slice_get table i) refl

    begun_fits : (i : ℕ) → slice_get table i ≡ Some (Some came.Loop) → IsRuled objects cells i
    begun_fits i e = by_cell (slice_get cells i) refl
      where
        by_shape : (cell : Cell) → slice_get cells i ≡ Some cell → Shape i cell (Some came.Loop) → IsRuled objects cells i
        by_shape cell at (inl g) = absurd (let no : came.Loop ≡ came.Value (own_value cell.content cell.held) = g.0 in cc)
        by_shape cell at (inr a) = record { cell = cell; binding = a.1.0; there = at; bound = a.1.1; active = a.1.2 }

        by_cell : (o : Option Cell) → slice_get cells i ≡ o → IsRuled objects cells i
        by_cell None at =
            let long : length table ≡ length cells = begun_long cells table begun in
            let there : i < length table = slice_get_within table i (Some came.Loop) e in
            absurd (slice_there_cells cells i (omega arith) at)
        by_cell (Some cell) at = by_shape cell at (shape_at i cell (Some came.Loop) at e)

    begun_ready : Ready cells table
    begun_ready i cell at e = by_shape (shape_at i cell None at e)
      where
        by_shape : Shape i cell None → own_value cell.content cell.held ≡ cell.held
        by_shape (inl g) = g.1 refl
        by_shape (inr a) = absurd (let no : None ≡ Some came.Loop = a.0 in cc)

    pub begun_right : IsRight world tree table
    begun_right = record {
      as_long = begun_long cells table begun;
      fits = begun_fits;
      ready = begun_ready;
      sound = λ d h. let k = known d h in sym (fresh_solves world tree d) ∙ ap (if_there (step_of (fresh world tree))) k.1.1 ∙ sym k.1.0;
      supported = λ i h. let k = known i h in ap (if_there (step_of (read_in cells table))) k.1.1 ∙ sym k.1.0;
    }

-- ---- sweeps
pub visit_right : (world : World) (objects : List Object) (cells : List Cell) → (table : Table) (at : ℕ) (b : Bool) (new : Table) → Visits world cells table at b new → IsRight world (tree_of objects cells) table → IsRight world (tree_of objects cells) new
visit_right world objects cells table at true new v was = visited_right world objects cells table at new was v
visit_right world objects cells table at false new v was = rw v.0 was

pub swept_none : (world : World) (cells : List Cell) (table : Table) (up : Bool) → Swept world cells table up 0 false table
swept_none world cells table up = (refl, λ i h. absurd (omega arith))

next_rests : (P : ℕ → Type 0) (n : ℕ) → ((i : ℕ) → i < n → P i) → P n → (i : ℕ) → i < n + 1 → P i
next_rests P n below here i h = by_place (cases_lt i n)
  where
    by_place : (i < n) ⊎ (n ≤ i) → P i
    by_place (inl less) = below i less
    by_place (inr not) = let same : n ≡ i = omega arith in subst P same here

pub swept_yes : (world : World) (cells : List Cell) (table : Table) (up : Bool) (n at : ℕ) (progress : Bool) (now new : Table) → Swept world cells table up n progress now → Visits world cells now at true new → Swept world cells table up (n + 1) true new
swept_yes world cells table up n at true now new s v = let less = visited_falls world cells now at new v in omega arith
swept_yes world cells table up n at false now new s v =
    let less = visited_falls world cells now at new v in
    let same : loops_in now ≡ loops_in table = ap loops_in s.0 in
    omega arith

pub swept_no : (world : World) (cells : List Cell) (table : Table) (up : Bool) (n at : ℕ) (progress : Bool) (now new : Table) → at ≡ turn_of up (length cells) n → Swept world cells table up n progress now → Visits world cells now at false new → Swept world cells table up (n + 1) progress new
swept_no world cells table up n at true now new is s v = let same : loops_in new ≡ loops_in now = ap loops_in v.0 in omega arith
swept_no world cells table up n at false now new is s v =
    (v.0 ∙ s.0, next_rests (λ k. StillLoops world cells table (turn_of up (length cells) k)) n s.1 (subst (λ k. StillLoops world cells table k) is (subst (λ t. StillLoops world cells t at) s.0 v.1)))

-- all cells were visited, in either direction
pub all_visited : (up : Bool) (P : ℕ → Type 0) (many : ℕ) → ((k : ℕ) → k < many → P (turn_of up many k)) → (i : ℕ) → i < many → P i
all_visited true P many all i h = all i h
all_visited false P many all i h =
    let back : many - 1 - (many - 1 - i) ≡ i = omega arith in
    subst P back (all (many - 1 - i) (omega arith))

pub not_loop : (o : Came) → is_loop (Some o) ≡ false → o ≢ came.Loop
not_loop (came.Value v) e h = let no : came.Value v ≡ came.Loop = h in cc
not_loop (came.Threw why) e h = let no : came.Threw why ≡ came.Loop = h in cc
not_loop came.Loop e h = let no : true ≡ false = e in cc
not_loop came.Past e h = let no : came.Past ≡ came.Loop = h in cc

pub is_looping : (o : Came) → is_loop (Some o) ≡ true → o ≡ came.Loop
is_looping (came.Value v) e = let no : false ≡ true = e in cc
is_looping (came.Threw why) e = let no : false ≡ true = e in cc
is_looping came.Loop e = refl
is_looping came.Past e = let no : false ≡ true = e in cc
