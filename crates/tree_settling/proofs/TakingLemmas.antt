-- What is told, cell by cell, and what the cells take.
use Rattle.std.proofs.Common.{◌≡◌, ◌≢◌, ◌∙◌, ap, sym, subst, refl, ℕ, zero, suc, ◌+◌, ◌<◌, ◌≤◌, ◌⊎◌, inl, inr, add-one, add-zero, zero-add, true, false, List, [], ◌∷◌, ◌++◌, append_assoc, length, slice_get, drop, get_or, arith}
use Rattle.std.proofs.Math.Seq.{drop-cons}
use Rattle.std.proofs.lemmas.Bool.{cases_lt}
use Rattle.std.proofs.lemmas.Option.{slice_get_read, slice_get-get_or}
use Rattle.std.specs.declared.option.Option.{Option}
use Rattle.std.specs.declared.option.Option.TheVariants.{None, Some}
use Rattle.evaluation.specs.declared.came.Came.{Came}
use Rattle.evaluation.specs.declared.came.Came.TheVariants as came
use Rattle.tree_model.specs.declared.cells.Cell.{Cell}
use Rattle.qml_base.specs.declared.numbers.CellNo.{CellNo}
use Rattle.tree_model.specs.declared.cells.Report.{Report}
use Rattle.tree_model.specs.Systems.{Outcomes}
use Rattle.tree_model.specs.Settling.{taking, taking_all, IsLowestPast, NonePast}
use Rattle.tree_model.specs.Telling.{Changes, Reports, none, same, other, no_report, kept, silent, reported}
use Rattle.tree_model.specs.declared.cells.Object.{Object}
use Rattle.tree_settling.specs.Tables.{Table, read_in, there_came, entry_came, own_value, Ready, AllBegun, taken, is_past, Tells, spare_needed, spares_needed}
use Rattle.qml_value.specs.declared.value.Value.{Value}

module _ (cells : List Cell) (table : Table) (i : ℕ) (x : Cell) (y : Option Came) (inside : i < length cells) (also : i < length table) (x_is : x ≡ get_or cells i x) (y_is : y ≡ get_or table i y) where
  first_cell : drop i cells ≡ x ∷ drop (i + 1) cells
  first_cell = rw add-one (drop-cons cells i x inside ∙ ap (λ z. z ∷ drop (suc i) cells) (sym x_is))

  first_entry : drop i table ≡ y ∷ drop (i + 1) table
  first_entry = rw add-one (drop-cons table i y also ∙ ap (λ z. z ∷ drop (suc i) table) (sym y_is))

  first_taken : taken (drop i cells) (drop i table) ≡ taking x (entry_came x y) ∷ taken (drop (i + 1) cells) (drop (i + 1) table)
  first_taken = rw (first_cell, first_entry) refl

  abbrev ChangesOn : List CellNo → Type 0
  ChangesOn done = (rest : List CellNo) → Changes (drop i cells) (taken (drop i cells) (drop i table)) rest → Changes cells (taken cells table) (done ++ rest)

  abbrev ReportsOn : List Report → Type 0
  ReportsOn done = (rest : List Report) → Reports (drop i cells) (taken (drop i cells) (drop i table)) rest → Reports cells (taken cells table) (done ++ rest)

  pub changes_same : (done : List CellNo) → ChangesOn done → (x.noted ≡ false) × (x.held ≡ (taking x (entry_came x y)).held) → (rest : List CellNo) → Changes (drop (i + 1) cells) (taken (drop (i + 1) cells) (drop (i + 1) table)) rest → Changes cells (taken cells table) (done ++ rest)
  changes_same done on e rest h = on rest (rw (first_taken, first_cell) (same e.0 e.1 h))

  pub changes_other : (done : List CellNo) → ChangesOn done → (x.noted ≡ true) ⊎ (x.held ≢ (taking x (entry_came x y)).held) → (rest : List CellNo) → Changes (drop (i + 1) cells) (taken (drop (i + 1) cells) (drop (i + 1) table)) rest → Changes cells (taken cells table) ((done ++ x.no ∷ []) ++ rest)
  changes_other done on e rest h = rw (append_assoc done (x.no ∷ []) rest) (on (x.no ∷ rest) (rw (first_taken, first_cell) (other e h)))

  pub reports_none : (done : List Report) → ReportsOn done → Tells x (entry_came x y) None → (rest : List Report) → Reports (drop (i + 1) cells) (taken (drop (i + 1) cells) (drop (i + 1) table)) rest → Reports cells (taken cells table) (done ++ rest)
  reports_none done on (inl e) rest h = on rest (rw (first_taken, first_cell) (kept e h))
  reports_none done on (inr e) rest h = on rest (rw (first_taken, first_cell) (silent e h))

  pub reports_told : (done : List Report) (r : Report) → ReportsOn done → Tells x (entry_came x y) (Some r) → (rest : List Report) → Reports (drop (i + 1) cells) (taken (drop (i + 1) cells) (drop (i + 1) table)) rest → Reports cells (taken cells table) ((done ++ r ∷ []) ++ rest)
  reports_told done r on t rest h =
      let is : r ≡ record { cell = x.no; cause = r.cause } = ap (λ (c : CellNo). record { cell = c; cause = r.cause }) t.2 in
      rw (append_assoc done (r ∷ []) rest) (on (r ∷ rest) (rw (first_taken, first_cell) (subst (λ (s : Report). Reports (x ∷ drop (i + 1) cells) (taking x (entry_came x y) ∷ taken (drop (i + 1) cells) (drop (i + 1) table)) (s ∷ rest)) (sym is) (reported t.0 t.1 h))))

  cell_there : slice_get cells i ≡ Some x
  cell_there = slice_get_read cells (length cells) i x refl inside x_is

  entry_there : slice_get table i ≡ Some y
  entry_there = slice_get_read table (length table) i y refl also y_is

  read_there : read_in cells table i ≡ entry_came x y
  read_there = ap (λ o. there_came o (slice_get table i)) cell_there ∙ ap (there_came (Some x)) entry_there

  past_came : (c : Cell) (o : Option Came) → is_past o ≡ true → entry_came c o ≡ came.Past
  past_came c None h = let no : false ≡ true = h in cc
  past_came c (Some (came.Value v)) h = let no : false ≡ true = h in cc
  past_came c (Some (came.Threw why)) h = let no : false ≡ true = h in cc
  past_came c (Some came.Loop) h = let no : false ≡ true = h in cc
  past_came c (Some came.Past) h = refl

  came_past : (c : Cell) (o : Option Came) → is_past o ≡ false → entry_came c o ≢ came.Past
  came_past c None h p = let no : came.Value _ ≡ came.Past = p in cc
  came_past c (Some (came.Value v)) h p = let no : came.Value v ≡ came.Past = p in cc
  came_past c (Some (came.Threw why)) h p = let no : came.Threw why ≡ came.Past = p in cc
  came_past c (Some came.Loop) h p = let no : came.Loop ≡ came.Past = p in cc
  came_past c (Some came.Past) h p = let no : true ≡ false = h in cc

  pub lowest_at : is_past y ≡ true → ((j : ℕ) → j < i → read_in cells table j ≢ came.Past) → IsLowestPast (read_in cells table) cells x.no
  lowest_at h below = record { place = i; cell = x; there = cell_there; named = refl; is_past = read_there ∙ past_came x y h; lowest = below }

  pub not_past_yet : is_past y ≡ false → ((j : ℕ) → j < i → read_in cells table j ≢ came.Past) → (j : ℕ) → j < i + 1 → read_in cells table j ≢ came.Past
  not_past_yet h below j less = by_place (cases_lt j i)
    where
      by_place : (j < i) ⊎ (i ≤ j) → read_in cells table j ≢ came.Past
      by_place (inl lt) = below j lt
      by_place (inr ge) = let at : i ≡ j = omega arith in subst (λ k. read_in cells table k ≢ came.Past) at (λ p. came_past x y h (sym read_there ∙ p))

-- ---- at the end
drop_end : (xs : List Cell) (i : ℕ) → length xs ≤ i → drop i xs ≡ []
drop_end [] zero h = refl
drop_end [] (suc i) h = refl
drop_end (x ∷ xs) zero h = absurd (omega arith)
drop_end (x ∷ xs) (suc i) h = drop_end xs i (omega arith)

append_nil : {X : Type 0} (xs : List X) → xs ++ [] ≡ xs
append_nil [] = refl
append_nil (x ∷ xs) = ap (λ ys. x ∷ ys) (append_nil xs)

pub changes_end : (cells : List Cell) (table : Table) (i : ℕ) (done : List CellNo) → length cells ≤ i → ((rest : List CellNo) → Changes (drop i cells) (taken (drop i cells) (drop i table)) rest → Changes cells (taken cells table) (done ++ rest)) → Changes cells (taken cells table) done
changes_end cells table i done h on = rw (append_nil done) at (on [] (rw (drop_end cells i h) none))

pub reports_end : (cells : List Cell) (table : Table) (i : ℕ) (done : List Report) → length cells ≤ i → ((rest : List Report) → Reports (drop i cells) (taken (drop i cells) (drop i table)) rest → Reports cells (taken cells table) (done ++ rest)) → Reports cells (taken cells table) done
reports_end cells table i done h on = rw (append_nil done) at (on [] (rw (drop_end cells i h) no_report))

-- ---- what the cells take is what they came to
taken_from : (all : List Cell) (whole : Table) (read : Outcomes) (k : ℕ) (cells : List Cell) (table : Table) → length table ≡ length cells → ((i : ℕ) → there_came (slice_get cells i) (slice_get table i) ≡ elim (slice_get cells i) [ None ↦ came.Loop | Some cell ↦ read (i + k) ]) → taken cells table ≡ taking_all read k cells
taken_from all whole read k [] table n alike = refl
taken_from all whole read k (x ∷ xs) [] n alike = absurd (omega arith)
taken_from all whole read k (x ∷ xs) (y ∷ ys) n alike =
    let here : entry_came x y ≡ read k = alike 0 ∙ ap read (zero-add k) in
    let later : taken xs ys ≡ taking_all read (suc k) xs = taken_from all whole read (suc k) xs ys (omega arith) (λ i. alike (suc i) ∙ ap (λ n. elim (slice_get xs i) [ None ↦ came.Loop | Some cell ↦ read n ]) (next i k)) in
    rw (here, later) refl
  where
    next : (i k : ℕ) → suc i + k ≡ i + suc k
    next i k = omega arith

read_or_past : (cells : List Cell) (table : Table) (read : Outcomes) → ((i : ℕ) → read_in cells table i ≡ read i) → (i : ℕ) → there_came (slice_get cells i) (slice_get table i) ≡ elim (slice_get cells i) [ None ↦ came.Loop | Some cell ↦ read (i + 0) ]
read_or_past cells table read alike i = by_cell (slice_get cells i) refl
  where
    by_cell : (o : Option Cell) → slice_get cells i ≡ o → there_came o (slice_get table i) ≡ elim o [ None ↦ came.Loop | Some cell ↦ read (i + 0) ]
    by_cell None at = refl
    by_cell (Some cell) at = ap (λ p. there_came p (slice_get table i)) (sym at) ∙ alike i ∙ ap read (sym (add-zero i))

pub taken_is : (cells : List Cell) (table : Table) (read : Outcomes) → length table ≡ length cells → ((i : ℕ) → read_in cells table i ≡ read i) → taken cells table ≡ taking_all read 0 cells
taken_is cells table read n alike = taken_from cells table read 0 cells table n (read_or_past cells table read alike)

-- ---- what is ready stays so for the cells that are left
get_drop : {X : Type 0} (xs : List X) (i : ℕ) → slice_get xs i ≡ slice_get (drop i xs) 0
get_drop [] zero = refl
get_drop [] (suc i) = refl
get_drop (x ∷ xs) zero = refl
get_drop (x ∷ xs) (suc i) = get_drop xs i

pub ready_later : (first now : List Cell) (begun table : Table) (i : ℕ) (d : Cell) (e : Option Came) → i < length now → i < length table → Ready first begun → drop i now ≡ drop i first → drop i table ≡ drop i begun → get_or table i e ≡ None → own_value (get_or now i d).content (get_or now i d).held ≡ (get_or now i d).held
ready_later first now begun table i d e inside also ready later entries is_none =
    let cell : slice_get first i ≡ Some (get_or now i d) = get_drop first i ∙ ap (λ (xs : List Cell). slice_get xs 0) (sym later) ∙ sym (get_drop now i) ∙ slice_get-get_or now i d inside in
    let entry : slice_get begun i ≡ Some None = get_drop begun i ∙ ap (λ (xs : Table). slice_get xs 0) (sym entries) ∙ sym (get_drop table i) ∙ slice_get-get_or table i e also ∙ ap Some is_none in
    ready i (get_or now i d) cell entry

pub begun_end : (objects : List Object) (cells : List Cell) (i : ℕ) (done : Table) → length cells ≤ i → ((rest : Table) → AllBegun objects (drop i cells) rest → AllBegun objects cells (done ++ rest)) → AllBegun objects cells done
begun_end objects cells i done h on = rw (append_nil done) at (on [] (rw (drop_end cells i h) tt))

-- ---- the whole
pub none_past : (cells : List Cell) (read fresh : Outcomes) → ((i : ℕ) → read i ≡ fresh i) → NonePast read cells → NonePast fresh cells
none_past cells read fresh alike not i h p = not i h (alike i ∙ p)

pub lowest_is : (cells : List Cell) (read fresh : Outcomes) (c : CellNo) → ((i : ℕ) → read i ≡ fresh i) → IsLowestPast read cells c → IsLowestPast fresh cells c
lowest_is cells read fresh c alike l = record {
  place = l.place;
  cell = l.cell;
  there = l.there;
  named = l.named;
  is_past = sym (alike l.place) ∙ l.is_past;
  lowest = λ j h p. l.lowest j h (alike j ∙ p);
}

get_or_other : (xs : List Cell) (i : ℕ) (a b : Cell) → i < length xs → get_or xs i a ≡ get_or xs i b
get_or_other [] i a b h = absurd (omega arith)
get_or_other (x ∷ xs) zero a b h = refl
get_or_other (x ∷ xs) (suc i) a b h = get_or_other xs i a b (omega arith)

get_or_same : (xs : List Cell) (i : ℕ) (d : Cell) → i < length xs → get_or xs i (get_or xs i d) ≡ get_or xs i d
get_or_same xs i d h = get_or_other xs i (get_or xs i d) d h

pub not_past_now : (cells : List Cell) (table : Table) (i : ℕ) (y : Option Came) → i < length cells → i < length table → y ≡ get_or table i y → is_past y ≡ false → ((j : ℕ) → j < i → read_in cells table j ≢ came.Past) → (j : ℕ) → j < i + 1 → read_in cells table j ≢ came.Past
not_past_now [] table i y inside also y_is h below = absurd (omega arith)
not_past_now (c ∷ cs) table i y inside also y_is h below =
    let get : get_or (c ∷ cs) i (get_or (c ∷ cs) i c) ≡ get_or (c ∷ cs) i c = get_or_same (c ∷ cs) i c inside in
    not_past_yet (c ∷ cs) table i (get_or (c ∷ cs) i c) y inside also (sym get) y_is h below

-- ---- spares
pub spares_long : (cells : List Cell) (table : Table) (spares : List (Option Value)) → length table ≡ length cells → spares ≡ spares_needed cells table → length spares ≡ length cells
spares_long cells table spares n is = ap length is ∙ long cells table n
  where
    long : (cs : List Cell) (t : Table) → length t ≡ length cs → length (spares_needed cs t) ≡ length cs
    long [] t n = refl
    long (c ∷ cs) [] n = absurd (omega arith)
    long (c ∷ cs) (e ∷ t) n = ap suc (long cs t (omega arith))

pub spare_first : (cells : List Cell) (table : Table) (spares : List (Option Value)) (i : ℕ) (d : Cell) (e : Option Came) (s : Option Value) → i < length cells → i < length table → i < length spares → drop i spares ≡ spares_needed (drop i cells) (drop i table) → get_or spares i s ≡ spare_needed (get_or cells i d) (get_or table i e)
spare_first [] table spares i d e s h k l is = absurd (omega arith)
spare_first (c ∷ cs) [] spares i d e s h k l is = absurd (omega arith)
spare_first (c ∷ cs) (t ∷ ts) [] i d e s h k l is = absurd (omega arith)
spare_first (c ∷ cs) (t ∷ ts) (x ∷ xs) zero d e s h k l is = cc
spare_first (c ∷ cs) (t ∷ ts) (x ∷ xs) (suc i) d e s h k l is = spare_first cs ts xs i d e s (omega arith) (omega arith) (omega arith) is
