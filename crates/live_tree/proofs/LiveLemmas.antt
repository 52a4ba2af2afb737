-- What the calls leave of numbers and spares.
use Rattle.std.proofs.Common.{◌≡◌, ◌∙◌, ap, sym, subst, refl, ℕ, zero, suc, ◌+◌, ◌<◌, ◌≤◌, ◌^◌, ◌⊎◌, inl, inr, Bool, true, false, not, ◌||◌, ◌&&◌, nat_eq, if◌then◌else◌, List, [], ◌∷◌, ◌++◌, map, length, take, drop, slice_get, slice_set, arith}
use Rattle.std.specs.declared.option.Option.TheVariants.{None, Some}
use Rattle.std.specs.declared.result.Result.{Result}
use Rattle.std.specs.declared.result.Result.TheVariants.{Ok, Err}
use Rattle.std.specs.Prelude.{OnOk}
use Rattle.qml_base.specs.declared.numbers.ObjNo.{ObjNo}
use Rattle.qml_base.specs.declared.numbers.CellNo.{CellNo}
use Rattle.tree_model.specs.declared.cells.Cell.{Cell}
use Rattle.tree_model.specs.declared.cells.NewCell.{NewCell}
use Rattle.tree_model.specs.declared.cells.Object.{Object}
use Rattle.tree_model.specs.declared.cells.Content.{Content}
use Rattle.object_tree.specs.Trees.{Objects, IsFull}
use Rattle.std.proofs.lemmas.Bool.{cases_lt, false≢true}
use Rattle.tree_model.specs.Systems.{Outcomes}
use Rattle.tree_model.specs.Rules.{World}
use Rattle.tree_model.specs.Settling.{Tree, place_of, same_cell, fresh, taking_all, stands, is_active, AllSpared}
use Rattle.tree_model.specs.Doomed.{mark, marked, marked_from}
use Rattle.tree_model.specs.declared.cells.Binding.{Binding}
use Rattle.tree_model.specs.declared.cells.Content.TheVariants.{Plain, Bound}
use Rattle.tree_model.specs.declared.cells.Outcome.{Outcome}
use Rattle.tree_model.specs.declared.cells.Outcome.TheVariants as outcome
use Rattle.tree_model.specs.Removing.{quiet, quiet_outcome, scrubbed_cell, scrubbed_cells, cells_left}
use Rattle.property_store.specs.Lying.{AllBelow, numbers_of}
use Rattle.property_store.specs.Stores.{with_content, new_cells}
use Rattle.property_store.proofs.KeptLemmas.{map_numbers, set_numbers}
use Rattle.property_store.proofs.DropLemmas.{below_left}
use Rattle.property_store.proofs.AddLemmas.{below_added}
use Rattle.tree_settling.specs.declared.settling.Changed.{Changed}
use Rattle.tree_settling.specs.declared.settling.SettleFault.{SettleFault}
use Rattle.tree_settling.specs.declared.settling.SettleFault.TheVariants.{Past, NoMemory}
use Rattle.tree_settling.specs.Settles.{Settles}
use Rattle.qml_base.specs.declared.numbers.ExprNo.{ExprNo}
use Rattle.qml_base.specs.declared.names.Home.{Home}
use Rattle.evaluation.specs.Ask.{Ask}
use Rattle.qml_types.specs.declared.kind.TypeRef.{TypeRef}
use Rattle.qml_scope.specs.Shapes.{Known, ToldUpTo, TellsLast}
use Rattle.live_tree.specs.Live.{Live, Knows, held_in, shown}

-- a tree that evaluates all bindings at each settling knows everything
pub knows_all : (asks : ExprNo → Home → Ask) (live : Live) → Knows asks live
unfolding Knows
knows_all asks live = tt

pub knows_on_ok : (asks : ExprNo → Home → Ask) (live : Live) (result : Result Changed SettleFault) → OnOk result (Knows asks live)
knows_on_ok asks live (Ok c) = knows_all asks live
knows_on_ok asks live (Err e) = tt

taken_numbers : (read : Outcomes) (k : ℕ) (cells : List Cell) → numbers_of (taking_all read k cells) ≡ numbers_of cells
taken_numbers read k [] = refl
taken_numbers read k (x ∷ xs) = ap (λ ns. x.no ∷ ns) (taken_numbers read (suc k) xs)

taken_spared : (read : Outcomes) (k : ℕ) (cells : List Cell) → AllSpared (taking_all read k cells)
taken_spared read k [] = tt
taken_spared read k (x ∷ xs) = (refl, taken_spared read (suc k) xs)

pub settles_numbers : (world : World) (tree : Tree) (result : Result Changed SettleFault) (new : List Cell) → Settles world tree result new → numbers_of new ≡ numbers_of tree.cells
settles_numbers world tree (Ok c) new s = ap numbers_of s.1 ∙ taken_numbers (fresh world tree) 0 tree.cells
settles_numbers world tree (Err (Past c)) new s = ap numbers_of s.1
settles_numbers world tree (Err NoMemory) new s = ap numbers_of s

pub settles_spared : (world : World) (tree : Tree) (result : Result Changed SettleFault) (new : List Cell) → Settles world tree result new → OnOk result (AllSpared new)
settles_spared world tree (Ok c) new s = rw s.1 (taken_spared (fresh world tree) 0 tree.cells)
settles_spared world tree (Err e) new s = tt

pub scrubbed_below : (gone : List ObjNo) (n : ℕ) (cells : List Cell) → AllBelow n (numbers_of cells) → AllBelow n (numbers_of (scrubbed_cells gone cells))
scrubbed_below gone n cells all = rw (map_numbers (scrubbed_cell gone) (λ cell. refl) (cells_left gone cells)) (below_left gone n cells all)

higher : (m n : ℕ) (cs : List CellNo) → m ≤ n → AllBelow m cs → AllBelow n cs
higher m n [] h all = tt
higher m n (c ∷ cs) h all = let one = all.0 in (omega arith, higher m n cs h all.1)

pub added_below : (o : ObjNo) (n : ℕ) (cells : List Cell) (news : List NewCell) → o.0 ≡ n → AllBelow n (numbers_of cells) → AllBelow (n + 1) (numbers_of (cells ++ new_cells o 0 news))
added_below o n cells news is all = below_added o (n + 1) cells news (omega arith) (higher n (n + 1) (numbers_of cells) (omega arith) all)

pub quiet_spared : (objects : List Object) (cells : List Cell) → AllSpared cells → AllSpared (map (quiet objects) cells)
quiet_spared objects [] all = tt
quiet_spared objects (x ∷ xs) all = (all.0, quiet_spared objects xs all.1)

scrubbed_each : (gone : List ObjNo) (cells : List Cell) → AllSpared (map (scrubbed_cell gone) cells)
scrubbed_each gone [] = tt
scrubbed_each gone (x ∷ xs) = (refl, scrubbed_each gone xs)

pub scrubbed_spared : (gone : List ObjNo) (cells : List Cell) → AllSpared (scrubbed_cells gone cells)
scrubbed_spared gone cells = scrubbed_each gone (cells_left gone cells)

-- ---- types that were told
told_more : (n : ℕ) (xs : List (ObjNo × List TypeRef)) (o : ObjNo) (types : List TypeRef) → o.0 ≡ n + 1 → ToldUpTo n xs → ToldUpTo (n + 1) (xs ++ (o, types) ∷ [])
told_more n [] o types is up = (omega arith, tt)
told_more n (x ∷ xs) o types is up = let one = up.0 in (omega arith, told_more n xs o types is up.1)

pub tells_last : (types : List TypeRef) (n : ℕ) (before after : Known) (o : ObjNo) {old : Known} → ToldUpTo n old.told → before ≡ old → o.0 ≡ n + 1 → TellsLast o types before after → ToldUpTo (n + 1) after.told
tells_last types n before after o {old} up same is tells =
    let there : ToldUpTo n before.told = subst (λ (k : Known). ToldUpTo n k.told) (sym same) up in
    rw (tells n there (omega arith)) (told_more n before.told o types is there)

-- ---- one cell after the other
pub mapped_next : (f : Cell → Cell) (xs final : List Cell) (i : ℕ) (x : Cell) → slice_get xs i ≡ Some x → take i xs ++ map f (drop i xs) ≡ final → take (suc i) (slice_set xs i (f x)) ++ map f (drop (suc i) (slice_set xs i (f x))) ≡ final
mapped_next f [] final i x at e = let no : None ≡ Some x = at in cc
mapped_next f (y ∷ ys) final zero x at e = let same : y ≡ x = cc in rw (← same) e
mapped_next f (y ∷ ys) final (suc i) x at e = rw (mapped_next f ys (take i ys ++ map f (drop i ys)) i x at refl) e

pub front_back : (xs ys : List Cell) (n : ℕ) → n ≡ length xs → take n (xs ++ ys) ≡ xs
front_back [] ys n is = rw is refl
front_back (x ∷ xs) ys n is = rw is (ap (λ l. x ∷ l) (front_back xs ys (length xs) refl))

-- ---- a content replaced
get_there : (cells : List Cell) (i : ℕ) → i < length cells → (cell : Cell) × (slice_get cells i ≡ Some cell)
get_there [] i h = absurd (omega arith)
get_there (x ∷ xs) zero h = (x, refl)
get_there (x ∷ xs) (suc i) h = get_there xs i (omega arith)

pub replaced_below : (cells new : List Cell) (c : CellNo) (content : Content) (n : ℕ) → place_of cells c < length cells → ((cell : Cell) → slice_get cells (place_of cells c) ≡ Some cell → new ≡ slice_set cells (place_of cells c) (with_content cell content)) → AllBelow n (numbers_of cells) → AllBelow n (numbers_of new)
replaced_below cells new c content n inside is all =
    let there = get_there cells (place_of cells c) inside in
    rw (is there.0 there.1, set_numbers cells (place_of cells c) there.0 (with_content there.0 content) there.1 refl) all

pub mapped_below : (f : Cell → Cell) → ((cell : Cell) → (f cell).no ≡ cell.no) → (n : ℕ) (cells : List Cell) → AllBelow n (numbers_of cells) → AllBelow n (numbers_of (map f cells))
mapped_below f same n cells all = rw (map_numbers f same cells) all

-- ---- room for one more
pub not_full : (t : Objects) → ¬ (IsFull t.objects t.given) → (length t.objects < 100000) × (1 + t.given < 2 ^ 32)
not_full t h = (by_live (cases_lt (length t.objects) 100000), by_given (cases_lt (1 + t.given) (2 ^ 32)))
  where
    by_live : (length t.objects < 100000) ⊎ (100000 ≤ length t.objects) → length t.objects < 100000
    by_live (inl less) = less
    by_live (inr more) = absurd (h (inl more))

    by_given : (1 + t.given < 2 ^ 32) ⊎ (2 ^ 32 ≤ 1 + t.given) → 1 + t.given < 2 ^ 32
    by_given (inl less) = less
    by_given (inr more) = absurd (h (inr more))

-- ---- outcomes that are put right later
pub shown_numbers : (stale : Bool) (objects : List Object) (cells : List Cell) → numbers_of (shown stale objects cells) ≡ numbers_of cells
shown_numbers true objects cells = map_numbers (quiet objects) (λ cell. refl) cells
shown_numbers false objects cells = refl

pub shown_below : (stale : Bool) (objects : List Object) (cells : List Cell) (n : ℕ) → AllBelow n (numbers_of cells) → AllBelow n (numbers_of (shown stale objects cells))
shown_below stale objects cells n all = rw (shown_numbers stale objects cells) all

pub caught_below : (stale : Bool) (objects : List Object) (cells store : List Cell) (n : ℕ) → store ≡ shown stale objects cells → AllBelow n (numbers_of cells) → AllBelow n (numbers_of store)
caught_below stale objects cells store n is all = rw is (shown_below stale objects cells n all)

pub caught_inside : (stale : Bool) (objects : List Object) (cells store : List Cell) (c : CellNo) → store ≡ shown stale objects cells → place_of (shown stale objects cells) c < length (shown stale objects cells) → place_of store c < length store
caught_inside stale objects cells store c is inside = rw is inside

quiet_place : (objects : List Object) (cells : List Cell) (c : CellNo) → place_of (map (quiet objects) cells) c ≡ place_of cells c
quiet_place objects [] c = refl
quiet_place objects (x ∷ xs) c = ap (λ n. if same_cell x.no c then 0 else suc n) (quiet_place objects xs c)

pub shown_place : (stale : Bool) (objects : List Object) (cells : List Cell) (c : CellNo) → place_of (shown stale objects cells) c ≡ place_of cells c
shown_place true objects cells c = quiet_place objects cells c
shown_place false objects cells c = refl

quiet_length : (objects : List Object) (cells : List Cell) → length (map (quiet objects) cells) ≡ length cells
quiet_length objects [] = refl
quiet_length objects (x ∷ xs) = ap suc (quiet_length objects xs)

pub shown_length : (stale : Bool) (objects : List Object) (cells : List Cell) → length (shown stale objects cells) ≡ length cells
shown_length true objects cells = quiet_length objects cells
shown_length false objects cells = refl

quiet_held : (objects : List Object) (cells : List Cell) → held_in (map (quiet objects) cells) ≡ held_in cells
quiet_held objects [] = refl
quiet_held objects (x ∷ xs) = ap (λ rest. (x.no, x.held) ∷ rest) (quiet_held objects xs)

pub shown_held : (stale : Bool) (objects : List Object) (cells : List Cell) → held_in (shown stale objects cells) ≡ held_in cells
shown_held true objects cells = quiet_held objects cells
shown_held false objects cells = refl

-- what condemning doesn't change is the same in the cells that are kept
module _ {X : Type 0} (field : Cell → X) (same : (objects : List Object) (cell : Cell) → field (quiet objects cell) ≡ field cell) where
  quiet_field : (objects : List Object) (cells : List Cell) (i : ℕ) (x : X) → ((raw : Cell) → slice_get cells i ≡ Some raw → x ≡ field raw) → (cell : Cell) → slice_get (map (quiet objects) cells) i ≡ Some cell → x ≡ field cell
  quiet_field objects [] i x is cell at = let no : None ≡ Some cell = at in cc
  quiet_field objects (y ∷ ys) zero x is cell at = let first : quiet objects y ≡ cell = cc in is y refl ∙ sym (same objects y) ∙ ap field first
  quiet_field objects (y ∷ ys) (suc i) x is cell at = quiet_field objects ys i x is cell at

  pub shown_field : (stale : Bool) (objects : List Object) (cells : List Cell) (c : CellNo) (x : X) → ((raw : Cell) → slice_get cells (place_of cells c) ≡ Some raw → x ≡ field raw) → (cell : Cell) → slice_get (shown stale objects cells) (place_of (shown stale objects cells) c) ≡ Some cell → x ≡ field cell
  shown_field true objects cells c x is cell at = quiet_field objects cells (place_of cells c) x is cell (ap (slice_get (map (quiet objects) cells)) (sym (quiet_place objects cells c)) ∙ at)
  shown_field false objects cells c x is cell at = is cell at

-- an object that stands once others are condemned stood before
unmarked : (front : List Object) (x : Object) (b : Bool) (xs : List Object) (p : ObjNo) → (x.condemned ≡ true → b ≡ true) → stands ((front ++ record { number = x.number; owner = x.owner; origin = x.origin; condemned = b } ∷ []) ++ xs) p ≡ true → stands (front ++ x ∷ xs) p ≡ true
unmarked [] x b xs p more h = by_number (nat_eq x.number.0 p.0) h
  where
    free : (b k : Bool) → (k ≡ true → b ≡ true) → not b ≡ true → not k ≡ true
    free true k more h = absurd (false≢true h)
    free false true more h = absurd (false≢true (more refl))
    free false false more h = refl

    by_number : (n : Bool) → (if n then not b else stands xs p) ≡ true → (if n then not x.condemned else stands xs p) ≡ true
    by_number true h = free b x.condemned more h
    by_number false h = h
unmarked (y ∷ ys) x b xs p more h = by_number (nat_eq y.number.0 p.0) h (unmarked ys x b xs p more)
  where
    by_number : (n : Bool) → (if n then not y.condemned else stands ((ys ++ record { number = x.number; owner = x.owner; origin = x.origin; condemned = b } ∷ []) ++ xs) p) ≡ true → (stands ((ys ++ record { number = x.number; owner = x.owner; origin = x.origin; condemned = b } ∷ []) ++ xs) p ≡ true → stands (ys ++ x ∷ xs) p ≡ true) → (if n then not y.condemned else stands (ys ++ x ∷ xs) p) ≡ true
    by_number true h rest = h
    by_number false h rest = rest h

or_true : (a b : Bool) → a ≡ true → (a || b) ≡ true
or_true true b e = refl
or_true false b e = absurd (false≢true e)

append_none : (xs : List Object) → xs ++ [] ≡ xs
append_none [] = refl
append_none (x ∷ xs) = ap (λ (l : List Object). x ∷ l) (append_none xs)

stood : (o : ObjNo) (before xs : List Object) (p : ObjNo) → stands (marked_from o before xs) p ≡ true → stands (before ++ xs) p ≡ true
stood o before [] p h = rw (append_none before) h
stood o before (x ∷ xs) p h = unmarked before x (marked o before x) xs p (or_true x.condemned _) (stood o (before ++ mark o before x ∷ []) xs p h)

and_both : (a b c d : Bool) → (a ≡ true → c ≡ true) → (b ≡ true → d ≡ true) → (a && b) ≡ true → (c && d) ≡ true
and_both true true c d f g e = rw (f refl, g refl) refl
and_both true false c d f g e = absurd (false≢true e)
and_both false b c d f g e = absurd (false≢true e)

still_active : (o : ObjNo) (objects : List Object) (c : CellNo) (binding : Binding) → is_active (marked_from o [] objects) c binding ≡ true → is_active objects c binding ≡ true
still_active o objects c binding = and_both (stands (marked_from o [] objects) c.object) (stands (marked_from o [] objects) binding.author) (stands objects c.object) (stands objects binding.author) (stood o [] objects c.object) (stood o [] objects binding.author)

quiet_once : (after before : Bool) (out : Outcome) → (after ≡ true → before ≡ true) → (if after then out else outcome.Value) ≡ (if after then (if before then out else outcome.Value) else outcome.Value)
quiet_once true before out h = rw (h refl) refl
quiet_once false before out h = refl

quiet_outcomes : (o : ObjNo) (objects : List Object) (c : CellNo) (content : Content) (out : Outcome) → quiet_outcome (marked_from o [] objects) c content out ≡ quiet_outcome (marked_from o [] objects) c content (quiet_outcome objects c content out)
quiet_outcomes o objects c (Plain v) out = refl
quiet_outcomes o objects c (Bound binding) out = quiet_once (is_active (marked_from o [] objects) c binding) (is_active objects c binding) out (still_active o objects c binding)

quiet_again : (o : ObjNo) (objects : List Object) (cells : List Cell) → map (quiet (marked_from o [] objects)) cells ≡ map (quiet (marked_from o [] objects)) (map (quiet objects) cells)
quiet_again o objects [] = refl
quiet_again o objects (x ∷ xs) =
    ap (λ (l : List Cell). quiet (marked_from o [] objects) x ∷ l) (quiet_again o objects xs)
    ∙ ap (λ (out : Outcome). record { no = x.no; kind = x.kind; content = x.content; held = x.held; spare = x.spare; outcome = out; noted = x.noted } ∷ map (quiet (marked_from o [] objects)) (map (quiet objects) xs)) (quiet_outcomes o objects x.no x.content x.outcome)

-- the cells once an object is condemned, put right at once or later
pub condemned_cells : (o : ObjNo) (stale : Bool) (objects : List Object) (cells : List Cell) → map (quiet (marked_from o [] objects)) cells ≡ map (quiet (marked_from o [] objects)) (shown stale objects cells)
condemned_cells o true objects cells = quiet_again o objects cells
condemned_cells o false objects cells = refl

was_spared : (objects : List Object) (cells : List Cell) → AllSpared (map (quiet objects) cells) → AllSpared cells
was_spared objects [] all = tt
was_spared objects (x ∷ xs) all = (all.0, was_spared objects xs all.1)

pub spared_before : (stale : Bool) (objects : List Object) (cells : List Cell) → AllSpared (shown stale objects cells) → AllSpared cells
spared_before true objects cells all = was_spared objects cells all
spared_before false objects cells all = all

pub shown_spared : (stale : Bool) (objects : List Object) (cells : List Cell) → AllSpared cells → AllSpared (shown stale objects cells)
shown_spared true objects cells all = quiet_spared objects cells all
shown_spared false objects cells all = all

pub shown_inside : (stale : Bool) (objects : List Object) (cells : List Cell) (c : CellNo) → place_of (shown stale objects cells) c < length (shown stale objects cells) → place_of cells c < length cells
shown_inside stale objects cells c inside = rw (shown_place stale objects cells c, shown_length stale objects cells) at inside

pub inside_shown : (stale : Bool) (objects : List Object) (cells : List Cell) (c : CellNo) → place_of cells c < length cells → place_of (shown stale objects cells) c < length (shown stale objects cells)
inside_shown stale objects cells c inside = rw (shown_place stale objects cells c, shown_length stale objects cells) inside

pub on_ok_shown : (result : Result Changed SettleFault) (stale : Bool) (objects : List Object) (cells : List Cell) → OnOk result (AllSpared cells) → OnOk result (AllSpared (shown stale objects cells))
on_ok_shown (Ok c) stale objects cells all = shown_spared stale objects cells all
on_ok_shown (Err e) stale objects cells all = tt
