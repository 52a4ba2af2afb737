-- Cells that keep their numbers stand where they stood.
use Rattle.std.proofs.Common.{◌≡◌, ◌∙◌, ◌⊎◌, inl, inr, ap, sym, refl, ℕ, zero, suc, ◌+◌, ◌<◌, ◌&&◌, Bool, true, false, List, [], ◌∷◌, ◌++◌, map, length, take, drop, slice_get, slice_set, slice_index_or, arith}
use Rattle.std.proofs.Math.Seq.{take-append_seam}
use Rattle.std.specs.declared.option.Option.TheVariants.{None, Some}
use Rattle.qml_base.specs.declared.numbers.CellNo.{CellNo}
use Rattle.tree_model.specs.declared.cells.Cell.{Cell}
use Rattle.tree_model.specs.Settling.{place_of}
use Rattle.property_store.specs.Lying.{place_by, follows, in_order, AllBelow, numbers_of, IsKept}

pub seam : (new items : List Cell) (n : ℕ) → length new ≡ n → take n (new ++ drop (length new) items) ≡ new
seam new items n e = rw (← e) (take-append_seam new (drop (length new) items))

pub seam_numbers : (new items : List ℕ) (n : ℕ) → length new ≡ n → take n (new ++ drop (length new) items) ≡ new
seam_numbers new items n e = rw (← e) (take-append_seam new (drop (length new) items))

pub number_of : (cells : List Cell) (i : ℕ) (cell : Cell) → slice_get cells i ≡ Some cell → slice_get (numbers_of cells) i ≡ Some cell.no
number_of [] i cell at = let no : None ≡ Some cell = at in cc
number_of (x ∷ xs) zero cell at = let same : x ≡ cell = cc in ap (λ (k : Cell). Some k.no) same
number_of (x ∷ xs) (suc i) cell at = number_of xs i cell at

numbered : (cells : List Cell) (i : ℕ) (c : CellNo) → slice_get (numbers_of cells) i ≡ Some c → (cell : Cell) × ((slice_get cells i ≡ Some cell) × (cell.no ≡ c))
numbered [] i c at = let no : None ≡ Some c = at in cc
numbered (x ∷ xs) zero c at = (x, (refl, cc))
numbered (x ∷ xs) (suc i) c at = numbered xs i c at

pub kept_numbers : (starts : List ℕ) (old new : List Cell) → numbers_of new ≡ numbers_of old → IsKept starts old → IsKept starts new
kept_numbers starts old new same kept = record {
  placed = λ i cell at. let was = numbered old i cell.no (sym (ap (λ ns. slice_get ns i) same) ∙ number_of new i cell at) in ap (place_by starts) (sym was.1.1) ∙ kept.placed i was.0 was.1.0;
  ordered = ap (in_order 0 0) same ∙ kept.ordered;
  below = rw same kept.below;
}

pub set_numbers : (cells : List Cell) (at : ℕ) (old new : Cell) → slice_get cells at ≡ Some old → new.no ≡ old.no → numbers_of (slice_set cells at new) ≡ numbers_of cells
set_numbers [] at old new there same = refl
set_numbers (x ∷ xs) zero old new there same = let is : x ≡ old = cc in ap (λ n. n ∷ numbers_of xs) (same ∙ ap (λ (k : Cell). k.no) (sym is))
set_numbers (x ∷ xs) (suc at) old new there same = ap (λ ns. x.no ∷ ns) (set_numbers xs at old new there same)

pub map_numbers : (f : Cell → Cell) → ((cell : Cell) → (f cell).no ≡ cell.no) → (cells : List Cell) → numbers_of (map f cells) ≡ numbers_of cells
map_numbers f same [] = refl
map_numbers f same (x ∷ xs) = rw (same x, map_numbers f same xs) refl

pub get_of : (cells : List Cell) (i : ℕ) (d : Cell) → i < length cells → slice_get cells i ≡ Some (slice_index_or cells i d)
get_of [] i d h = absurd (omega arith)
get_of (x ∷ xs) zero d h = refl
get_of (x ∷ xs) (suc i) d h = get_of xs i d (omega arith)

pub one_of : (cells : List Cell) (i : ℕ) (d f : Cell) → i < length cells → slice_index_or cells i d ≡ slice_index_or cells i f
one_of [] i d f h = absurd (omega arith)
one_of (x ∷ xs) zero d f h = refl
one_of (x ∷ xs) (suc i) d f h = one_of xs i d f (omega arith)

pub below_at : (n : ℕ) (cells : List Cell) (i : ℕ) (cell : Cell) → AllBelow n (numbers_of cells) → slice_get cells i ≡ Some cell → cell.no.object.0 < n
below_at n [] i cell below at = let no : None ≡ Some cell = at in cc
below_at n (x ∷ xs) zero cell below at = let same : x ≡ cell = cc in rw (← same) below.0
below_at n (x ∷ xs) (suc i) cell below at = below_at n xs i cell below.1 at

pub split : (j i : ℕ) → j < i + 1 → (j < i) ⊎ (j ≡ i)
split zero zero h = inr refl
split zero (suc i) h = inl (omega arith)
split (suc j) zero h = absurd (omega arith)
split (suc j) (suc i) h = by_rest (split j i (omega arith))
  where
    by_rest : (j < i) ⊎ (j ≡ i) → (suc j < suc i) ⊎ (suc j ≡ suc i)
    by_rest (inl less) = inl (omega arith)
    by_rest (inr same) = inr (ap suc same)

-- ---- the cell that is found is the one that is written
pub read_there : (cells : List Cell) (i : ℕ) (d : Cell) → i < length cells → d ≡ slice_index_or cells i d → slice_get cells i ≡ Some d
read_there cells i d h e = get_of cells i d h ∙ ap Some (sym e)

module _ (items now : List Cell) (c : CellNo) (at : ℕ) (d : Cell) (same : items ≡ now) (found : at ≡ place_of items c) (inside : place_of now c < length now) (is : d ≡ slice_index_or items at d) where
  pub stands_there : slice_get items at ≡ Some d
  stands_there =
      let here : at ≡ place_of now c = found ∙ ap (λ cells. place_of cells c) same in
      let long : length items ≡ length now = ap length same in
      read_there items at d (omega arith) is

  pub same_cell_there : (cell : Cell) → slice_get now (place_of now c) ≡ Some cell → d ≡ cell
  same_cell_there cell there =
      let two : Some d ≡ Some cell = sym stands_there ∙ ap (λ k. slice_get items k) (found ∙ ap (λ cells. place_of cells c) same) ∙ ap (λ cells. slice_get cells (place_of now c)) same ∙ there in
      cc

  pub set_there : (f : Cell → Cell) (new cell : Cell) → new ≡ f d → slice_get now (place_of now c) ≡ Some cell → slice_set items at new ≡ slice_set now (place_of now c) (f cell)
  set_there f new cell e there =
      ap (λ k. slice_set items k new) (found ∙ ap (λ cells. place_of cells c) same) ∙ ap (λ cells. slice_set cells (place_of now c) new) same ∙ ap (slice_set now (place_of now c)) (e ∙ ap f (same_cell_there cell there))

  pub kept_there : (starts : List ℕ) (new : Cell) → new.no ≡ d.no → IsKept starts items → IsKept starts (slice_set items at new)
  kept_there starts new e kept = kept_numbers starts items (slice_set items at new) (set_numbers items at d new stands_there e) kept

pub kept_at : (starts : List ℕ) (items : List Cell) (at : ℕ) (d new : Cell) → at < length items → d ≡ slice_index_or items at d → new.no ≡ d.no → IsKept starts items → IsKept starts (slice_set items at new)
kept_at starts items at d new inside is e kept = kept_numbers starts items (slice_set items at new) (set_numbers items at d new (read_there items at d inside is) e) kept

pub set_at : (items now : List Cell) (at : ℕ) (d cell : Cell) (f : Cell → Cell) → items ≡ now → at < length now → d ≡ slice_index_or items at d → slice_get now at ≡ Some cell → slice_set items at (f d) ≡ slice_set now at (f cell)
set_at items now at d cell f same inside is there =
    let long : length items ≡ length now = ap length same in
    let two : Some d ≡ Some cell = sym (read_there items at d (omega arith) is) ∙ ap (λ cells. slice_get cells at) same ∙ there in
    let one : d ≡ cell = cc in
    ap (λ cells. slice_set cells at (f d)) same ∙ ap (λ k. slice_set now at (f k)) one

-- ---- the first cells
order_front : (o n m : ℕ) (cells : List Cell) → in_order o n (numbers_of cells) ≡ true → in_order o n (numbers_of (take m cells)) ≡ true
order_front o n zero cells e = refl
order_front o n (suc m) [] e = refl
order_front o n (suc m) (x ∷ xs) e =
    let parts = both_true (follows o n x.no) (in_order x.no.object.0 (suc x.no.place) (numbers_of xs)) e in
    rw parts.0 (order_front x.no.object.0 (suc x.no.place) m xs parts.1)
  where
    both_true : (a b : Bool) → (a && b) ≡ true → (a ≡ true) × (b ≡ true)
    both_true true true e = (refl, refl)
    both_true true false e = let no : false ≡ true = e in cc
    both_true false b e = let no : false ≡ true = e in cc

below_front : (n m : ℕ) (cells : List Cell) → AllBelow n (numbers_of cells) → AllBelow n (numbers_of (take m cells))
below_front n zero cells all = tt
below_front n (suc m) [] all = tt
below_front n (suc m) (x ∷ xs) all = (all.0, below_front n m xs all.1)

front_get : (m : ℕ) (cells : List Cell) (i : ℕ) (cell : Cell) → slice_get (take m cells) i ≡ Some cell → slice_get cells i ≡ Some cell
front_get zero cells i cell at = let no : None ≡ Some cell = at in cc
front_get (suc m) [] i cell at = let no : None ≡ Some cell = at in cc
front_get (suc m) (x ∷ xs) zero cell at = at
front_get (suc m) (x ∷ xs) (suc i) cell at = front_get m xs i cell at

pub kept_front : (starts : List ℕ) (cells : List Cell) (m : ℕ) → IsKept starts cells → IsKept starts (take m cells)
kept_front starts cells m kept = record {
  placed = λ i cell at. kept.placed i cell (front_get m cells i cell at);
  ordered = order_front 0 0 m cells kept.ordered;
  below = below_front (length starts) m cells kept.below;
}
