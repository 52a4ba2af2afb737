-- Finding one among those of several types.
use Rattle.std.proofs.Common.{suc, zero, map, slice_get, ◌≤◌, ◌-◌, ◌≡◌, sym, refl, ℕ, List, [], ◌∷◌, ◌++◌, ◌+◌, ◌<◌, length, drop, get_or, Bool, true, false, Option, Some, None, add-one, drop-cons, arith}
use Rattle.std.specs.List.{flat_map, find}
use Rattle.std.specs.Option.{is_some, option_map}
use Rattle.std.proofs.lemmas.List.{length-map}
use Rattle.std.proofs.lemmas.List.Concat.{flat_map-cons}
use Rattle.std.proofs.lemmas.List.Folds.{find-append}
use Rattle.qml_types.specs.declared.kind.TypeNo.{TypeNo}
use Rattle.qml_types.specs.declared.cells.Cell.{Cell}
use Rattle.qml_types.specs.Table.{TypeCell, own_cells, cell_of}

pub is_some-map : {A X : Type 0} (f : A → X) (o : Option A) → is_some (option_map f o) ≡ is_some o
is_some-map f None = refl
is_some-map f (Some a) = refl

module _ {X : Type 0} (own : TypeNo → List X) where
  opened : (items : List TypeNo) (i : ℕ) (d : TypeNo) → i < length items → flat_map own (drop i items) ≡ own (get_or items i d) ++ flat_map own (drop (i + 1) items)
  opened items i d within = rw (add-one, drop-cons items i d) (flat_map-cons own (get_or items i d) (drop (suc i) items))

  pub past-one : (p : X → Bool) (items : List TypeNo) (i : ℕ) (d : TypeNo) (r : Option X) → i < length items → r ≡ find p (own (get_or items i d)) → is_some r ≡ false
      → find p (flat_map own (drop i items)) ≡ find p (flat_map own (drop (i + 1) items))
  past-one p items i d None within own_is none = rw (opened items i d within, find-append p (own (get_or items i d)) (flat_map own (drop (i + 1) items)), ← own_is) refl
  past-one p items i d (Some x) within own_is none = cc

  pub in-one : (p : X → Bool) (items : List TypeNo) (i : ℕ) (d : TypeNo) (r : Option X) → i < length items → r ≡ find p (own (get_or items i d)) → is_some r ≡ true
      → r ≡ find p (flat_map own (drop i items))
  in-one p items i d None within own_is some = cc
  in-one p items i d (Some x) within own_is some = rw (opened items i d within, find-append p (own (get_or items i d)) (flat_map own (drop (i + 1) items)), ← own_is) refl

get-left : (xs ys : List TypeCell) (k : ℕ) → k < length xs → slice_get (xs ++ ys) k ≡ slice_get xs k
get-left [] ys k within = absurd (let w : k < 0 = within in omega arith)
get-left (x ∷ xs) ys zero within = refl
get-left (x ∷ xs) ys (suc k) within = get-left xs ys k (let w : suc k < length (x ∷ xs) = within in omega arith)

get-right : (xs ys : List TypeCell) (k : ℕ) → length xs ≤ k → slice_get (xs ++ ys) k ≡ slice_get ys (k - length xs)
get-right [] ys k past = let e : k - 0 ≡ k = omega arith in rw e refl
get-right (x ∷ xs) ys zero past = absurd (let w : length (x ∷ xs) ≤ 0 = past in omega arith)
get-right (x ∷ xs) ys (suc k) past =
    let w : length (x ∷ xs) ≤ suc k = past in
    let e : suc k - length (x ∷ xs) ≡ k - length xs = omega arith in
    rw e (get-right xs ys k (omega arith))

get-told : (cells : List Cell) (k : ℕ) (r : Cell) → k < length cells → slice_get (map cell_of cells) k ≡ Some (cell_of (get_or cells k r))
get-told [] k r within = absurd (let w : k < 0 = within in omega arith)
get-told (x ∷ xs) zero r within = refl
get-told (x ∷ xs) (suc k) r within = get-told xs k r (let w : suc k < length (x ∷ xs) = within in omega arith)

pub cell-in-one : (items : List TypeNo) (i k : ℕ) (d : TypeNo) (cells : List Cell) (r : Cell) → i < length items → map cell_of cells ≡ own_cells (get_or items i d) → k < length cells
    → Some (cell_of (get_or cells k r)) ≡ slice_get (flat_map own_cells (drop i items)) k
cell-in-one items i k d cells r within own inside =
    rw (opened own_cells items i d within, ← own, get-left (map cell_of cells) (flat_map own_cells (drop (i + 1) items)) k (rw (length-map cells cell_of) inside)) (sym (get-told cells k r inside))

pub cell-past-one : (items : List TypeNo) (i k : ℕ) (d : TypeNo) (cells : List Cell) → i < length items → map cell_of cells ≡ own_cells (get_or items i d) → length cells ≤ k
    → slice_get (flat_map own_cells (drop i items)) k ≡ slice_get (flat_map own_cells (drop (i + 1) items)) (k - length cells)
cell-past-one items i k d cells within own past =
    rw (opened own_cells items i d within, ← own, get-right (map cell_of cells) (flat_map own_cells (drop (i + 1) items)) k (rw (length-map cells cell_of) past), length-map cells cell_of) refl
