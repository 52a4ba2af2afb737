-- The cells of a new object behind the others.
use Rattle.std.proofs.Common.{◌≡◌, ◌∙◌, inl, inr, ap, sym, refl, ℕ, zero, suc, ◌+◌, ◌<◌, ◌≤◌, ◌&&◌, Bool, true, false, List, [], ◌∷◌, ◌++◌, length, slice_get, slice_set, slice_index, take, replicate, length-append, arith}
use Rattle.std.specs.declared.option.Option.TheVariants.{None, Some}
use Rattle.qml_base.specs.declared.numbers.ObjNo.{ObjNo}
use Rattle.qml_base.specs.declared.numbers.CellNo.{CellNo}
use Rattle.tree_model.specs.declared.cells.Cell.{Cell}
use Rattle.tree_model.specs.declared.cells.NewCell.{NewCell}
use Rattle.property_store.specs.Lying.{place_by, follows, in_order, AllBelow, numbers_of, IsKept}
use Rattle.property_store.specs.Stores.{new_cell, new_cells}
use Rattle.property_store.proofs.KeptLemmas.{below_at}
use Rattle.property_store.proofs.DropLemmas.{follows_next, index_set_other}

-- ---- the table grown by zeros tells the same
index_zeros : (n k : ℕ) → slice_index (replicate n 0) k ≡ 0
index_zeros zero k = refl
index_zeros (suc n) zero = refl
index_zeros (suc n) (suc k) = index_zeros n k

index_grown : (xs : List ℕ) (n k : ℕ) → slice_index (xs ++ replicate n 0) k ≡ slice_index xs k
index_grown [] n k = index_zeros n k
index_grown (x ∷ xs) n zero = refl
index_grown (x ∷ xs) n (suc k) = index_grown xs n k

take_more : (xs : List ℕ) (n : ℕ) → length xs ≤ n → take n xs ≡ xs
take_more [] zero h = refl
take_more [] (suc n) h = refl
take_more (x ∷ xs) zero h = absurd (omega arith)
take_more (x ∷ xs) (suc n) h = ap (λ ys. x ∷ ys) (take_more xs n (omega arith))

pub grown_same : (xs new : List ℕ) (n m k : ℕ) → length xs ≤ n → new ≡ take n xs ++ replicate m 0 → slice_index new k ≡ slice_index xs k
grown_same xs new n m k h e = ap (λ ys. slice_index ys k) (e ∙ ap (λ ys. ys ++ replicate m 0) (take_more xs n h)) ∙ index_grown xs m k

-- ---- order
pub new_order : (o : ObjNo) (p : ℕ) (news : List NewCell) → in_order o.0 p (numbers_of (new_cells o p news)) ≡ true
new_order o p [] = refl
new_order o p (new ∷ news) =
    let here : follows o.0 p (record { object = o; place = p }) ≡ true = follows_next o.0 p (record { object = o; place = p }) (inl (refl, refl)) in
    rw here (new_order o (suc p) news)

new_first : (o : ObjNo) (a n : ℕ) (news : List NewCell) → a < o.0 → in_order a n (numbers_of (new_cells o 0 news)) ≡ true
new_first o a n [] h = refl
new_first o a n (new ∷ news) h =
    let here : follows a n (record { object = o; place = 0 }) ≡ true = follows_next a n (record { object = o; place = 0 }) (inr (h, refl)) in
    rw here (new_order o 1 news)

both : (a b : Bool) → (a && b) ≡ true → (a ≡ true) × (b ≡ true)
both true true e = (refl, refl)
both true false e = let no : false ≡ true = e in cc
both false b e = let no : false ≡ true = e in cc

pub order_added : (o : ObjNo) (a n : ℕ) (cells : List Cell) (news : List NewCell) → a < o.0 → AllBelow o.0 (numbers_of cells) → in_order a n (numbers_of cells) ≡ true → in_order a n (numbers_of (cells ++ new_cells o 0 news)) ≡ true
order_added o a n [] news h below e = new_first o a n news h
order_added o a n (x ∷ xs) news h below e =
    let parts = both (follows a n x.no) (in_order x.no.object.0 (suc x.no.place) (numbers_of xs)) e in
    rw parts.0 (order_added o x.no.object.0 (suc x.no.place) xs news below.0 below.1 parts.1)

new_below : (o : ObjNo) (p m : ℕ) (news : List NewCell) → o.0 < m → AllBelow m (numbers_of (new_cells o p news))
new_below o p m [] h = tt
new_below o p m (new ∷ news) h = (h, new_below o (suc p) m news h)

pub below_added : (o : ObjNo) (m : ℕ) (cells : List Cell) (news : List NewCell) → o.0 < m → AllBelow m (numbers_of cells) → AllBelow m (numbers_of (cells ++ new_cells o 0 news))
below_added o m [] news h below = new_below o 0 m news h
below_added o m (x ∷ xs) news h below = (below.0, below_added o m xs news h below.1)

-- ---- places
new_at : (o : ObjNo) (p : ℕ) (news : List NewCell) (i : ℕ) (cell : Cell) → slice_get (new_cells o p news) i ≡ Some cell → (cell.no.object ≡ o) × (cell.no.place ≡ i + p)
new_at o p [] i cell at = let no : None ≡ Some cell = at in cc
new_at o p (new ∷ news) zero cell at =
    let same : new_cell o p new ≡ cell = cc in
    let place : p ≡ 0 + p = omega arith in
    (sym (ap (λ (c : Cell). c.no.object) same), sym (ap (λ (c : Cell). c.no.place) same) ∙ place)
new_at o p (new ∷ news) (suc i) cell at =
    let later = new_at o (suc p) news i cell at in
    let place : i + suc p ≡ suc i + p = omega arith in
    (later.0, later.1 ∙ place)

index_set_same : (xs : List ℕ) (i v : ℕ) → i < length xs → slice_index (slice_set xs i v) i ≡ v
index_set_same [] i v h = absurd (omega arith)
index_set_same (x ∷ xs) zero v h = refl
index_set_same (x ∷ xs) (suc i) v h = index_set_same xs i v (omega arith)

added_from : (o : ObjNo) (table : List ℕ) (first : ℕ) (cells : List Cell) (news : List NewCell) (k : ℕ) → slice_index table o.0 ≡ first → first ≡ k + length cells → ((i : ℕ) (cell : Cell) → slice_get cells i ≡ Some cell → place_by table cell.no ≡ i + k) → (i : ℕ) (cell : Cell) → slice_get (cells ++ new_cells o 0 news) i ≡ Some cell → place_by table cell.no ≡ i + k
added_from o table first [] news k is long old i cell at =
    let new = new_at o 0 news i cell at in
    let begin : slice_index table cell.no.object.0 ≡ first = ap (λ (n : ObjNo). slice_index table n.0) new.0 ∙ is in
    let place : cell.no.place ≡ i + 0 = new.1 in
    omega arith
added_from o table first (x ∷ xs) news k is long old zero cell at = old zero cell at
added_from o table first (x ∷ xs) news k is long old (suc i) cell at =
    let here = added_from o table first xs news (suc k) is (omega arith) (λ j c e. let was = old (suc j) c e in omega arith) i cell at in
    omega arith

pub kept_added : (o : ObjNo) (starts grown : List ℕ) (cells : List Cell) (news : List NewCell) (first : ℕ) → IsKept starts cells → ((k : ℕ) → slice_index grown k ≡ slice_index starts k) → length starts ≤ length grown → o.0 < length grown → AllBelow o.0 (numbers_of cells) → 0 < o.0 → first ≡ length cells → IsKept (slice_set grown o.0 first) (cells ++ new_cells o 0 news)
kept_added o starts grown cells news first kept same longer room below some is = record {
  placed = λ i cell at. let sum = added_from o (slice_set grown o.0 first) first cells news 0 (index_set_same grown o.0 first room) (let e : first ≡ 0 + length cells = omega arith in e) old i cell at in let e : i + 0 ≡ i = omega arith in sum ∙ e;
  ordered = order_added o 0 0 cells news some below kept.ordered;
  below = rw (length_set grown o.0 first) (below_added o (length grown) cells news room (higher (length starts) (length grown) (numbers_of cells) longer kept.below));
}
  where
    length_set : (xs : List ℕ) (i v : ℕ) → length (slice_set xs i v) ≡ length xs
    length_set [] i v = refl
    length_set (x ∷ xs) zero v = refl
    length_set (x ∷ xs) (suc i) v = ap suc (length_set xs i v)

    higher : (m n : ℕ) (cs : List CellNo) → m ≤ n → AllBelow m cs → AllBelow n cs
    higher m n [] h all = tt
    higher m n (c ∷ cs) h all = let one = all.0 in (omega arith, higher m n cs h all.1)

    old : (i : ℕ) (cell : Cell) → slice_get cells i ≡ Some cell → place_by (slice_set grown o.0 first) cell.no ≡ i + 0
    old i cell at =
        let low = below_at o.0 cells i cell below at in
        let e : i ≡ i + 0 = omega arith in
        ap (λ k. k + cell.no.place) (index_set_other grown o.0 cell.no.object.0 first (λ s. absurd (omega arith)) ∙ same cell.no.object.0) ∙ kept.placed i cell at ∙ e

-- a table that is longer and tells the same
pub kept_grown : (starts grown : List ℕ) (cells : List Cell) → IsKept starts cells → ((k : ℕ) → slice_index grown k ≡ slice_index starts k) → length starts ≤ length grown → IsKept grown cells
kept_grown starts grown cells kept same longer = record {
  placed = λ i cell at. ap (λ k. k + cell.no.place) (same cell.no.object.0) ∙ kept.placed i cell at;
  ordered = kept.ordered;
  below = higher (length starts) (length grown) (numbers_of cells) longer kept.below;
}
  where
    higher : (m n : ℕ) (cs : List CellNo) → m ≤ n → AllBelow m cs → AllBelow n cs
    higher m n [] h all = tt
    higher m n (c ∷ cs) h all = let one = all.0 in (omega arith, higher m n cs h all.1)

new_length : (o : ObjNo) (p : ℕ) (news : List NewCell) → length (new_cells o p news) ≡ length news
new_length o p [] = refl
new_length o p (new ∷ news) = ap suc (new_length o (suc p) news)

pub added_length : (o : ObjNo) (cells : List Cell) (news : List NewCell) → length (cells ++ new_cells o 0 news) ≡ length cells + length news
added_length o cells news = length-append cells (new_cells o 0 news) ∙ ap (λ n. length cells + n) (new_length o 0 news)
