-- The cells that are left stand in order, and the table is told anew.
use Rattle.std.proofs.Common.{◌≡◌, ◌≢◌, ◌∙◌, ◌⊎◌, inl, inr, ap, sym, refl, ℕ, zero, suc, ◌+◌, ◌<◌, ◌≤◌, ◌&&◌, ◌||◌, nat_eq, nat_lt, not, Bool, true, false, List, [], ◌∷◌, filter, length, slice_get, slice_set, slice_index, if◌then◌else◌, rules, arith}
use Rattle.std.specs.declared.option.Option.TheVariants.{None, Some}
use Rattle.qml_base.specs.declared.numbers.ObjNo.{ObjNo}
use Rattle.qml_base.specs.declared.numbers.CellNo.{CellNo}
use Rattle.qml_value.specs.Scrubbing.{is_among}
use Rattle.tree_model.specs.declared.cells.Cell.{Cell}
use Rattle.tree_model.specs.Removing.{cells_left}
use Rattle.property_store.specs.Lying.{place_by, IsPlaced, follows, in_order, AllBelow, numbers_of}
use Rattle.property_store.proofs.KeptLemmas.{split}

pub filter_is : (gone : List ObjNo) (cells : List Cell) → filter (λ cell. not (is_among gone cell.no.object)) cells ≡ cells_left gone cells
filter_is gone [] = refl
filter_is gone (x ∷ xs) = by_object (is_among gone x.no.object) refl (filter_is gone xs)
  where
    by_object : (b : Bool) → is_among gone x.no.object ≡ b → filter (λ cell. not (is_among gone cell.no.object)) xs ≡ cells_left gone xs → filter (λ cell. not (is_among gone cell.no.object)) (x ∷ xs) ≡ (if b then cells_left gone xs else x ∷ cells_left gone xs)
    by_object true is later = rw is later
    by_object false is later = rw is (ap (λ rest. x ∷ rest) later)

pub below_left : (gone : List ObjNo) (n : ℕ) (cells : List Cell) → AllBelow n (numbers_of cells) → AllBelow n (numbers_of (cells_left gone cells))
below_left gone n [] below = tt
below_left gone n (x ∷ xs) below = by_object (is_among gone x.no.object) (below_left gone n xs below.1)
  where
    by_object : (b : Bool) → AllBelow n (numbers_of (cells_left gone xs)) → AllBelow n (numbers_of (if b then cells_left gone xs else x ∷ cells_left gone xs))
    by_object true later = later
    by_object false later = (below.0, later)

pub length_left : (gone : List ObjNo) (cells : List Cell) → length (cells_left gone cells) ≤ length cells
length_left gone [] = omega arith
length_left gone (x ∷ xs) = by_object (is_among gone x.no.object) (length_left gone xs)
  where
    by_object : (b : Bool) → length (cells_left gone xs) ≤ length xs → length (if b then cells_left gone xs else x ∷ cells_left gone xs) ≤ suc (length xs)
    by_object true later = omega arith
    by_object false later = omega arith

-- ---- how one cell follows another
abbrev Next : ℕ → ℕ → CellNo → Type 0
Next o n c = ((c.object.0 ≡ o) × (c.place ≡ n)) ⊎ ((o < c.object.0) × (c.place ≡ 0))

both : (a b : Bool) → (a && b) ≡ true → (a ≡ true) × (b ≡ true)
both true true e = (refl, refl)
both true false e = let no : false ≡ true = e in cc
both false b e = let no : false ≡ true = e in cc

either : (a b : Bool) → (a || b) ≡ true → (a ≡ true) ⊎ (b ≡ true)
either true b e = inl refl
either false b e = inr e

eq_is : (m n : ℕ) → nat_eq m n ≡ true → m ≡ n
eq_is m n e = search rules

lt_is : (m n : ℕ) → nat_lt m n ≡ true → m < n
lt_is m n e = search rules

is_eq : (m n : ℕ) → m ≡ n → nat_eq m n ≡ true
is_eq m n e = search rules

is_lt : (m n : ℕ) → m < n → nat_lt m n ≡ true
is_lt m n e = search rules

pub next_of : (o n : ℕ) (c : CellNo) → follows o n c ≡ true → Next o n c
next_of o n c e = by_case (either (nat_eq c.object.0 o && nat_eq c.place n) (nat_lt o c.object.0 && nat_eq c.place 0) e)
  where
    by_case : ((nat_eq c.object.0 o && nat_eq c.place n) ≡ true) ⊎ ((nat_lt o c.object.0 && nat_eq c.place 0) ≡ true) → Next o n c
    by_case (inl h) = let k = both (nat_eq c.object.0 o) (nat_eq c.place n) h in inl (eq_is c.object.0 o k.0, eq_is c.place n k.1)
    by_case (inr h) = let k = both (nat_lt o c.object.0) (nat_eq c.place 0) h in inr (lt_is o c.object.0 k.0, eq_is c.place 0 k.1)

pub follows_next : (o n : ℕ) (c : CellNo) → Next o n c → follows o n c ≡ true
follows_next o n c (inl k) = rw (is_eq c.object.0 o k.0, is_eq c.place n k.1) refl
follows_next o n c (inr k) = by_first (nat_eq c.object.0 o && nat_eq c.place n)
  where
    second : (nat_lt o c.object.0 && nat_eq c.place 0) ≡ true
    second = rw (is_lt o c.object.0 k.0, is_eq c.place 0 k.1) refl

    by_first : (b : Bool) → (b || (nat_lt o c.object.0 && nat_eq c.place 0)) ≡ true
    by_first true = refl
    by_first false = second

and_both : (a b : Bool) → a ≡ true → b ≡ true → (a && b) ≡ true
and_both a b e f = rw (e, f) refl

-- ---- dropping the cells of whole objects keeps the order
abbrev Behind : List ObjNo → ℕ → ℕ → ℕ → ℕ → Type 0
Behind gone a n b m = ((a ≡ b) × (n ≡ m)) ⊎ ((b ≤ a) × ((o : ObjNo) → o.0 ≡ a → is_among gone o ≡ true))

next_kept : (gone : List ObjNo) (a n b m : ℕ) (c : CellNo) → Behind gone a n b m → is_among gone c.object ≡ false → Next a n c → Next b m c
next_kept gone a n b m c (inl same) kept (inl k) = inl (k.0 ∙ same.0, k.1 ∙ same.1)
next_kept gone a n b m c (inl same) kept (inr k) = let one = same.0 in let two = k.0 in inr (omega arith, k.1)
next_kept gone a n b m c (inr over) kept (inl k) = let no : true ≡ false = sym (over.1 c.object k.0) ∙ kept in absurd (cc)
next_kept gone a n b m c (inr over) kept (inr k) = let one = over.0 in let two = k.0 in inr (omega arith, k.1)

above : (a n : ℕ) (c : CellNo) → Next a n c → a ≤ c.object.0
above a n c (inl k) = let one = k.0 in omega arith
above a n c (inr k) = let one = k.0 in omega arith

pub order_left : (gone : List ObjNo) (a n b m : ℕ) (cells : List Cell) → Behind gone a n b m → in_order a n (numbers_of cells) ≡ true → in_order b m (numbers_of (cells_left gone cells)) ≡ true
order_left gone a n b m [] behind e = refl
order_left gone a n b m (x ∷ xs) behind e = by_object (is_among gone x.no.object) refl (λ c k h. order_left gone x.no.object.0 (suc x.no.place) c k xs h (both (follows a n x.no) (in_order x.no.object.0 (suc x.no.place) (numbers_of xs)) e).1)
  where
    parts : (follows a n x.no ≡ true) × (in_order x.no.object.0 (suc x.no.place) (numbers_of xs) ≡ true)
    parts = both (follows a n x.no) (in_order x.no.object.0 (suc x.no.place) (numbers_of xs)) e

    next : Next a n x.no
    next = next_of a n x.no parts.0

    up : a ≤ x.no.object.0
    up = above a n x.no next

    low : Behind gone a n b m → b ≤ a
    low (inl same) = let one = same.0 in omega arith
    low (inr over) = over.0

    by_object : (g : Bool) → is_among gone x.no.object ≡ g → ((c k : ℕ) → Behind gone x.no.object.0 (suc x.no.place) c k → in_order c k (numbers_of (cells_left gone xs)) ≡ true) → in_order b m (numbers_of (if g then cells_left gone xs else x ∷ cells_left gone xs)) ≡ true
    by_object true is later =
        let less = low behind in
        let rise = up in
        later b m (inr (omega arith, λ o same. ap (λ k. is_among gone (record { 0 = k })) same ∙ is))
    by_object false is later =
        and_both (follows b m x.no) (in_order x.no.object.0 (suc x.no.place) (numbers_of (cells_left gone xs)))
        (follows_next b m x.no (next_kept gone a n b m x.no behind is next))
        (later x.no.object.0 (suc x.no.place) (inl (refl, refl)))

-- ---- the table told anew
abbrev pub IsPlacedBelow : ℕ → List ℕ → List Cell → Type 0
IsPlacedBelow n starts cells = (j : ℕ) (cell : Cell) → j < n → slice_get cells j ≡ Some cell → place_by starts cell.no ≡ j

index_set_same : (xs : List ℕ) (i v : ℕ) → i < length xs → slice_index (slice_set xs i v) i ≡ v
index_set_same [] i v h = absurd (omega arith)
index_set_same (x ∷ xs) zero v h = refl
index_set_same (x ∷ xs) (suc i) v h = index_set_same xs i v (omega arith)

pub index_set_other : (xs : List ℕ) (i j v : ℕ) → j ≢ i → slice_index (slice_set xs i v) j ≡ slice_index xs j
index_set_other [] i j v h = refl
index_set_other (x ∷ xs) zero zero v h = absurd (h refl)
index_set_other (x ∷ xs) zero (suc j) v h = refl
index_set_other (x ∷ xs) (suc i) zero v h = refl
index_set_other (x ∷ xs) (suc i) (suc j) v h = index_set_other xs i j v (λ e. h (ap suc e))

-- a cell that is the first of its object comes behind cells of lower objects; another behind its neighbour
first_after : (a n : ℕ) (cells : List Cell) (j i : ℕ) (x y : Cell) → in_order a n (numbers_of cells) ≡ true → j < i → slice_get cells j ≡ Some x → slice_get cells i ≡ Some y → (x.no.object.0 ≤ y.no.object.0) × (y.no.place ≡ 0 → x.no.object.0 < y.no.object.0)
first_after a n [] j i x y e less at there = let no : None ≡ Some x = at in cc
first_after a n (z ∷ zs) j zero x y e less at there = absurd (omega arith)
first_after a n (z ∷ zs) (suc j) (suc i) x y e less at there =
    first_after z.no.object.0 (suc z.no.place) zs j i x y (both (follows a n z.no) (in_order z.no.object.0 (suc z.no.place) (numbers_of zs)) e).1 (omega arith) at there
first_after a n (z ∷ zs) zero (suc i) x y e less at there =
    let same : z ≡ x = cc in
    let rest = (both (follows a n z.no) (in_order z.no.object.0 (suc z.no.place) (numbers_of zs)) e).1 in
    rw (← same) (later z.no.object.0 z.no.place zs i rest there)
  where
    later : (o p : ℕ) (ws : List Cell) (k : ℕ) → in_order o (suc p) (numbers_of ws) ≡ true → slice_get ws k ≡ Some y → (o ≤ y.no.object.0) × (y.no.place ≡ 0 → o < y.no.object.0)
    later o p [] k f g = let no : None ≡ Some y = g in cc
    later o p (w ∷ ws) zero f g =
        let same : w ≡ y = cc in
        let k = next_of o (suc p) w.no (both (follows o (suc p) w.no) (in_order w.no.object.0 (suc w.no.place) (numbers_of ws)) f).0 in
        rw (← same) (by_next w k)
      where
        by_next : (v : Cell) → Next o (suc p) v.no → (o ≤ v.no.object.0) × (v.no.place ≡ 0 → o < v.no.object.0)
        by_next v (inl k) = let one = k.0 in let two = k.1 in (omega arith, λ z. absurd (omega arith))
        by_next v (inr k) = let one = k.0 in (omega arith, λ z. k.0)
    later o p (w ∷ ws) (suc k) f g =
        let parts = both (follows o (suc p) w.no) (in_order w.no.object.0 (suc w.no.place) (numbers_of ws)) f in
        let up = above o (suc p) w.no (next_of o (suc p) w.no parts.0) in
        let more = later w.no.object.0 w.no.place ws k parts.1 g in
        let low = more.0 in
        (omega arith, λ z. let far = more.1 z in omega arith)

-- behind a neighbour of the same object
neighbour : (a n : ℕ) (cells : List Cell) (i : ℕ) (x y : Cell) → in_order a n (numbers_of cells) ≡ true → slice_get cells i ≡ Some x → slice_get cells (suc i) ≡ Some y → y.no.place ≢ 0 → (y.no.object.0 ≡ x.no.object.0) × (y.no.place ≡ suc x.no.place)
neighbour a n [] i x y e at there not = let no : None ≡ Some x = at in cc
neighbour a n (z ∷ []) i x y e at there not = by_place i at there
  where
    by_place : (i : ℕ) → slice_get (z ∷ []) i ≡ Some x → slice_get (z ∷ []) (suc i) ≡ Some y → (y.no.object.0 ≡ x.no.object.0) × (y.no.place ≡ suc x.no.place)
    by_place zero at there = let no : None ≡ Some y = there in cc
    by_place (suc i) at there = let no : None ≡ Some x = at in cc
neighbour a n (z ∷ w ∷ ws) zero x y e at there not =
    let first : z ≡ x = cc in
    let second : w ≡ y = cc in
    let rest = (both (follows a n z.no) (in_order z.no.object.0 (suc z.no.place) (numbers_of (w ∷ ws))) e).1 in
    let k = next_of z.no.object.0 (suc z.no.place) w.no (both (follows z.no.object.0 (suc z.no.place) w.no) (in_order w.no.object.0 (suc w.no.place) (numbers_of ws)) rest).0 in
    let is_not : w.no.place ≢ 0 = λ h. not (ap (λ (c : Cell). c.no.place) (sym second) ∙ h) in
    rw (← first, ← second) (by_next k is_not)
  where
    by_next : Next z.no.object.0 (suc z.no.place) w.no → w.no.place ≢ 0 → (w.no.object.0 ≡ z.no.object.0) × (w.no.place ≡ suc z.no.place)
    by_next (inl k) h = (k.0, k.1)
    by_next (inr k) h = absurd (h k.1)
neighbour a n (z ∷ w ∷ ws) (suc i) x y e at there not =
    neighbour z.no.object.0 (suc z.no.place) (w ∷ ws) i x y (both (follows a n z.no) (in_order z.no.object.0 (suc z.no.place) (numbers_of (w ∷ ws))) e).1 at there not

pub get_there : (cells : List Cell) (i : ℕ) → i < length cells → (cell : Cell) × (slice_get cells i ≡ Some cell)
get_there [] i h = absurd (omega arith)
get_there (x ∷ xs) zero h = (x, refl)
get_there (x ∷ xs) (suc i) h = get_there xs i (omega arith)

-- a first cell tells where its object's begin
pub placed_first : (starts : List ℕ) (cells : List Cell) (i at : ℕ) (y : Cell) → in_order 0 0 (numbers_of cells) ≡ true → slice_get cells i ≡ Some y → y.no.place ≡ 0 → at ≡ y.no.object.0 → at < length starts → IsPlacedBelow i starts cells → IsPlacedBelow (i + 1) (slice_set starts at i) cells
placed_first starts cells i at y e there is_first is inside all j x low here = by_place (split j i low)
  where
    by_place : (j < i) ⊎ (j ≡ i) → place_by (slice_set starts at i) x.no ≡ j
    by_place (inl less) =
        let order = (first_after 0 0 cells j i x y e less here there).1 is_first in
        ap (λ k. k + x.no.place) (index_set_other starts at x.no.object.0 i (λ same. absurd (omega arith))) ∙ all j x less here
    by_place (inr same) =
        let two : Some x ≡ Some y = sym here ∙ ap (slice_get cells) same ∙ there in
        let one : x ≡ y = cc in
        let begin : slice_index (slice_set starts at i) y.no.object.0 ≡ i = ap (slice_index (slice_set starts at i)) (sym is) ∙ index_set_same starts at i inside in
        let sum : slice_index (slice_set starts at i) y.no.object.0 + y.no.place ≡ i = omega arith in
        ap (λ (c : Cell). place_by (slice_set starts at i) c.no) one ∙ sum ∙ sym same

-- another stands behind its neighbour
pub placed_later : (starts : List ℕ) (cells : List Cell) (i : ℕ) (y : Cell) → in_order 0 0 (numbers_of cells) ≡ true → slice_get cells i ≡ Some y → y.no.place ≢ 0 → IsPlacedBelow i starts cells → IsPlacedBelow (i + 1) starts cells
placed_later starts cells i y e there not all j x low here = by_place (split j i low)
  where
    next : (k : ℕ) → k ≡ i → place_by starts y.no ≡ i
    next zero same = absurd (not (first_place cells e (ap (slice_get cells) same ∙ there)))
      where
        first_place : (cs : List Cell) → in_order 0 0 (numbers_of cs) ≡ true → slice_get cs 0 ≡ Some y → y.no.place ≡ 0
        first_place [] f g = let no : None ≡ Some y = g in cc
        first_place (c ∷ cs) f g =
            let one : c ≡ y = cc in
            let k = next_of 0 0 c.no (both (follows 0 0 c.no) (in_order c.no.object.0 (suc c.no.place) (numbers_of cs)) f).0 in
            rw (← one) (by_next c k)
          where
            by_next : (d : Cell) → Next 0 0 d.no → d.no.place ≡ 0
            by_next d (inl k) = k.1
            by_next d (inr k) = k.1
    next (suc k) same =
        let inside = within cells i y there in
        let before = get_there cells k (omega arith) in
        let is = neighbour 0 0 cells k before.0 y e before.1 (ap (slice_get cells) same ∙ there) not in
        let was : place_by starts before.0.no ≡ k = all k before.0 (omega arith) before.1 in
        let begin : slice_index starts y.no.object.0 ≡ slice_index starts before.0.no.object.0 = ap (slice_index starts) is.0 in
        let place : y.no.place ≡ suc before.0.no.place = is.1 in
        omega arith
      where
        within : (cs : List Cell) (m : ℕ) (c : Cell) → slice_get cs m ≡ Some c → m < length cs
        within [] m c f = let no : None ≡ Some c = f in cc
        within (z ∷ zs) zero c f = omega arith
        within (z ∷ zs) (suc m) c f = let more = within zs m c f in omega arith

    by_place : (j < i) ⊎ (j ≡ i) → place_by starts x.no ≡ j
    by_place (inl less) = all j x less here
    by_place (inr same) =
        let two : Some x ≡ Some y = sym here ∙ ap (slice_get cells) same ∙ there in
        let one : x ≡ y = cc in
        ap (λ (c : Cell). place_by starts c.no) one ∙ next i refl ∙ sym same

pub placed_all : (starts : List ℕ) (cells : List Cell) (n : ℕ) → length cells ≤ n → IsPlacedBelow n starts cells → IsPlaced starts cells
placed_all starts cells n long all j x e = all j x (let inside = within cells j x e in omega arith) e
  where
    within : (ys : List Cell) (k : ℕ) (y : Cell) → slice_get ys k ≡ Some y → k < length ys
    within [] k y f = let no : None ≡ Some y = f in cc
    within (z ∷ zs) zero y f = omega arith
    within (z ∷ zs) (suc k) y f = let more = within zs k y f in omega arith
