-- Taking condemned objects away.
use Rattle.std.proofs.Common.{◌≡◌, ◌∙◌, ◌⊎◌, inl, inr, ap, sym, refl, ℕ, zero, suc, ◌+◌, ◌-◌, ◌<◌, ◌≤◌, add-one, Bool, true, false, List, [], ◌∷◌, ◌++◌, length, take, drop, slice_get, slice_set, slice_index, if◌then◌else◌, arith}
use Rattle.std.specs.declared.option.Option.TheVariants.{None, Some}
use Rattle.tree_model.specs.declared.cells.Object.{Object}
use Rattle.tree_model.specs.Doomed.{IsOrdered}
use Rattle.object_tree.specs.Trees.{IsAt, AllUpTo}
use Rattle.tree_model.specs.Removing.{doomed_of, kept_of, AscendsFrom}
use Rattle.qml_base.specs.declared.numbers.ObjNo.{ObjNo}
use Rattle.object_tree.proofs.WalkLemmas.{take_set}

drop_set_before : (xs : List Object) (n i : ℕ) (m : Object) → n < i → drop i (slice_set xs n m) ≡ drop i xs
drop_set_before [] n i m h = refl
drop_set_before (x ∷ xs) n zero m h = absurd (omega arith)
drop_set_before (x ∷ xs) zero (suc i) m h = refl
drop_set_before (x ∷ xs) (suc n) (suc i) m h = drop_set_before xs n i m (omega arith)

kept_first : (xs : List Object) (i : ℕ) (x : Object) → slice_get xs i ≡ Some x → kept_of (drop i xs) ≡ (if x.condemned then kept_of (drop (suc i) xs) else x ∷ kept_of (drop (suc i) xs))
kept_first [] i x e = let no : None ≡ Some x = e in cc
kept_first (y ∷ ys) zero x e = let first : y ≡ x = cc in rw first refl
kept_first (y ∷ ys) (suc i) x e = kept_first ys i x e

append_one : (xs ys : List Object) (x : Object) → (xs ++ x ∷ []) ++ ys ≡ xs ++ x ∷ ys
append_one [] ys x = refl
append_one (z ∷ zs) ys x = ap (λ l. z ∷ l) (append_one zs ys x)

pub kept_more : (xs final : List Object) (n i : ℕ) (x : Object) → slice_get xs i ≡ Some x → x.condemned ≡ false → n ≤ i → i < length xs → take n xs ++ kept_of (drop i xs) ≡ final → take (n + 1) (slice_set xs n x) ++ kept_of (drop (i + 1) (slice_set xs n x)) ≡ final
kept_more xs final n i x at is low inside e =
    let later : drop (suc i) (slice_set xs n x) ≡ drop (suc i) xs = drop_set_before xs n (suc i) x (omega arith) in
    let first : kept_of (drop i xs) ≡ x ∷ kept_of (drop (suc i) xs) = kept_first xs i x at ∙ ap (λ (b : Bool). if b then kept_of (drop (suc i) xs) else x ∷ kept_of (drop (suc i) xs)) is in
    rw (add-one, add-one, take_set xs n x (omega arith), later, append_one) (ap (λ l. take n xs ++ l) (sym first) ∙ e)

pub kept_less : (xs final : List Object) (n i : ℕ) (x : Object) → slice_get xs i ≡ Some x → x.condemned ≡ true → take n xs ++ kept_of (drop i xs) ≡ final → take n xs ++ kept_of (drop (i + 1) xs) ≡ final
kept_less xs final n i x at is e =
    let first : kept_of (drop i xs) ≡ kept_of (drop (suc i) xs) = kept_first xs i x at ∙ ap (λ (b : Bool). if b then kept_of (drop (suc i) xs) else x ∷ kept_of (drop (suc i) xs)) is in
    rw add-one (ap (λ l. take n xs ++ l) (sym first) ∙ e)

-- ---- what is kept is in order
lower : (m n : ℕ) (xs : List Object) → m < n → IsOrdered n xs → IsOrdered m xs
lower m n [] h ordered = tt
lower m n (x ∷ xs) h ordered = let first = ordered.0 in (omega arith, ordered.1, ordered.2, ordered.3)

pub ordered_kept : (n : ℕ) (xs : List Object) → IsOrdered n xs → IsOrdered n (kept_of xs)
ordered_kept n [] ordered = tt
ordered_kept n (x ∷ xs) ordered = by_mark x.condemned (ordered_kept x.number.0 xs ordered.3)
  where
    by_mark : (b : Bool) → IsOrdered x.number.0 (kept_of xs) → IsOrdered n (if b then kept_of xs else x ∷ kept_of xs)
    by_mark true rest = lower n x.number.0 (kept_of xs) ordered.0 rest
    by_mark false rest = (ordered.0, ordered.1, ordered.2, rest)

pub up_to_kept : (n : ℕ) (xs : List Object) → AllUpTo n xs → AllUpTo n (kept_of xs)
up_to_kept n [] all = tt
up_to_kept n (x ∷ xs) all = by_mark x.condemned (up_to_kept n xs all.1)
  where
    by_mark : (b : Bool) → AllUpTo n (kept_of xs) → AllUpTo n (if b then kept_of xs else x ∷ kept_of xs)
    by_mark true rest = rest
    by_mark false rest = (all.0, rest)

pub none_doomed : (xs : List Object) → doomed_of (kept_of xs) ≡ []
none_doomed [] = refl
none_doomed (x ∷ xs) = by_mark x.condemned refl (none_doomed xs)
  where
    by_mark : (b : Bool) → x.condemned ≡ b → doomed_of (kept_of xs) ≡ [] → doomed_of (if b then kept_of xs else x ∷ kept_of xs) ≡ []
    by_mark true is rest = rest
    by_mark false is rest = rw is rest

pub kept_length : (xs : List Object) → length (kept_of xs) ≤ length xs
kept_length [] = omega arith
kept_length (x ∷ xs) = by_mark x.condemned (kept_length xs)
  where
    by_mark : (b : Bool) → length (kept_of xs) ≤ length xs → length (if b then kept_of xs else x ∷ kept_of xs) ≤ suc (length xs)
    by_mark true rest = omega arith
    by_mark false rest = omega arith

-- ---- the table told anew
index_set_same : (xs : List ℕ) (i v : ℕ) → i < length xs → slice_index (slice_set xs i v) i ≡ v
index_set_same [] i v h = absurd (omega arith)
index_set_same (x ∷ xs) zero v h = refl
index_set_same (x ∷ xs) (suc i) v h = index_set_same xs i v (omega arith)

index_set_other : (xs : List ℕ) (i j v : ℕ) → j < i → slice_index (slice_set xs i v) j ≡ slice_index xs j
index_set_other [] i j v h = refl
index_set_other (x ∷ xs) zero j v h = absurd (omega arith)
index_set_other (x ∷ xs) (suc i) zero v h = refl
index_set_other (x ∷ xs) (suc i) (suc j) v h = index_set_other xs i j v (omega arith)

pub above : (n : ℕ) (xs : List Object) (j i : ℕ) (x y : Object) → IsOrdered n xs → j < i → slice_get xs j ≡ Some x → slice_get xs i ≡ Some y → (n < x.number.0) × (x.number.0 < y.number.0)
above n [] j i x y ordered h e f = let no : None ≡ Some x = e in cc
above n (z ∷ zs) j zero x y ordered h e f = absurd (omega arith)
above n (z ∷ zs) zero (suc i) x y ordered h e f =
    let first : z ≡ x = cc in
    let up = later z.number.0 zs i y ordered.3 f in
    rw (← first) (ordered.0, up)
  where
    later : (m : ℕ) (ws : List Object) (k : ℕ) (w : Object) → IsOrdered m ws → slice_get ws k ≡ Some w → m < w.number.0
    later m [] k w o g = let no : None ≡ Some w = g in cc
    later m (v ∷ vs) zero w o g = let same : v ≡ w = cc in rw (← same) o.0
    later m (v ∷ vs) (suc k) w o g = let low = o.0 in let more = later v.number.0 vs k w o.3 g in omega arith
above n (z ∷ zs) (suc j) (suc i) x y ordered h e f =
    let low = ordered.0 in
    let more = above z.number.0 zs j i x y ordered.3 (omega arith) e f in
    let up = more.0 in
    (omega arith, more.1)

abbrev pub IsAtBelow : ℕ → List ℕ → List Object → Type 0
IsAtBelow n places objects = (j : ℕ) (x : Object) → j < n → slice_get objects j ≡ Some x → slice_index places (x.number.0 - 1) ≡ j

split : (j i : ℕ) → j < i + 1 → (j < i) ⊎ (j ≡ i)
split zero zero h = inr refl
split zero (suc i) h = inl (omega arith)
split (suc j) zero h = absurd (omega arith)
split (suc j) (suc i) h = by_rest (split j i (omega arith))
  where
    by_rest : (j < i) ⊎ (j ≡ i) → (suc j < suc i) ⊎ (suc j ≡ suc i)
    by_rest (inl less) = inl (omega arith)
    by_rest (inr same) = inr (ap suc same)

pub at_more : (places : List ℕ) (xs : List Object) (i at : ℕ) (y : Object) → IsOrdered 0 xs → slice_get xs i ≡ Some y → at ≡ y.number.0 - 1 → at < length places → IsAtBelow i places xs → IsAtBelow (i + 1) (slice_set places at i) xs
at_more places xs i at y ordered there is inside all j x low e = by_place (split j i low)
  where
    by_place : (j < i) ⊎ (j ≡ i) → slice_index (slice_set places at i) (x.number.0 - 1) ≡ j
    by_place (inl less) =
        let order = above 0 xs j i x y ordered less e there in
        let one = order.0 in
        let two = order.1 in
        index_set_other places at (x.number.0 - 1) i (omega arith) ∙ all j x less e
    by_place (inr same) =
        let both : Some x ≡ Some y = sym e ∙ ap (slice_get xs) same ∙ there in
        let one : x ≡ y = cc in
        ap (λ (k : Object). slice_index (slice_set places at i) (k.number.0 - 1)) one ∙ ap (slice_index (slice_set places at i)) (sym is) ∙ index_set_same places at i inside ∙ sym same

pub at_all : (places : List ℕ) (xs : List Object) (n : ℕ) → length xs ≤ n → IsAtBelow n places xs → IsAt places xs
at_all places xs n long all j x e = all j x (let inside = within xs j x e in omega arith) e
  where
    within : (ys : List Object) (k : ℕ) (y : Object) → slice_get ys k ≡ Some y → k < length ys
    within [] k y f = let no : None ≡ Some y = f in cc
    within (z ∷ zs) zero y f = omega arith
    within (z ∷ zs) (suc k) y f = let more = within zs k y f in omega arith

pub get_there : (xs : List Object) (i : ℕ) → i < length xs → (x : Object) × (slice_get xs i ≡ Some x)
get_there [] i h = absurd (omega arith)
get_there (x ∷ xs) zero h = (x, refl)
get_there (x ∷ xs) (suc i) h = get_there xs i (omega arith)

-- the numbers of the condemned objects ascend
lower_numbers : (m n : ℕ) (os : List ObjNo) → m ≤ n → AscendsFrom n os → AscendsFrom m os
lower_numbers m n [] h all = tt
lower_numbers m n (o ∷ os) h all = let first = all.0 in (omega arith, all.1)

pub doomed_ascend : (n : ℕ) (xs : List Object) → IsOrdered n xs → AscendsFrom n (doomed_of xs)
doomed_ascend n [] ordered = tt
doomed_ascend n (x ∷ xs) ordered = by_mark x.condemned (doomed_ascend x.number.0 xs ordered.3)
  where
    by_mark : (b : Bool) → AscendsFrom x.number.0 (doomed_of xs) → AscendsFrom n (if b then x.number ∷ doomed_of xs else doomed_of xs)
    by_mark true rest = (ordered.0, rest)
    by_mark false rest = let first = ordered.0 in lower_numbers n x.number.0 (doomed_of xs) (omega arith) rest
