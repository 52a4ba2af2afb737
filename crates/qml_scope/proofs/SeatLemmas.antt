-- Seats of objects, as they are counted and put.
use Rattle.std.proofs.Common.{rules, ◌≡◌, ◌∙◌, ap, sym, subst, refl, cond, nat_eq, ℕ, zero, suc, ◌+◌, ◌<◌, ◌≤◌, Bool, true, false, ◌&&◌, ◌||◌, List, [], ◌∷◌, ◌++◌, map, length, take, drop, slice_get, add-one, if◌then◌else◌, arith}
use Rattle.std.proofs.lemmas.Bool.{eqb-true, false≢true, or_parts}
use Rattle.std.proofs.Math.Bool.{or_assoc, or-false}
use Rattle.std.specs.declared.option.Option.{Option}
use Rattle.std.specs.declared.option.Option.TheVariants.{None, Some}
use Rattle.qml_base.specs.declared.numbers.ObjNo.{ObjNo}
use Rattle.qml_value.specs.Scrubbing.{is_among}
use Rattle.qml_scope.specs.declared.shape.Entry.{Entry}
use Rattle.qml_scope.specs.declared.shape.Shape.{Shape}
use Rattle.qml_scope.specs.Shapes.{same_object, stands_among}
use Rattle.qml_scope.specs.Seats.{sits_in, entry_place, Seat, seats_from, seats, sits_at, Rows, seat_in, Tells, objects_in, new_seat, seats_with}

nat_eq_is : (m n : ℕ) → nat_eq m n ≡ true → m ≡ n
nat_eq_is m n e = search rules

nat_eq_same : (n : ℕ) → nat_eq n n ≡ true
nat_eq_same n = search rules

nat_less : (m n : ℕ) → m < n → nat_eq m n ≡ false
nat_less m n h = by_test (nat_eq m n) refl
  where
    by_test : (b : Bool) → nat_eq m n ≡ b → nat_eq m n ≡ false
    by_test true e = let same : m ≡ n = nat_eq_is m n e in absurd (omega arith)
    by_test false e = e

nat_more : (m n : ℕ) → n < m → nat_eq m n ≡ false
nat_more m n h = by_test (nat_eq m n) refl
  where
    by_test : (b : Bool) → nat_eq m n ≡ b → nat_eq m n ≡ false
    by_test true e = let same : m ≡ n = nat_eq_is m n e in absurd (omega arith)
    by_test false e = e

nat_eq_suc : (m n : ℕ) → nat_eq (suc m) (suc n) ≡ nat_eq m n
nat_eq_suc m n = by_test (nat_eq m n) refl
  where
    by_more : (b : Bool) → nat_eq (suc m) (suc n) ≡ b → nat_eq m n ≡ false → nat_eq (suc m) (suc n) ≡ false
    by_more true e f = let same : m ≡ n = (let one : suc m ≡ suc n = nat_eq_is (suc m) (suc n) e in omega arith) in absurd (false≢true (sym f ∙ ap (λ k. nat_eq k n) same ∙ nat_eq_same n))
    by_more false e f = e

    by_test : (b : Bool) → nat_eq m n ≡ b → nat_eq (suc m) (suc n) ≡ b
    by_test true e = let same : m ≡ n = nat_eq_is m n e in ap (λ k. nat_eq (suc k) (suc n)) same ∙ nat_eq_same (suc n)
    by_test false e = by_more (nat_eq (suc m) (suc n)) refl e

-- ---- counting
seat_first : (xs : List Seat) (k : ℕ) (x : Seat) → slice_get xs k ≡ Some x → (suc k ≤ length xs) × (drop k xs ≡ x ∷ drop (suc k) xs)
seat_first [] k x h = let no : None ≡ Some x = h in cc
seat_first (y ∷ ys) zero x h = let first : y ≡ x = cc in (omega arith, rw first refl)
seat_first (y ∷ ys) (suc k) x h = let rest = seat_first ys k x h in (omega (arith, rest.0), rest.1)

seat_none : (xs : List Seat) (k : ℕ) → Path (Option Seat) (slice_get xs k) None → length xs ≤ k
seat_none [] k h = omega arith
seat_none (y ∷ ys) zero h = let no : Some y ≡ None = h in cc
seat_none (y ∷ ys) (suc k) h = let rest = seat_none ys k h in omega (arith, rest)

drop_all : (xs : List Seat) (k : ℕ) → length xs ≤ k → drop k xs ≡ []
drop_all [] zero h = refl
drop_all [] (suc k) h = refl
drop_all (y ∷ ys) zero h = absurd (omega arith)
drop_all (y ∷ ys) (suc k) h = drop_all ys k (omega arith)

abbrev pub Past : ℕ → ℕ → List Seat → Type 0
Past n k seats = (k ≤ length seats) × (sits_at n (drop k seats) ≡ sits_at n seats)

pub counted_next : (n k : ℕ) (xs : List Seat) (x : Seat) → slice_get xs k ≡ Some x → nat_eq x.0 n ≡ false → Past n k xs → Past n (k + 1) xs
counted_next n k xs x at not p =
    let first = seat_first xs k x at in
    (omega (arith, first.0), ap (λ j. sits_at n (drop j xs)) (add-one k) ∙ ap (λ (b : Bool). b || sits_at n (drop (suc k) xs)) (sym not) ∙ ap (sits_at n) (sym first.1) ∙ p.1)

pub counted_seated : (n k : ℕ) (xs : List Seat) (x : Seat) → slice_get xs k ≡ Some x → nat_eq x.0 n ≡ true → Past n k xs → sits_at n xs ≡ true
counted_seated n k xs x at is p =
    let first = seat_first xs k x at in
    sym p.1 ∙ ap (sits_at n) first.1 ∙ ap (λ (b : Bool). b || sits_at n (drop (suc k) xs)) is

pub counted_all : (n k : ℕ) (xs : List Seat) → Path (Option Seat) (slice_get xs k) None → Past n k xs → (k ≡ length xs) × (sits_at n xs ≡ false)
counted_all n k xs none p =
    let past = seat_none xs k none in
    (omega (arith, past, p.0), sym p.1 ∙ ap (sits_at n) (drop_all xs k past))

-- ---- seats of the instances before
pub sits_not : (m n : ℕ) (ss : List Shape) (o : ObjNo) → m + length ss ≤ n → sits_at n (seats_from m ss o) ≡ false
sits_not m n [] o h = refl
sits_not m n (s ∷ ss) o h = by_seat (sits_in o s) (nat_less m n (omega arith)) (sits_not (suc m) n ss o (omega arith))
  where
    by_seat : (b : Bool) → nat_eq m n ≡ false → sits_at n (seats_from (suc m) ss o) ≡ false → sits_at n (if b then (m, entry_place s.members o) ∷ seats_from (suc m) ss o else seats_from (suc m) ss o) ≡ false
    by_seat true other rest = rw other rest
    by_seat false other rest = rest

sits_append : (n : ℕ) (xs ys : List Seat) → sits_at n (xs ++ ys) ≡ (sits_at n xs || sits_at n ys)
sits_append n [] ys = refl
sits_append n (x ∷ xs) ys = ap (λ (b : Bool). nat_eq x.0 n || b) (sits_append n xs ys) ∙ sym (or_assoc (nat_eq x.0 n) (sits_at n xs) (sits_at n ys))

sits_new : (n : ℕ) (s : Shape) (b : Bool) (o : ObjNo) → sits_at n (new_seat n s b o) ≡ b
sits_new n s true o = ap (λ (b : Bool). b || false) (nat_eq_same n)
sits_new n s false o = refl

-- the object has a seat in the next instance where it is among those that were seated
pub sits_with : (shapes : List Shape) (s : Shape) (p : ℕ) (o : ObjNo) → sits_at (length shapes) (seats_with shapes s p o) ≡ is_among (take p (objects_in s)) o
sits_with shapes s p o =
    sits_append (length shapes) (seats shapes o) (new_seat (length shapes) s (is_among (take p (objects_in s)) o) o)
    ∙ ap (λ (b : Bool). b || sits_at (length shapes) (new_seat (length shapes) s (is_among (take p (objects_in s)) o) o)) (sits_not 0 (length shapes) shapes o (omega arith))
    ∙ sits_new (length shapes) s (is_among (take p (objects_in s)) o) o

-- ---- one object more
among_next : (os : List ObjNo) (p : ℕ) (o q : ObjNo) → slice_get os p ≡ Some o → is_among (take (suc p) os) q ≡ (is_among (take p os) q || same_object o q)
among_next [] p o q h = let no : None ≡ Some o = h in cc
among_next (x ∷ xs) zero o q h = let first : x ≡ o = cc in rw first (or-false (nat_eq o.0 q.0))
among_next (x ∷ xs) (suc p) o q h = ap (λ (b : Bool). nat_eq x.0 q.0 || b) (among_next xs p o q h) ∙ sym (or_assoc (nat_eq x.0 q.0) (is_among (take p xs) q) (same_object o q))

among_same : (os : List ObjNo) (o q : ObjNo) → nat_eq o.0 q.0 ≡ true → is_among os o ≡ is_among os q
among_same os o q h = ap (λ (n : ℕ). is_among os (record { 0 = n })) (eqb-true o.0 q.0 h)

seated_stays : (b c : Bool) → (c ≡ true → b ≡ true) → (b || c) ≡ b
seated_stays true c h = refl
seated_stays false true h = sym (h refl)
seated_stays false false h = refl

-- an object that has a seat there already
pub seat_kept : (rows : Rows) (shapes : List Shape) (s : Shape) (p : ℕ) (o : ObjNo) → slice_get (objects_in s) p ≡ Some o → sits_at (length shapes) (seats_with shapes s p o) ≡ true → Tells rows (seats_with shapes s p) → Tells rows (seats_with shapes s (p + 1))
seat_kept rows shapes s p o at seated tells q k =
    let there : is_among (take p (objects_in s)) o ≡ true = sym (sits_with shapes s p o) ∙ seated in
    let same : is_among (take (p + 1) (objects_in s)) q ≡ is_among (take p (objects_in s)) q =
    ap (λ n. is_among (take n (objects_in s)) q) (add-one p) ∙ among_next (objects_in s) p o q at ∙ seated_stays (is_among (take p (objects_in s)) q) (same_object o q) (λ e. sym (among_same (take p (objects_in s)) o q e) ∙ there) in
    tells q k ∙ ap (λ (b : Bool). slice_get (seats shapes q ++ new_seat (length shapes) s b q) k) (sym same)

-- where the first entry stands
entry_at : (es : List Entry) (root : ObjNo) (p : ℕ) (o : ObjNo) → slice_get (map (λ (e : Entry). e.object) es ++ root ∷ []) p ≡ Some o → is_among (take p (map (λ (e : Entry). e.object) es ++ root ∷ [])) o ≡ false → entry_place es o ≡ p
entry_at [] root zero o at not = refl
entry_at [] root (suc p) o at not = let no : None ≡ Some o = at in cc
entry_at (e ∷ es) root zero o at not = let first : e.object ≡ o = cc in rw (first, nat_eq_same o.0) refl
entry_at (e ∷ es) root (suc p) o at not =
    let here = or_parts (nat_eq e.object.0 o.0) (is_among (take p (map (λ (x : Entry). x.object) es ++ root ∷ [])) o) not in
    ap (λ (b : Bool). if b then 0 else suc (entry_place es o)) here.0 ∙ ap suc (entry_at es root p o at here.1)

get_behind : (xs : List Seat) (y : Seat) (j : ℕ) → slice_get (xs ++ y ∷ []) j ≡ cond (nat_eq (length xs) j) (Some y) (slice_get xs j)
get_behind [] y zero = refl
get_behind [] y (suc j) = ap (λ (b : Bool). cond b (Some y) None) (sym (nat_less 0 (suc j) (omega arith)))
get_behind (x ∷ xs) y zero = ap (λ (b : Bool). cond b (Some y) (Some x)) (sym (nat_more (suc (length xs)) 0 (omega arith)))
get_behind (x ∷ xs) y (suc j) = get_behind xs y j ∙ ap (λ (b : Bool). cond b (Some y) (slice_get xs j)) (sym (nat_eq_suc (length xs) j))

append_none : (xs : List Seat) → xs ++ [] ≡ xs
append_none [] = refl
append_none (x ∷ xs) = ap (λ (l : List Seat). x ∷ l) (append_none xs)

-- a seat that is put behind the others
module _ (rows after : Rows) (shapes : List Shape) (s : Shape) (p k : ℕ) (o : ObjNo)
    (at : slice_get (objects_in s) p ≡ Some o) (many : k ≡ length (seats_with shapes s p o)) (none : sits_at (length shapes) (seats_with shapes s p o) ≡ false)
    (updates : (q : ObjNo) (j : ℕ) → seat_in after q j ≡ cond (nat_eq o.0 q.0 && nat_eq k j) (Some (length shapes, p)) (seat_in rows q j))
    (tells : Tells rows (seats_with shapes s p)) where
  not_there : is_among (take p (objects_in s)) o ≡ false
  not_there = sym (sits_with shapes s p o) ∙ none

  next_is : (q : ObjNo) → is_among (take (p + 1) (objects_in s)) q ≡ (is_among (take p (objects_in s)) q || same_object o q)
  next_is q = ap (λ n. is_among (take n (objects_in s)) q) (add-one p) ∙ among_next (objects_in s) p o q at

  first_entry : entry_place s.members o ≡ p
  first_entry = entry_at s.members s.root p o at not_there

  -- of the object itself
  were : seats_with shapes s p o ≡ seats shapes o
  were = ap (λ (b : Bool). seats shapes o ++ new_seat (length shapes) s b o) not_there ∙ append_none (seats shapes o)

  are : seats_with shapes s (p + 1) o ≡ seats shapes o ++ (length shapes, p) ∷ []
  are =
      ap (λ (b : Bool). seats shapes o ++ new_seat (length shapes) s b o) (next_is o ∙ ap (λ (b : Bool). b || same_object o o) not_there ∙ nat_eq_same o.0)
      ∙ ap (λ (e : ℕ). seats shapes o ++ (length shapes, e) ∷ []) first_entry

  own : (j : ℕ) → seat_in after o j ≡ slice_get (seats_with shapes s (p + 1) o) j
  own j =
      updates o j
      ∙ ap (λ (b : Bool). cond (b && nat_eq k j) (Some (length shapes, p)) (seat_in rows o j)) (nat_eq_same o.0)
      ∙ ap (λ (n : ℕ). cond (nat_eq n j) (Some (length shapes, p)) (seat_in rows o j)) (many ∙ ap length were)
      ∙ ap (λ (x : Option Seat). cond (nat_eq (length (seats shapes o)) j) (Some (length shapes, p)) x) (tells o j ∙ ap (λ (l : List Seat). slice_get l j) were)
      ∙ sym (get_behind (seats shapes o) (length shapes, p) j)
      ∙ ap (λ (l : List Seat). slice_get l j) (sym are)

  other : (q : ObjNo) → nat_eq o.0 q.0 ≡ false → (j : ℕ) → seat_in after q j ≡ slice_get (seats_with shapes s (p + 1) q) j
  other q differs j =
      updates q j
      ∙ ap (λ (b : Bool). cond (b && nat_eq k j) (Some (length shapes, p)) (seat_in rows q j)) differs
      ∙ tells q j
      ∙ ap (λ (b : Bool). slice_get (seats shapes q ++ new_seat (length shapes) s b q) j) (sym (or-false (is_among (take p (objects_in s)) q)) ∙ ap (λ (b : Bool). is_among (take p (objects_in s)) q || b) (sym differs) ∙ sym (next_is q))

  pub seat_put : Tells after (seats_with shapes s (p + 1))
  seat_put q j = by_object (nat_eq o.0 q.0) refl
    where
      by_object : (b : Bool) → nat_eq o.0 q.0 ≡ b → seat_in after q j ≡ slice_get (seats_with shapes s (p + 1) q) j
      by_object true same = subst (λ (n : ℕ). seat_in after (record { 0 = n }) j ≡ slice_get (seats_with shapes s (p + 1) (record { 0 = n })) j) (eqb-true o.0 q.0 same) (own j)
      by_object false differs = other q differs j

-- ---- a whole instance
among_members : (es : List Entry) (root o : ObjNo) → is_among (map (λ (e : Entry). e.object) es ++ root ∷ []) o ≡ (stands_among es o || same_object root o)
among_members [] root o = or-false (nat_eq root.0 o.0)
among_members (e ∷ es) root o = ap (λ (b : Bool). nat_eq e.object.0 o.0 || b) (among_members es root o) ∙ sym (or_assoc (nat_eq e.object.0 o.0) (stands_among es o) (same_object root o))

take_past : (es : List Entry) (root : ObjNo) (n : ℕ) → n ≡ length es + 1 → take n (map (λ (e : Entry). e.object) es ++ root ∷ []) ≡ map (λ (e : Entry). e.object) es ++ root ∷ []
take_past [] root n e = rw e refl
take_past (x ∷ es) root n e = let less : n ≡ suc (length es + 1) = omega arith in rw less (ap (λ (l : List ObjNo). x.object ∷ l) (take_past es root (length es + 1) refl))

seats_append : (n : ℕ) (ss : List Shape) (s : Shape) (o : ObjNo) → seats_from n (ss ++ s ∷ []) o ≡ seats_from n ss o ++ new_seat (n + length ss) s (sits_in o s) o
seats_append n [] s o = ap (λ (m : ℕ). new_seat m s (sits_in o s) o) n_is ∙ by_seat (sits_in o s)
  where
    n_is : n ≡ n + 0
    n_is = omega arith

    by_seat : (b : Bool) → new_seat (n + 0) s b o ≡ new_seat (n + 0) s b o
    by_seat b = refl
seats_append n (x ∷ ss) s o = by_seat (sits_in o x) (seats_append (suc n) ss s o ∙ ap (λ (m : ℕ). seats_from (suc n) ss o ++ new_seat m s (sits_in o s) o) behind)
  where
    behind : suc n + length ss ≡ n + length (x ∷ ss)
    behind = omega arith

    by_seat : (b : Bool) → seats_from (suc n) (ss ++ s ∷ []) o ≡ seats_from (suc n) ss o ++ new_seat (n + length (x ∷ ss)) s (sits_in o s) o → (if b then (n, entry_place x.members o) ∷ seats_from (suc n) (ss ++ s ∷ []) o else seats_from (suc n) (ss ++ s ∷ []) o) ≡ (if b then (n, entry_place x.members o) ∷ seats_from (suc n) ss o else seats_from (suc n) ss o) ++ new_seat (n + length (x ∷ ss)) s (sits_in o s) o
    by_seat true rest = ap (λ (l : List Seat). (n, entry_place x.members o) ∷ l) rest
    by_seat false rest = rest

none_more : (n : ℕ) → n ≡ 0 + n
none_more n = omega arith

pub seats_done : (rows : Rows) (shapes : List Shape) (s : Shape) (n : ℕ) → n ≡ length s.members + 1 → Tells rows (seats_with shapes s n) → Tells rows (seats (shapes ++ s ∷ []))
seats_done rows shapes s n all tells q j =
    tells q j
    ∙ ap (λ (os : List ObjNo). slice_get (seats shapes q ++ new_seat (length shapes) s (is_among os q) q) j) (take_past s.members s.root n all)
    ∙ ap (λ (b : Bool). slice_get (seats shapes q ++ new_seat (length shapes) s b q) j) (among_members s.members s.root q)
    ∙ ap (λ (m : ℕ). slice_get (seats shapes q ++ new_seat m s (sits_in q s) q) j) (none_more (length shapes))
    ∙ ap (λ (l : List Seat). slice_get l j) (sym (seats_append 0 shapes s q))
