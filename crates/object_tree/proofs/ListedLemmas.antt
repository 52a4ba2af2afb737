-- The list of the marked objects has the condemned, in any order.
use Rattle.std.proofs.Common.{◌≡◌, ◌∙◌, ap, sym, subst, refl, ℕ, zero, suc, ◌+◌, ◌<◌, ◌≤◌, Bool, true, false, not, nat_eq, List, [], ◌∷◌, ◌++◌, slice_get, slice_set, add-one, drop, if◌then◌else◌, arith}
use Rattle.std.specs.List.{sum_by}
use Rattle.std.specs.List.Sorted.{IsPermutation}
use Rattle.std.proofs.lemmas.List.Sums.{sum_by-cons}
use Rattle.std.proofs.lemmas.List.Sorted.{IsPermutation-sym, IsPermutation-trans, IsPermutation-append_left, IsPermutation-append_right, IsPermutation-to_front, sum_by-IsPermutation}
use Rattle.std.specs.declared.option.Option.TheVariants.{None, Some}
use Rattle.qml_base.specs.declared.numbers.ObjNo.{ObjNo}
use Rattle.tree_model.specs.declared.cells.Object.{Object}
use Rattle.tree_model.specs.Doomed.{is_marked, IsOrdered}
use Rattle.tree_model.specs.Removing.{doomed_of, AscendsFrom}
use Rattle.tree_model.specs.Settling.{stands}
use Rattle.object_tree.specs.Spreading.{condemned_one, Spreads, no_more, one_more, AllMarked, IsListed, AllListed}
use Rattle.object_tree.proofs.FindLemmas.{nat_eq_same, number_is}
use Rattle.object_tree.proofs.KeepLemmas.{doomed_ascend}

-- ---- what is listed at first
pub all_listed : (xs : List Object) → AllListed xs (doomed_of xs)
all_listed [] p m = let no : false ≡ true = m in cc
all_listed (x ∷ xs) p m = by_number (nat_eq x.number.0 p.0) refl m (all_listed xs p)
  where
    later : (b : Bool) → IsListed (doomed_of xs) p → IsListed (if b then x.number ∷ doomed_of xs else doomed_of xs) p
    later true l = record { place = suc l.place; there = l.there }
    later false l = l

    here : (b : Bool) → b ≡ true → x.number ≡ p → IsListed (if b then x.number ∷ doomed_of xs else doomed_of xs) p
    here true e is = record { place = 0; there = ap Some is }
    here false e is = let no : false ≡ true = e in cc

    by_number : (b : Bool) → nat_eq x.number.0 p.0 ≡ b → (if b then x.condemned else is_marked xs p) ≡ true → (is_marked xs p ≡ true → IsListed (doomed_of xs) p) → IsListed (doomed_of (x ∷ xs)) p
    by_number true e m go_on = here x.condemned m (number_is x.number p e)
    by_number false e m go_on = later x.condemned (go_on m)

number_higher : (n : ℕ) (xs : List Object) (k : ℕ) (p : ObjNo) → IsOrdered n xs → slice_get (doomed_of xs) k ≡ Some p → n < p.0
number_higher n xs k p ordered at = in_list n (doomed_of xs) k (doomed_ascend n xs ordered) at
  where
    in_list : (m : ℕ) (ns : List ObjNo) (k : ℕ) → AscendsFrom m ns → slice_get ns k ≡ Some p → m < p.0
    in_list m [] k all e = let no : None ≡ Some p = e in cc
    in_list m (o ∷ os) zero all e = let first : o ≡ p = cc in rw (← first) all.0
    in_list m (o ∷ os) (suc k) all e = let low = all.0 in let more = in_list o.0 os k all.1 e in omega arith

pub all_marked : (n : ℕ) (xs : List Object) → IsOrdered n xs → AllMarked (doomed_of xs) xs
all_marked n [] ordered k p at = let no : None ≡ Some p = at in cc
all_marked n (x ∷ xs) ordered k p at = by_mark x.condemned refl k at (λ j e. all_marked x.number.0 xs ordered.3 j p e) (λ j e. number_higher x.number.0 xs j p ordered.3 e)
  where
    other : (b : Bool) → nat_eq x.number.0 p.0 ≡ b → x.number.0 < p.0 → is_marked xs p ≡ true → (if b then x.condemned else is_marked xs p) ≡ true
    other true e low m = let same : x.number.0 ≡ p.0 = ap (λ (q : ObjNo). q.0) (number_is x.number p e) in absurd (omega arith)
    other false e low m = m

    by_mark : (b : Bool) → x.condemned ≡ b → (k : ℕ) → slice_get (if b then x.number ∷ doomed_of xs else doomed_of xs) k ≡ Some p → ((j : ℕ) → slice_get (doomed_of xs) j ≡ Some p → is_marked xs p ≡ true) → ((j : ℕ) → slice_get (doomed_of xs) j ≡ Some p → x.number.0 < p.0) → is_marked (x ∷ xs) p ≡ true
    by_mark true m zero at go_on higher = let first : x.number ≡ p = cc in rw (← first, nat_eq_same x.number.0) m
    by_mark true m (suc k) at go_on higher = other (nat_eq x.number.0 p.0) refl (higher k at) (go_on k at)
    by_mark false m k at go_on higher = other (nat_eq x.number.0 p.0) refl (higher k at) (go_on k at)

-- ---- an object that stands
pub stands_at : (n : ℕ) (xs : List Object) (c : ℕ) (x : Object) → IsOrdered n xs → slice_get xs c ≡ Some x → stands xs x.number ≡ not x.condemned
stands_at n [] c x ordered e = let no : None ≡ Some x = e in cc
stands_at n (y ∷ ys) zero x ordered e = let first : y ≡ x = cc in rw (first, nat_eq_same x.number.0) refl
stands_at n (y ∷ ys) (suc c) x ordered e = by_number (nat_eq y.number.0 x.number.0) refl (stands_at y.number.0 ys c x ordered.3 e)
  where
    higher : (m : ℕ) (zs : List Object) (k : ℕ) → IsOrdered m zs → slice_get zs k ≡ Some x → m < x.number.0
    higher m [] k all at = let no : None ≡ Some x = at in cc
    higher m (z ∷ zs) zero all at = let first : z ≡ x = cc in rw (← first) all.0
    higher m (z ∷ zs) (suc k) all at = let low = all.0 in let more = higher z.number.0 zs k all.3 at in omega arith

    by_number : (b : Bool) → nat_eq y.number.0 x.number.0 ≡ b → stands ys x.number ≡ not x.condemned → (if b then not y.condemned else stands ys x.number) ≡ not x.condemned
    by_number true same rest =
        let up = higher y.number.0 ys c ordered.3 e in
        let number : y.number.0 ≡ x.number.0 = ap (λ (m : ObjNo). m.0) (number_is y.number x.number same) in
        absurd (omega arith)
    by_number false same rest = rest

pub record IsThere (xs : List Object) (p : ObjNo) : Type 0 where
  pub place : ℕ
  pub x : Object
  pub there : slice_get xs place ≡ Some x
  pub number : x.number ≡ p

there_later : (x : Object) (xs : List Object) (p : ObjNo) → IsThere xs p → IsThere (x ∷ xs) p
there_later x xs p h = record { place = suc h.place; x = h.x; there = h.there; number = h.number }

pub marked_there : (xs : List Object) (p : ObjNo) → is_marked xs p ≡ true → IsThere xs p
marked_there [] p m = let no : false ≡ true = m in cc
marked_there (x ∷ xs) p m = by_number (nat_eq x.number.0 p.0) refl m (marked_there xs p)
  where
    by_number : (b : Bool) → nat_eq x.number.0 p.0 ≡ b → (if b then x.condemned else is_marked xs p) ≡ true → (is_marked xs p ≡ true → IsThere xs p) → IsThere (x ∷ xs) p
    by_number true e m go_on = record { place = 0; x = x; there = refl; number = number_is x.number p e }
    by_number false e m go_on = there_later x xs p (go_on m)

pub standing_there : (xs : List Object) (p : ObjNo) → stands xs p ≡ true → IsThere xs p
standing_there [] p m = let no : false ≡ true = m in cc
standing_there (x ∷ xs) p m = by_number (nat_eq x.number.0 p.0) refl m (standing_there xs p)
  where
    by_number : (b : Bool) → nat_eq x.number.0 p.0 ≡ b → (if b then not x.condemned else stands xs p) ≡ true → (stands xs p ≡ true → IsThere xs p) → IsThere (x ∷ xs) p
    by_number true e m go_on = record { place = 0; x = x; there = refl; number = number_is x.number p e }
    by_number false e m go_on = there_later x xs p (go_on m)

pub not_true : (b : Bool) → not b ≡ true → b ≡ false
not_true false e = refl
not_true true e = let no : false ≡ true = e in cc

pub not_false : (b : Bool) → not b ≡ false → b ≡ true
not_false true e = refl
not_false false e = let no : true ≡ false = e in cc

-- ---- how often a number is listed
abbrev one : ObjNo → ObjNo → ℕ
one p n = if nat_eq n.0 p.0 then 1 else 0

one_same : (p : ObjNo) → one p p ≡ 1
one_same p = rw (nat_eq_same p.0) refl

has : (p : ObjNo) (ns : List ObjNo) → 1 ≤ sum_by (one p) ns → IsListed ns p
has p [] h = absurd (omega arith)
has p (n ∷ ns) h = by_number (nat_eq n.0 p.0) refl (subst (λ k. 1 ≤ k) (sum_by-cons (one p) n ns) h) (has p ns)
  where
    by_number : (b : Bool) → nat_eq n.0 p.0 ≡ b → 1 ≤ (if b then 1 else 0) + sum_by (one p) ns → (1 ≤ sum_by (one p) ns → IsListed ns p) → IsListed (n ∷ ns) p
    by_number true e h go_on = record { place = 0; there = ap Some (number_is n p e) }
    by_number false e h go_on = let l = go_on (omega arith) in record { place = suc l.place; there = l.there }

counts : (p : ObjNo) (ns : List ObjNo) (k : ℕ) → slice_get ns k ≡ Some p → 1 ≤ sum_by (one p) ns
counts p [] k e = let no : None ≡ Some p = e in cc
counts p (n ∷ ns) zero e =
    let first : n ≡ p = cc in
    let here : one p n ≡ 1 = ap (one p) first ∙ one_same p in
    let all : sum_by (one p) (n ∷ ns) ≡ one p n + sum_by (one p) ns = sum_by-cons (one p) n ns in
    omega arith
counts p (n ∷ ns) (suc k) e =
    let all : sum_by (one p) (n ∷ ns) ≡ one p n + sum_by (one p) ns = sum_by-cons (one p) n ns in
    let rest = counts p ns k e in
    omega arith

-- what is in a list is in it in any order
moved_in : (p : ObjNo) (ns os : List ObjNo) → IsPermutation ns os → IsListed ns p → IsListed os p
moved_in p ns os moved l = has p os (subst (λ k. 1 ≤ k) (sym (sum_by-IsPermutation (one p) ns os moved)) (counts p ns l.place l.there))

pub permuted_marked : (xs : List Object) (ds : List ObjNo) → IsOrdered 0 xs → IsPermutation ds (doomed_of xs) → AllMarked ds xs
permuted_marked xs ds ordered moved k p at =
    let l = moved_in p ds (doomed_of xs) moved (record { place = k; there = at }) in
    all_marked 0 xs ordered l.place p l.there

pub permuted_listed : (xs : List Object) (ds : List ObjNo) → IsPermutation ds (doomed_of xs) → AllListed xs ds
permuted_listed xs ds moved p m = moved_in p (doomed_of xs) ds (IsPermutation-sym ds (doomed_of xs) moved) (all_listed xs p m)

-- ---- the marked are listed, each once
one_listed : (xs : List Object) (c : ℕ) (x : Object) → slice_get xs c ≡ Some x → x.condemned ≡ false → IsPermutation (doomed_of xs ++ x.number ∷ []) (doomed_of (slice_set xs c (condemned_one x)))
one_listed [] c x e m = let no : None ≡ Some x = e in cc
one_listed (y ∷ ys) zero x e m = let first : y ≡ x = cc in rw (first, m) (IsPermutation-to_front (doomed_of ys) x.number)
one_listed (y ∷ ys) (suc c) x e m = by_mark y.condemned (one_listed ys c x e m)
  where
    by_mark : (b : Bool) → IsPermutation (doomed_of ys ++ x.number ∷ []) (doomed_of (slice_set ys c (condemned_one x))) → IsPermutation ((if b then y.number ∷ doomed_of ys else doomed_of ys) ++ x.number ∷ []) (if b then y.number ∷ doomed_of (slice_set ys c (condemned_one x)) else doomed_of (slice_set ys c (condemned_one x)))
    by_mark true rest = IsPermutation-append_right (y.number ∷ []) (doomed_of ys ++ x.number ∷ []) (doomed_of (slice_set ys c (condemned_one x))) rest
    by_mark false rest = rest

pub spread_permutes : (o : ObjNo) (xs : List Object) (old : List ObjNo) (ys : List Object) (es : List ObjNo) → IsPermutation old (doomed_of xs) → Spreads o xs old ys es → IsPermutation es (doomed_of ys)
spread_permutes o xs old ys es listed (no_more e f) = rw (e, f) listed
spread_permutes o xs old ys es listed (one_more {xs = zs} {ds = ds} c x before there free next e f) =
    rw (e, f) (IsPermutation-trans (ds ++ x.number ∷ []) (doomed_of zs ++ x.number ∷ []) (doomed_of (slice_set zs c (condemned_one x)))
    (IsPermutation-append_left (x.number ∷ []) ds (doomed_of zs) (spread_permutes o xs old zs ds listed before))
    (one_listed zs c x there free))

-- ---- the list made from the objects
doomed_first : (xs : List Object) (i : ℕ) (x : Object) → slice_get xs i ≡ Some x → doomed_of (drop i xs) ≡ (if x.condemned then x.number ∷ doomed_of (drop (suc i) xs) else doomed_of (drop (suc i) xs))
doomed_first [] i x e = let no : None ≡ Some x = e in cc
doomed_first (y ∷ ys) zero x e = let first : y ≡ x = cc in rw first refl
doomed_first (y ∷ ys) (suc i) x e = doomed_first ys i x e

append_one : (ms ns : List ObjNo) (o : ObjNo) → (ms ++ o ∷ []) ++ ns ≡ ms ++ o ∷ ns
append_one [] ns o = refl
append_one (m ∷ ms) ns o = ap (λ l. m ∷ l) (append_one ms ns o)

pub one_more_listed : (xs : List Object) (ds : List ObjNo) (i : ℕ) (x : Object) → slice_get xs i ≡ Some x → x.condemned ≡ true → ds ++ doomed_of (drop i xs) ≡ doomed_of xs → (ds ++ x.number ∷ []) ++ doomed_of (drop (i + 1) xs) ≡ doomed_of xs
one_more_listed xs ds i x at is e =
    let first : doomed_of (drop i xs) ≡ x.number ∷ doomed_of (drop (suc i) xs) = doomed_first xs i x at ∙ ap (λ (b : Bool). if b then x.number ∷ doomed_of (drop (suc i) xs) else doomed_of (drop (suc i) xs)) is in
    rw (add-one, append_one) (ap (λ l. ds ++ l) (sym first) ∙ e)

pub none_more_listed : (xs : List Object) (ds : List ObjNo) (i : ℕ) (x : Object) → slice_get xs i ≡ Some x → x.condemned ≡ false → ds ++ doomed_of (drop i xs) ≡ doomed_of xs → ds ++ doomed_of (drop (i + 1) xs) ≡ doomed_of xs
none_more_listed xs ds i x at is e =
    let first : doomed_of (drop i xs) ≡ doomed_of (drop (suc i) xs) = doomed_first xs i x at ∙ ap (λ (b : Bool). if b then x.number ∷ doomed_of (drop (suc i) xs) else doomed_of (drop (suc i) xs)) is in
    rw add-one (ap (λ l. ds ++ l) (sym first) ∙ e)
