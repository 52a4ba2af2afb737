-- Marks that spread until all that hangs on a marked object is marked are those of one walk in the order of numbers.
use Rattle.std.proofs.Common.{◌≡◌, ◌∙◌, ◌⊎◌, inl, inr, ap, sym, refl, ℕ, zero, suc, ◌+◌, ◌<◌, ◌≤◌, ◌||◌, Bool, true, false, nat_eq, List, [], ◌∷◌, ◌++◌, length, take, drop, slice_get, slice_set, if◌then◌else◌, arith}
use Rattle.std.proofs.lemmas.Option.{slice_get_within}
use Rattle.std.specs.declared.option.Option.{Option}
use Rattle.std.specs.declared.option.Option.TheVariants.{None, Some}
use Rattle.qml_base.specs.declared.numbers.ObjNo.{ObjNo}
use Rattle.tree_model.specs.declared.cells.Object.{Object}
use Rattle.tree_model.specs.Doomed.{is_marked, marked_by, marked, mark, marked_from, IsOrdered}
use Rattle.tree_model.specs.Removing.{doomed_of}
use Rattle.object_tree.specs.declared.links.Tie.{Tie}
use Rattle.object_tree.specs.declared.links.Tie.TheVariants as tie
use Rattle.object_tree.specs.Trees.{IsAt, AllUpTo}
use Rattle.object_tree.specs.Links.{parent_by, EndBefore, GoOn, IsLinked, IsTied}
use Rattle.object_tree.specs.Spreading.{condemned_one, IsNext, Spreads, no_more, one_more, Covers, IsWhole, unmarked, AllMarked, IsListed, AllListed}
use Rattle.object_tree.proofs.FindLemmas.{nat_eq_same, number_is}
use Rattle.object_tree.proofs.KeepLemmas.{get_there}
use Rattle.object_tree.proofs.LinkLemmas.{same_place}
use Rattle.object_tree.proofs.MarkLemmas.{at_set, ordered_set, up_to_set, by_before, ordered_at}
use Rattle.object_tree.proofs.WalkLemmas.{take_all}

-- ---- one object marked
pub set_there : (xs : List Object) (c : ℕ) (x m : Object) → slice_get xs c ≡ Some x → slice_get (slice_set xs c m) c ≡ Some m
set_there [] c x m e = let no : None ≡ Some x = e in cc
set_there (y ∷ ys) zero x m e = refl
set_there (y ∷ ys) (suc c) x m e = set_there ys c x m e

pub set_cases : (xs : List Object) (c j : ℕ) (m y : Object) → slice_get (slice_set xs c m) j ≡ Some y → ((j ≡ c) × (y ≡ m)) ⊎ (slice_get xs j ≡ Some y)
set_cases [] c j m y e = inr e
set_cases (z ∷ zs) zero zero m y e = inl (refl, let same : y ≡ m = cc in same)
set_cases (z ∷ zs) zero (suc j) m y e = inr e
set_cases (z ∷ zs) (suc c) zero m y e = inr e
set_cases (z ∷ zs) (suc c) (suc j) m y e = by_rest (set_cases zs c j m y e)
  where
    by_rest : ((j ≡ c) × (y ≡ m)) ⊎ (slice_get zs j ≡ Some y) → ((suc j ≡ suc c) × (y ≡ m)) ⊎ (slice_get zs j ≡ Some y)
    by_rest (inl h) = inl (ap suc h.0, h.1)
    by_rest (inr h) = inr h

-- what was marked is, and the new one
pub marked_set : (xs : List Object) (c : ℕ) (x : Object) (p : ObjNo) → slice_get xs c ≡ Some x → is_marked xs p ≡ true → is_marked (slice_set xs c (condemned_one x)) p ≡ true
marked_set [] c x p e m = m
marked_set (y ∷ ys) zero x p e m =
    let first : y ≡ x = cc in
    by_number (nat_eq y.number.0 p.0) (ap (λ (o : Object). nat_eq o.number.0 p.0) (sym first)) m
  where
    by_number : (b : Bool) → nat_eq x.number.0 p.0 ≡ b → (if b then y.condemned else is_marked ys p) ≡ true → (if nat_eq x.number.0 p.0 then true else is_marked ys p) ≡ true
    by_number true e m = rw e refl
    by_number false e m = rw e m
marked_set (y ∷ ys) (suc c) x p e m = by_number (nat_eq y.number.0 p.0) m (λ k. marked_set ys c x p e k)
  where
    by_number : (b : Bool) → (if b then y.condemned else is_marked ys p) ≡ true → (is_marked ys p ≡ true → is_marked (slice_set ys c (condemned_one x)) p ≡ true) → (if b then y.condemned else is_marked (slice_set ys c (condemned_one x)) p) ≡ true
    by_number true m go_on = m
    by_number false m go_on = go_on m

pub set_marked : (xs : List Object) (c : ℕ) (x : Object) (p : ObjNo) → slice_get xs c ≡ Some x → is_marked (slice_set xs c (condemned_one x)) p ≡ true → (is_marked xs p ≡ true) ⊎ (p ≡ x.number)
set_marked [] c x p e m = inl m
set_marked (y ∷ ys) zero x p e m =
    let first : y ≡ x = cc in
    by_number (nat_eq x.number.0 p.0) refl (ap (λ (o : Object). nat_eq o.number.0 p.0) first) m
  where
    by_number : (b : Bool) → nat_eq x.number.0 p.0 ≡ b → nat_eq y.number.0 p.0 ≡ nat_eq x.number.0 p.0 → (if b then true else is_marked ys p) ≡ true → (is_marked (y ∷ ys) p ≡ true) ⊎ (p ≡ x.number)
    by_number true e f m = inr (sym (number_is x.number p e))
    by_number false e f m = inl (rw (f, e) m)
set_marked (y ∷ ys) (suc c) x p e m = by_number (nat_eq y.number.0 p.0) refl m (λ k. set_marked ys c x p e k)
  where
    by_number : (b : Bool) → nat_eq y.number.0 p.0 ≡ b → (if b then y.condemned else is_marked (slice_set ys c (condemned_one x)) p) ≡ true → (is_marked (slice_set ys c (condemned_one x)) p ≡ true → (is_marked ys p ≡ true) ⊎ (p ≡ x.number)) → (is_marked (y ∷ ys) p ≡ true) ⊎ (p ≡ x.number)
    by_number true e m go_on = inl (rw e m)
    by_number false e m go_on = by_rest (go_on m)
      where
        by_rest : (is_marked ys p ≡ true) ⊎ (p ≡ x.number) → (is_marked (y ∷ ys) p ≡ true) ⊎ (p ≡ x.number)
        by_rest (inl h) = inl (rw e h)
        by_rest (inr h) = inr h

unmarked_set : (xs : List Object) (c : ℕ) (x : Object) → slice_get xs c ≡ Some x → x.condemned ≡ false → unmarked xs ≡ suc (unmarked (slice_set xs c (condemned_one x)))
unmarked_set [] c x e m = let no : None ≡ Some x = e in cc
unmarked_set (y ∷ ys) zero x e m =
    let first : y ≡ x = cc in
    rw (first, m) refl
unmarked_set (y ∷ ys) (suc c) x e m = by_mark y.condemned (unmarked_set ys c x e m)
  where
    by_mark : (b : Bool) → unmarked ys ≡ suc (unmarked (slice_set ys c (condemned_one x))) → (if b then unmarked ys else suc (unmarked ys)) ≡ suc (if b then unmarked (slice_set ys c (condemned_one x)) else suc (unmarked (slice_set ys c (condemned_one x))))
    by_mark true rest = rest
    by_mark false rest = ap suc rest

pub some_unmarked : (xs : List Object) (c : ℕ) (x : Object) → slice_get xs c ≡ Some x → x.condemned ≡ false → 1 ≤ unmarked xs
some_unmarked xs c x e m = let is = unmarked_set xs c x e m in omega arith

pub all_counted : (xs : List Object) → unmarked xs + length (doomed_of xs) ≡ length xs
all_counted [] = refl
all_counted (x ∷ xs) = by_mark x.condemned (all_counted xs)
  where
    by_mark : (b : Bool) → unmarked xs + length (doomed_of xs) ≡ length xs → (if b then unmarked xs else suc (unmarked xs)) + length (if b then x.number ∷ doomed_of xs else doomed_of xs) ≡ suc (length xs)
    by_mark true rest = omega arith
    by_mark false rest = omega arith

-- ---- what all the marks leave
module _ (o : ObjNo) (objects : List Object) (doomed : List ObjNo) where
  pub spread_mark : (ys : List Object) (es : List ObjNo) → Spreads o objects doomed ys es → (p : ObjNo) → is_marked objects p ≡ true → is_marked ys p ≡ true
  spread_mark ys es (no_more e f) p m = rw e m
  spread_mark ys es (one_more {xs = xs} {ds = ds} c x before at free next e f) p m = rw e (marked_set xs c x p at (spread_mark xs ds before p m))

  pub spread_placed : (places : List ℕ) (ys : List Object) (es : List ObjNo) → Spreads o objects doomed ys es → IsAt places objects → IsAt places ys
  spread_placed places ys es (no_more e f) all = rw e all
  spread_placed places ys es (one_more {xs = xs} {ds = ds} c x before at free next e f) all = rw e (at_set places xs c x true at (spread_placed places xs ds before all))

  pub spread_ordered : (n : ℕ) (ys : List Object) (es : List ObjNo) → Spreads o objects doomed ys es → IsOrdered n objects → IsOrdered n ys
  spread_ordered n ys es (no_more e f) all = rw e all
  spread_ordered n ys es (one_more {xs = xs} {ds = ds} c x before at free next e f) all = rw e (ordered_set n xs c x true at (spread_ordered n xs ds before all))

  pub spread_up_to : (n : ℕ) (ys : List Object) (es : List ObjNo) → Spreads o objects doomed ys es → AllUpTo n objects → AllUpTo n ys
  spread_up_to n ys es (no_more e f) all = rw e all
  spread_up_to n ys es (one_more {xs = xs} {ds = ds} c x before at free next e f) all = rw e (up_to_set n xs c x true at (spread_up_to n xs ds before all))

  pub spread_room : (ys : List Object) (es : List ObjNo) → Spreads o objects doomed ys es → unmarked ys + length es ≡ unmarked objects + length doomed
  spread_room ys es (no_more e f) = rw (e, f) refl
  spread_room ys es (one_more {xs = xs} {ds = ds} c x before at free next e f) =
      let was = spread_room xs ds before in
      let less = unmarked_set xs c x at free in
      let longer : length (ds ++ x.number ∷ []) ≡ length ds + 1 = length_end ds x.number in
      rw (e, f) (omega arith)
    where
      length_end : (ns : List ObjNo) (n : ObjNo) → length (ns ++ n ∷ []) ≡ length ns + 1
      length_end [] n = refl
      length_end (k ∷ ks) n = let rest = length_end ks n in omega arith

  -- an object as it was before
  pub record Was (ys : List Object) (j : ℕ) (y : Object) : Type 0 where
    pub x : Object
    pub there : slice_get objects j ≡ Some x
    pub number : x.number ≡ y.number
    pub owner : x.owner ≡ y.owner
    pub origin : x.origin ≡ y.origin
    pub kept : x.condemned ≡ true → y.condemned ≡ true
    pub cause : y.condemned ≡ true → (x.condemned ≡ true) ⊎ IsNext o ys y

or_split : (a b : Bool) → (a || b) ≡ true → (a ≡ true) ⊎ (b ≡ true)
or_split true b e = inl refl
or_split false b e = inr e

pub or_left : (a b : Bool) → a ≡ true → (a || b) ≡ true
or_left a b e = rw e refl

pub or_right : (a b : Bool) → b ≡ true → (a || b) ≡ true
or_right true b e = refl
or_right false b e = e

by_set : (xs : List Object) (c : ℕ) (x : Object) (q : Option ObjNo) → slice_get xs c ≡ Some x → marked_by xs q ≡ true → marked_by (slice_set xs c (condemned_one x)) q ≡ true
by_set xs c x None e m = m
by_set xs c x (Some p) e m = marked_set xs c x p e m

next_set : (o : ObjNo) (xs : List Object) (c : ℕ) (x y : Object) → slice_get xs c ≡ Some x → IsNext o xs y → IsNext o (slice_set xs c (condemned_one x)) y
next_set o xs c x y e (inl is) = inl is
next_set o xs c x y e (inr m) = by_either (or_split (marked_by xs y.owner) (marked_by xs y.origin) m)
  where
    by_either : (marked_by xs y.owner ≡ true) ⊎ (marked_by xs y.origin ≡ true) → IsNext o (slice_set xs c (condemned_one x)) y
    by_either (inl h) = inr (or_left (marked_by (slice_set xs c (condemned_one x)) y.owner) (marked_by (slice_set xs c (condemned_one x)) y.origin) (by_set xs c x y.owner e h))
    by_either (inr h) = inr (or_right (marked_by (slice_set xs c (condemned_one x)) y.owner) (marked_by (slice_set xs c (condemned_one x)) y.origin) (by_set xs c x y.origin e h))

module _ (o : ObjNo) (objects : List Object) (doomed : List ObjNo) where
  pub spread_was : (ys : List Object) (es : List ObjNo) → Spreads o objects doomed ys es → (j : ℕ) (y : Object) → slice_get ys j ≡ Some y → Was o objects doomed ys j y
  spread_was ys es (no_more e f) j y at = record { x = y; there = ap (λ (zs : List Object). slice_get zs j) (sym e) ∙ at; number = refl; owner = refl; origin = refl; kept = λ m. m; cause = λ m. inl m }
  spread_was ys es (one_more {xs = xs} {ds = ds} c x before there free next e f) j y at =
      by_place (spread_was xs ds before c x there) (spread_was xs ds before j y) (set_cases xs c j (condemned_one x) y (ap (λ (zs : List Object). slice_get zs j) (sym e) ∙ at))
    where
      by_cause : {b : Bool} → (b ≡ true) ⊎ IsNext o xs y → (b ≡ true) ⊎ IsNext o ys y
      by_cause (inl m) = inl m
      by_cause (inr n) = inr (rw e (next_set o xs c x y there n))

      by_place : Was o objects doomed xs c x → (slice_get xs j ≡ Some y → Was o objects doomed xs j y) → ((j ≡ c) × (y ≡ condemned_one x)) ⊎ (slice_get xs j ≡ Some y) → Was o objects doomed ys j y
      by_place was others (inl h) = record {
        x = was.x;
        there = ap (slice_get objects) h.0 ∙ was.there;
        number = was.number ∙ ap (λ (z : Object). z.number) (sym h.1);
        owner = was.owner ∙ ap (λ (z : Object). z.owner) (sym h.1);
        origin = was.origin ∙ ap (λ (z : Object). z.origin) (sym h.1);
        kept = λ m. ap (λ (z : Object). z.condemned) h.1;
        cause = λ m. inr (rw (e, h.1) (next_set o xs c x (condemned_one x) there next));
      }
      by_place first others (inr h) =
          let was = others h in
          record {
            x = was.x;
            there = was.there;
            number = was.number;
            owner = was.owner;
            origin = was.origin;
            kept = was.kept;
            cause = λ m. by_cause (was.cause m);
          }

  -- how many objects there are stays
  set_length : (xs : List Object) (c : ℕ) (m : Object) → length (slice_set xs c m) ≡ length xs
  set_length [] c m = refl
  set_length (x ∷ xs) zero m = refl
  set_length (x ∷ xs) (suc c) m = ap suc (set_length xs c m)

  pub spread_length : (ys : List Object) (es : List ObjNo) → Spreads o objects doomed ys es → length ys ≡ length objects
  spread_length ys es (no_more e f) = ap (λ (zs : List Object). length zs) e
  spread_length ys es (one_more {xs = xs} {ds = ds} c x before there free next e f) = ap (λ (zs : List Object). length zs) e ∙ set_length xs c (condemned_one x) ∙ spread_length xs ds before

  -- links tell of the objects still
  pub parent_same : (t : Tie) (x y : Object) → x.owner ≡ y.owner → x.origin ≡ y.origin → parent_by t x ≡ parent_by t y
  parent_same tie.Owned x y e f = e
  parent_same tie.Made x y e f = f

  pub spread_goes_on : (t : Tie) (n : ℕ) (before : List ℕ) (ys : List Object) (es : List ObjNo) → Spreads o objects doomed ys es → GoOn t n objects before → GoOn t n ys before
  spread_goes_on t n before ys es spreads all i j k x y z hi hj atx aty atz e f =
      let a = spread_was ys es spreads i x atx in
      let b = spread_was ys es spreads j y aty in
      let c = spread_was ys es spreads k z atz in
      all i j k a.x b.x c.x hi hj a.there b.there c.there
      (parent_same t a.x x a.owner a.origin ∙ e ∙ ap Some (sym c.number))
      (parent_same t b.x y b.owner b.origin ∙ f ∙ ap Some (sym c.number))

  pub spread_ends : (t : Tie) (n : ℕ) (last : List ℕ) (ys : List Object) (es : List ObjNo) → Spreads o objects doomed ys es → EndBefore t n objects last → EndBefore t n ys last
  spread_ends t n last ys es spreads all i j x y hi hj atx aty e =
      let a = spread_was ys es spreads i x atx in
      let b = spread_was ys es spreads j y aty in
      all i j a.x b.x hi hj a.there b.there (parent_same t b.x y b.owner b.origin ∙ e ∙ ap Some (sym a.number))

  pub spread_linked : (t : Tie) (last before : List ℕ) (ys : List Object) (es : List ObjNo) → Spreads o objects doomed ys es → IsLinked t (length objects) objects last before → IsLinked t (length ys) ys last before
  spread_linked t last before ys es spreads linked =
      let same = spread_length ys es spreads in
      record {
        ends = spread_ends t (length ys) last ys es spreads (rw same linked.ends);
        goes_on = spread_goes_on t (length ys) before ys es spreads (rw same linked.goes_on);
      }

  pub spread_tied : (t : Tie) (last before : List ℕ) (ys : List Object) (es : List ObjNo) → Spreads o objects doomed ys es → IsTied t objects last before → IsTied t ys last before
  spread_tied t last before ys es spreads tied = record {
    lasts = tied.lasts ∙ sym (spread_length ys es spreads);
    befores = tied.befores ∙ sym (spread_length ys es spreads);
    linked = spread_linked t last before ys es spreads tied.linked;
  }

  -- what hangs on p and was marked is
  pub spread_still : (t : Tie) (p : ObjNo) (ys : List Object) (es : List ObjNo) → Spreads o objects doomed ys es → (j : ℕ) (y : Object) → slice_get ys j ≡ Some y → parent_by t y ≡ Some p → ((x : Object) → slice_get objects j ≡ Some x → parent_by t x ≡ Some p → x.condemned ≡ true) → y.condemned ≡ true
  spread_still t p ys es spreads j y at hangs all =
      let was = spread_was ys es spreads j y at in
      was.kept (all was.x was.there (parent_same t was.x y was.owner was.origin ∙ hangs))

  -- whatever was covered is
  pub spread_covers : (ys : List Object) (es : List ObjNo) (p : ObjNo) → Spreads o objects doomed ys es → Covers objects p → Covers ys p
  spread_covers ys es p spreads all j y at hangs =
      let was = spread_was ys es spreads j y at in
      was.kept (all j was.x was.there (by_tie was.x was.owner was.origin hangs))
    where
      by_tie : (x : Object) → x.owner ≡ y.owner → x.origin ≡ y.origin → (y.owner ≡ Some p) ⊎ (y.origin ≡ Some p) → (x.owner ≡ Some p) ⊎ (x.origin ≡ Some p)
      by_tie x e f (inl h) = inl (e ∙ h)
      by_tie x e f (inr h) = inr (f ∙ h)

  -- the list is longer, and begins as it did
  pub get_left : (ns ms : List ObjNo) (k : ℕ) (p : ObjNo) → slice_get ns k ≡ Some p → slice_get (ns ++ ms) k ≡ Some p
  get_left [] ms k p e = let no : None ≡ Some p = e in cc
  get_left (n ∷ ns) ms zero p e = e
  get_left (n ∷ ns) ms (suc k) p e = get_left ns ms k p e

  pub get_end : (ns : List ObjNo) (n : ObjNo) → slice_get (ns ++ n ∷ []) (length ns) ≡ Some n
  get_end [] n = refl
  get_end (m ∷ ms) n = get_end ms n

  pub end_cases : (ns : List ObjNo) (n p : ObjNo) (k : ℕ) → slice_get (ns ++ n ∷ []) k ≡ Some p → (slice_get ns k ≡ Some p) ⊎ (p ≡ n)
  end_cases [] n p zero e = inr (let same : p ≡ n = cc in same)
  end_cases [] n p (suc k) e = let no : None ≡ Some p = e in cc
  end_cases (m ∷ ms) n p zero e = inl e
  end_cases (m ∷ ms) n p (suc k) e = end_cases ms n p k e

  pub spread_begins : (ys : List Object) (es : List ObjNo) → Spreads o objects doomed ys es → (k : ℕ) (p : ObjNo) → slice_get doomed k ≡ Some p → slice_get es k ≡ Some p
  spread_begins ys es (no_more e f) k p at = rw f at
  spread_begins ys es (one_more {xs = xs} {ds = ds} c x before there free next e f) k p at = rw f (get_left ds (x.number ∷ []) k p (spread_begins xs ds before k p at))

  pub spread_listed : (ys : List Object) (es : List ObjNo) → Spreads o objects doomed ys es → AllListed objects doomed → AllListed ys es
  spread_listed ys es (no_more e f) all p m =
      let was = all p (ap (λ (zs : List Object). is_marked zs p) (sym e) ∙ m) in
      record { place = was.place; there = rw f was.there }
  spread_listed ys es (one_more {xs = xs} {ds = ds} c x before there free next e f) all p m =
      by_mark (spread_listed xs ds before all p) (set_marked xs c x p there (ap (λ (zs : List Object). is_marked zs p) (sym e) ∙ m))
    where
      by_mark : (is_marked xs p ≡ true → IsListed ds p) → (is_marked xs p ≡ true) ⊎ (p ≡ x.number) → IsListed es p
      by_mark earlier (inl h) =
          let was = earlier h in
          record { place = was.place; there = rw f (get_left ds (x.number ∷ []) was.place p was.there) }
      by_mark earlier (inr h) = record { place = length ds; there = rw (f, h) (get_end ds x.number) }

  -- an object is found by its number
  pub mark_of : (n : ℕ) (xs : List Object) (c : ℕ) (x : Object) → IsOrdered n xs → slice_get xs c ≡ Some x → is_marked xs x.number ≡ x.condemned
  mark_of n [] c x ordered e = let no : None ≡ Some x = e in cc
  mark_of n (y ∷ ys) zero x ordered e = let first : y ≡ x = cc in rw (first, nat_eq_same x.number.0) refl
  mark_of n (y ∷ ys) (suc c) x ordered e = by_number (nat_eq y.number.0 x.number.0) refl (mark_of y.number.0 ys c x ordered.3 e)
    where
      higher : (m : ℕ) (zs : List Object) (k : ℕ) → IsOrdered m zs → slice_get zs k ≡ Some x → m < x.number.0
      higher m [] k all at = let no : None ≡ Some x = at in cc
      higher m (z ∷ zs) zero all at = let first : z ≡ x = cc in rw (← first) all.0
      higher m (z ∷ zs) (suc k) all at = let low = all.0 in let more = higher z.number.0 zs k all.3 at in omega arith

      by_number : (b : Bool) → nat_eq y.number.0 x.number.0 ≡ b → is_marked ys x.number ≡ x.condemned → (if b then y.condemned else is_marked ys x.number) ≡ x.condemned
      by_number true same rest =
          let up = higher y.number.0 ys c ordered.3 e in
          let number : y.number.0 ≡ x.number.0 = ap (λ (m : ObjNo). m.0) (number_is y.number x.number same) in
          absurd (omega arith)
      by_number false same rest = rest

  pub spread_marked : (ys : List Object) (es : List ObjNo) → Spreads o objects doomed ys es → IsOrdered 0 objects → AllMarked doomed objects → AllMarked es ys
  spread_marked ys es (no_more e f) ordered all k p at = rw e (all k p (ap (λ (ns : List ObjNo). slice_get ns k) (sym f) ∙ at))
  spread_marked ys es (one_more {xs = xs} {ds = ds} c x before there free next e f) ordered all k p at =
      by_place (spread_marked xs ds before ordered all k p) (spread_ordered o objects doomed 0 xs ds before ordered) (end_cases ds x.number p k (ap (λ (ns : List ObjNo). slice_get ns k) (sym f) ∙ at))
    where
      by_place : (slice_get ds k ≡ Some p → is_marked xs p ≡ true) → IsOrdered 0 xs → (slice_get ds k ≡ Some p) ⊎ (p ≡ x.number) → is_marked ys p ≡ true
      by_place earlier was (inl h) = rw e (marked_set xs c x p there (earlier h))
      by_place earlier was (inr h) =
          let now = ordered_set 0 xs c x true there was in
          rw (e, h) (mark_of 0 (slice_set xs c (condemned_one x)) c (condemned_one x) now (set_there xs c x (condemned_one x) there))

-- marks upon marks
pub spread_on : (o : ObjNo) (xs : List Object) (ds : List ObjNo) (ys : List Object) (es : List ObjNo) (zs : List Object) (fs : List ObjNo) → Spreads o xs ds ys es → Spreads o ys es zs fs → Spreads o xs ds zs fs
spread_on o xs ds ys es zs fs first (no_more e f) = rw (e, f) first
spread_on o xs ds ys es zs fs first (one_more {xs = us} {ds = gs} c x before there free next e f) = one_more c x (spread_on o xs ds ys es us gs first before) there free next e f

-- ---- the end
bool_same : (a b : Bool) → (a ≡ true → b ≡ true) → (b ≡ true → a ≡ true) → a ≡ b
bool_same true b f g = sym (f refl)
bool_same false true f g = g refl
bool_same false false f g = refl

object_same : (x y : Object) → x.number ≡ y.number → x.owner ≡ y.owner → x.origin ≡ y.origin → x.condemned ≡ y.condemned → x ≡ y
object_same x y n w g c = both x.number y.number x.owner y.owner x.origin y.origin x.condemned y.condemned n w g c
  where
    both : (n m : ObjNo) (w v : Option ObjNo) (g h : Option ObjNo) (c d : Bool) → n ≡ m → w ≡ v → g ≡ h → c ≡ d → Path Object (record { number = n; owner = w; origin = g; condemned = c }) (record { number = m; owner = v; origin = h; condemned = d })
    both n m w v g h c d e f k l = rw (e, f, k, l) refl

module _ (o : ObjNo) (objects : List Object) (doomed : List ObjNo) (ys : List Object) (es : List ObjNo) (ordered : IsOrdered 0 objects) (spreads : Spreads o objects doomed ys es) (whole : IsWhole ys) (begun : (j : ℕ) (y : Object) → slice_get ys j ≡ Some y → y.number ≡ o → y.condemned ≡ true) where
  now_ordered : IsOrdered 0 ys
  now_ordered = spread_ordered o objects doomed 0 ys es spreads ordered

  hangs : (j : ℕ) (y : Object) (p q : Option ObjNo) → slice_get ys j ≡ Some y → y.owner ≡ p → y.origin ≡ q → (marked_by ys p || marked_by ys q) ≡ true → y.condemned ≡ true
  hangs j y p q at e f m = by_either (or_split (marked_by ys p) (marked_by ys q) m)
    where
      by_owner : (r : Option ObjNo) → y.owner ≡ r → marked_by ys r ≡ true → y.condemned ≡ true
      by_owner None g k = let no : false ≡ true = k in cc
      by_owner (Some n) g k = whole n k j y at (inl g)

      by_origin : (r : Option ObjNo) → y.origin ≡ r → marked_by ys r ≡ true → y.condemned ≡ true
      by_origin None g k = let no : false ≡ true = k in cc
      by_origin (Some n) g k = whole n k j y at (inr g)

      by_either : (marked_by ys p ≡ true) ⊎ (marked_by ys q ≡ true) → y.condemned ≡ true
      by_either (inl h) = by_owner p e h
      by_either (inr h) = by_origin q f h

  marked_here : (j : ℕ) (x y : Object) → slice_get objects j ≡ Some x → slice_get ys j ≡ Some y → mark o (take j ys) x ≡ y
  marked_here j x y atx aty =
      let was = spread_was o objects doomed ys es spreads j y aty in
      let same : was.x ≡ x = same_place objects j was.x x was.there atx in
      let number : x.number ≡ y.number = ap (λ (z : Object). z.number) (sym same) ∙ was.number in
      let owner : x.owner ≡ y.owner = ap (λ (z : Object). z.owner) (sym same) ∙ was.owner in
      let origin : x.origin ≡ y.origin = ap (λ (z : Object). z.origin) (sym same) ∙ was.origin in
      let below = ordered_at 0 ys j y now_ordered aty in
      let flag : marked o (take j ys) x ≡ (x.condemned || (nat_eq y.number.0 o.0 || (marked_by ys y.owner || marked_by ys y.origin))) =
      rw (number, owner, origin, ← by_before ys j y y.owner now_ordered aty below.0, ← by_before ys j y y.origin now_ordered aty below.1) refl in
      object_same (mark o (take j ys) x) y number owner origin (flag ∙ bool_same _ y.condemned
      (λ m. only (or_split x.condemned (nat_eq y.number.0 o.0 || (marked_by ys y.owner || marked_by ys y.origin)) m) (λ k. was.kept (ap (λ (z : Object). z.condemned) same ∙ k)))
      (λ m. every x.condemned (by_cause (was.cause m) (ap (λ (z : Object). z.condemned) same))))
    where
      only : {b : Bool} → (b ≡ true) ⊎ ((nat_eq y.number.0 o.0 || (marked_by ys y.owner || marked_by ys y.origin)) ≡ true) → (b ≡ true → y.condemned ≡ true) → y.condemned ≡ true
      only (inl h) kept = kept h
      only (inr h) kept = by_rest (or_split (nat_eq y.number.0 o.0) (marked_by ys y.owner || marked_by ys y.origin) h)
        where
          by_rest : (nat_eq y.number.0 o.0 ≡ true) ⊎ ((marked_by ys y.owner || marked_by ys y.origin) ≡ true) → y.condemned ≡ true
          by_rest (inl g) = begun j y aty (number_is y.number o g)
          by_rest (inr g) = hangs j y y.owner y.origin aty refl refl g

      by_cause : {a b : Bool} → (a ≡ true) ⊎ IsNext o ys y → a ≡ b → (b ≡ true) ⊎ IsNext o ys y
      by_cause (inl h) e = inl (sym e ∙ h)
      by_cause (inr h) e = inr h

      every : (b : Bool) → (b ≡ true) ⊎ IsNext o ys y → (b || (nat_eq y.number.0 o.0 || (marked_by ys y.owner || marked_by ys y.origin))) ≡ true
      every b (inl h) = or_left b (nat_eq y.number.0 o.0 || (marked_by ys y.owner || marked_by ys y.origin)) h
      every b (inr (inl h)) =
          let same : nat_eq y.number.0 o.0 ≡ true = ap (λ (n : ObjNo). nat_eq y.number.0 n.0) (sym h) ∙ nat_eq_same y.number.0 in
          or_right b (nat_eq y.number.0 o.0 || (marked_by ys y.owner || marked_by ys y.origin)) (or_left (nat_eq y.number.0 o.0) (marked_by ys y.owner || marked_by ys y.origin) same)
      every b (inr (inr h)) = or_right b (nat_eq y.number.0 o.0 || (marked_by ys y.owner || marked_by ys y.origin)) (or_right (nat_eq y.number.0 o.0) (marked_by ys y.owner || marked_by ys y.origin) h)

  take_one : (xs : List Object) (j : ℕ) (x : Object) → slice_get xs j ≡ Some x → take j xs ++ x ∷ [] ≡ take (suc j) xs
  take_one [] j x e = let no : None ≡ Some x = e in cc
  take_one (z ∷ zs) zero x e = let first : z ≡ x = cc in rw first refl
  take_one (z ∷ zs) (suc j) x e = ap (λ (l : List Object). z ∷ l) (take_one zs j x e)

  first_of : (xs : List Object) (j : ℕ) (x : Object) (rest : List Object) → drop j xs ≡ x ∷ rest → (slice_get xs j ≡ Some x) × (drop (suc j) xs ≡ rest)
  first_of [] zero x rest e = let no : [] ≡ x ∷ rest = e in cc
  first_of [] (suc j) x rest e = let no : [] ≡ x ∷ rest = e in cc
  first_of (z ∷ zs) zero x rest e = let first : z ≡ x = cc in let others : zs ≡ rest = cc in (ap Some first, others)
  first_of (z ∷ zs) (suc j) x rest e = first_of zs j x rest e

  past : (xs : List Object) (j : ℕ) → drop j xs ≡ [] → length xs ≤ j
  past [] j e = omega arith
  past (z ∷ zs) zero e = let no : z ∷ zs ≡ [] = e in cc
  past (z ∷ zs) (suc j) e = let less = past zs j e in omega arith

  walk : (rest : List Object) (j : ℕ) → drop j objects ≡ rest → marked_from o (take j ys) rest ≡ ys
  walk [] j e =
      let long = past objects j e in
      let same = spread_length o objects doomed ys es spreads in
      take_all ys j (omega arith)
  walk (x ∷ rest) j e =
      let first = first_of objects j x rest e in
      let inside = slice_get_within objects j x first.0 in
      let same = spread_length o objects doomed ys es spreads in
      let y = get_there ys j (omega arith) in
      let is = marked_here j x y.0 first.0 y.1 in
      rw is (ap (λ (l : List Object). marked_from o l rest) (take_one ys j y.0 y.1) ∙ walk rest (suc j) first.1)

  pub spread_is : ys ≡ marked_from o [] objects
  spread_is = sym (walk objects 0 refl)
