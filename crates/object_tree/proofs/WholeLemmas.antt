-- That what hangs on a condemned object is condemned stays where objects are added and taken away.
use Rattle.std.proofs.Common.{◌≡◌, ◌∙◌, ◌⊎◌, inl, inr, ap, sym, refl, ℕ, zero, suc, nat_eq, Bool, true, false, List, [], ◌∷◌, ◌++◌, length, slice_get, if◌then◌else◌}
use Rattle.std.specs.declared.option.Option.{Option}
use Rattle.std.specs.declared.option.Option.TheVariants.{None, Some}
use Rattle.qml_base.specs.declared.numbers.ObjNo.{ObjNo}
use Rattle.tree_model.specs.declared.cells.Object.{Object}
use Rattle.tree_model.specs.Doomed.{is_marked}
use Rattle.tree_model.specs.Removing.{kept_of}
use Rattle.object_tree.specs.Trees.{objects_but, MayOwn}
use Rattle.object_tree.specs.Spreading.{IsWhole}
use Rattle.object_tree.proofs.AddLemmas.{get_push}
use Rattle.object_tree.proofs.FindLemmas.{number_is}

marked_push : (xs : List Object) (x : Object) (p : ObjNo) → x.condemned ≡ false → is_marked (xs ++ x ∷ []) p ≡ true → is_marked xs p ≡ true
marked_push [] x p free m = by_number (nat_eq x.number.0 p.0) m
  where
    by_number : (b : Bool) → (if b then x.condemned else false) ≡ true → false ≡ true
    by_number true e = sym free ∙ e
    by_number false e = e
marked_push (y ∷ ys) x p free m = by_number (nat_eq y.number.0 p.0) m (marked_push ys x p free)
  where
    by_number : (b : Bool) → (if b then y.condemned else is_marked (ys ++ x ∷ []) p) ≡ true → (is_marked (ys ++ x ∷ []) p ≡ true → is_marked ys p ≡ true) → (if b then y.condemned else is_marked ys p) ≡ true
    by_number true e go_on = e
    by_number false e go_on = go_on e

may_not : (xs : List Object) (q : Option ObjNo) (p : ObjNo) → MayOwn xs q → q ≡ Some p → is_marked xs p ≡ false
may_not xs None p may e = let no : None ≡ Some p = e in cc
may_not xs (Some r) p may e = let same : r ≡ p = cc in rw (← same) may.1

pub whole_push : (xs : List Object) (x : Object) → x.condemned ≡ false → MayOwn xs x.owner → MayOwn xs x.origin → IsWhole xs → IsWhole (xs ++ x ∷ [])
whole_push xs x free owner origin whole p m j y at hangs = by_place (marked_push xs x p free m) (get_push xs x y j at)
  where
    new : is_marked xs p ≡ true → y ≡ x → (y.owner ≡ Some p) ⊎ (y.origin ≡ Some p) → y.condemned ≡ true
    new marked e (inl f) =
        let none = may_not xs x.owner p owner (ap (λ (o : Object). o.owner) (sym e) ∙ f) in
        let no : false ≡ true = sym none ∙ marked in
        cc
    new marked e (inr f) =
        let none = may_not xs x.origin p origin (ap (λ (o : Object). o.origin) (sym e) ∙ f) in
        let no : false ≡ true = sym none ∙ marked in
        cc

    by_place : is_marked xs p ≡ true → (slice_get xs j ≡ Some y) ⊎ ((j ≡ length xs) × (y ≡ x)) → y.condemned ≡ true
    by_place marked (inl h) = whole p marked j y h hangs
    by_place marked (inr h) = new marked h.1 hangs

-- ---- one object taken out
not_left : (o : ObjNo) (xs : List Object) (p : ObjNo) → o ≡ p → is_marked (objects_but o xs) p ≡ false
not_left o [] p e = refl
not_left o (x ∷ xs) p e = by_number (nat_eq x.number.0 o.0) refl (not_left o xs p e)
  where
    by_number : (b : Bool) → nat_eq x.number.0 o.0 ≡ b → is_marked (objects_but o xs) p ≡ false → is_marked (if b then objects_but o xs else x ∷ objects_but o xs) p ≡ false
    by_number true f rest = rest
    by_number false f rest = rw (ap (λ (n : ObjNo). nat_eq x.number.0 n.0) (sym e) ∙ f) rest

marked_but : (o : ObjNo) (xs : List Object) (p : ObjNo) → is_marked (objects_but o xs) p ≡ true → is_marked xs p ≡ true
marked_but o [] p m = m
marked_but o (x ∷ xs) p m = by_number (nat_eq x.number.0 o.0) refl m (marked_but o xs p)
  where
    later : (b : Bool) → nat_eq x.number.0 p.0 ≡ b → x.number ≡ o → is_marked (objects_but o xs) p ≡ true → is_marked xs p ≡ true → (if b then x.condemned else is_marked xs p) ≡ true
    later true f e m rest =
        let none = not_left o xs p (sym e ∙ number_is x.number p f) in
        let no : false ≡ true = sym none ∙ m in
        cc
    later false f e m rest = rest

    here : (b : Bool) → (if b then x.condemned else is_marked (objects_but o xs) p) ≡ true → (is_marked (objects_but o xs) p ≡ true → is_marked xs p ≡ true) → (if b then x.condemned else is_marked xs p) ≡ true
    here true m go_on = m
    here false m go_on = go_on m

    by_number : (b : Bool) → nat_eq x.number.0 o.0 ≡ b → is_marked (if b then objects_but o xs else x ∷ objects_but o xs) p ≡ true → (is_marked (objects_but o xs) p ≡ true → is_marked xs p ≡ true) → is_marked (x ∷ xs) p ≡ true
    by_number true f m go_on = later (nat_eq x.number.0 p.0) refl (number_is x.number o f) m (go_on m)
    by_number false f m go_on = here (nat_eq x.number.0 p.0) m go_on

record IsThere (xs : List Object) (y : Object) : Type 0 where
  place : ℕ
  there : slice_get xs place ≡ Some y

there_later : (x : Object) (xs : List Object) (y : Object) → IsThere xs y → IsThere (x ∷ xs) y
there_later x xs y h = record { place = suc h.place; there = h.there }

get_but : (o : ObjNo) (xs : List Object) (i : ℕ) (y : Object) → slice_get (objects_but o xs) i ≡ Some y → IsThere xs y
get_but o [] i y e = record { place = i; there = e }
get_but o (x ∷ xs) i y e = by_number (nat_eq x.number.0 o.0) i e (λ j h. get_but o xs j y h)
  where
    by_number : (b : Bool) (i : ℕ) → slice_get (if b then objects_but o xs else x ∷ objects_but o xs) i ≡ Some y → ((j : ℕ) → slice_get (objects_but o xs) j ≡ Some y → IsThere xs y) → IsThere (x ∷ xs) y
    by_number true i e go_on = there_later x xs y (go_on i e)
    by_number false zero e go_on = record { place = 0; there = e }
    by_number false (suc i) e go_on = there_later x xs y (go_on i e)

pub whole_but : (o : ObjNo) (xs : List Object) → IsWhole xs → IsWhole (objects_but o xs)
whole_but o xs whole p m j y at hangs = let was = get_but o xs j y at in whole p (marked_but o xs p m) was.place y was.there hangs

-- ---- and all condemned ones
none_marked : (xs : List Object) (p : ObjNo) → is_marked (kept_of xs) p ≡ false
none_marked [] p = refl
none_marked (x ∷ xs) p = by_mark x.condemned refl (none_marked xs p)
  where
    here : (b : Bool) → x.condemned ≡ false → is_marked (kept_of xs) p ≡ false → (if b then x.condemned else is_marked (kept_of xs) p) ≡ false
    here true free rest = free
    here false free rest = rest

    by_mark : (b : Bool) → x.condemned ≡ b → is_marked (kept_of xs) p ≡ false → is_marked (if b then kept_of xs else x ∷ kept_of xs) p ≡ false
    by_mark true e rest = rest
    by_mark false e rest = here (nat_eq x.number.0 p.0) e rest

pub whole_kept : (xs : List Object) → IsWhole (kept_of xs)
whole_kept xs p m j y at hangs = let no : false ≡ true = sym (none_marked xs p) ∙ m in cc
