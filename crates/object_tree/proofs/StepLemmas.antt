-- What the links tell of the objects that hang on a marked one.
use Rattle.std.proofs.Common.{◌≡◌, ◌∙◌, ◌⊎◌, inl, inr, ap, sym, subst, refl, ℕ, zero, suc, ◌+◌, ◌-◌, ◌<◌, ◌≤◌, ◌||◌, true, List, [], ◌∷◌, length, slice_get, slice_set, slice_index, arith}
use Rattle.std.proofs.lemmas.Bool.{cases_order}
use Rattle.std.proofs.lemmas.Option.{slice_get_within}
use Rattle.std.specs.declared.option.Option.TheVariants.{Some}
use Rattle.qml_base.specs.declared.numbers.ObjNo.{ObjNo}
use Rattle.tree_model.specs.declared.cells.Object.{Object}
use Rattle.tree_model.specs.Doomed.{is_marked, marked_by}
use Rattle.object_tree.specs.declared.links.Tie.{Tie}
use Rattle.object_tree.specs.declared.links.Tie.TheVariants as tie
use Rattle.object_tree.specs.Trees.{IsAt}
use Rattle.object_tree.specs.Links.{parent_by, EndBefore, GoOn}
use Rattle.object_tree.specs.Spreading.{condemned_one, Covers, Spreads}
use Rattle.object_tree.proofs.LinkLemmas.{same_place}
use Rattle.object_tree.proofs.ListedLemmas.{marked_there}
use Rattle.object_tree.proofs.SpreadLemmas.{set_cases, set_there, spread_still, spread_begins, spread_covers, or_left, or_right}

pub next_by_tie : (t : Tie) (xs : List Object) (x : Object) (p : ObjNo) → parent_by t x ≡ Some p → is_marked xs p ≡ true → (marked_by xs x.owner || marked_by xs x.origin) ≡ true
next_by_tie tie.Owned xs x p e m = or_left (marked_by xs x.owner) (marked_by xs x.origin) (ap (marked_by xs) e ∙ m)
next_by_tie tie.Made xs x p e m = or_right (marked_by xs x.owner) (marked_by xs x.origin) (ap (marked_by xs) e ∙ m)

-- what hangs on p and stands before another that does
pub goes_before : (t : Tie) (xs : List Object) (before : List ℕ) (c j : ℕ) (x y : Object) (p : ObjNo) → GoOn t (length xs) xs before → is_marked xs p ≡ true → slice_get xs c ≡ Some x → slice_get xs j ≡ Some y → j < c → parent_by t x ≡ Some p → parent_by t y ≡ Some p → j < slice_index before c
goes_before t xs before c j x y p goes m atx aty less e f =
    let h = marked_there xs p m in
    goes c j h.place x y h.x (slice_get_within xs c x atx) less atx aty h.there (e ∙ ap Some (sym h.number)) (f ∙ ap Some (sym h.number))

-- the last of them
pub tied_first : (t : Tie) (places : List ℕ) (xs : List Object) (last : List ℕ) (p : ObjNo) → IsAt places xs → EndBefore t (length xs) xs last → is_marked xs p ≡ true → (j : ℕ) (y : Object) → slice_get xs j ≡ Some y → parent_by t y ≡ Some p → j < slice_index last (slice_index places (p.0 - 1))
tied_first t places xs last p placed ends m j y aty e =
    let h = marked_there xs p m in
    let place : h.place ≡ slice_index places (p.0 - 1) = sym (placed h.place h.x h.there) ∙ ap (λ (n : ObjNo). slice_index places (n.0 - 1)) h.number in
    subst (λ (n : ℕ). j < slice_index last n) place (ends h.place j h.x y (slice_get_within xs h.place h.x h.there) (slice_get_within xs j y aty) h.there aty (e ∙ ap Some (sym h.number)))

pub low_or_high : (j at : ℕ) → (j ≤ at) ⊎ (at < j)
low_or_high j at = by_order (cases_order j at)
  where
    by_order : (j ≡ at) ⊎ ((j < at) ⊎ (at < j)) → (j ≤ at) ⊎ (at < j)
    by_order (inl same) = inl (omega arith)
    by_order (inr (inl less)) = inl (omega arith)
    by_order (inr (inr more)) = inr more

-- one step: the object at the place is marked, and what stands before it and was told of is left
pub step_still : (t : Tie) (xs : List Object) (before : List ℕ) (c r j : ℕ) (x y : Object) (p : ObjNo) → GoOn t (length xs) xs before → is_marked xs p ≡ true → slice_get xs c ≡ Some x → parent_by t x ≡ Some p → x.condemned ≡ true → ((i : ℕ) → i < c → i < slice_index before c → i < r) → r ≤ j → j ≤ c → slice_get xs j ≡ Some y → parent_by t y ≡ Some p → y.condemned ≡ true
step_still t xs before c r j x y p goes m atx e marked past low high aty f = by_place (cases_order j c)
  where
    by_place : (j ≡ c) ⊎ ((j < c) ⊎ (c < j)) → y.condemned ≡ true
    by_place (inl same) = ap (λ (o : Object). o.condemned) (same_place xs c y x (ap (slice_get xs) (sym same) ∙ aty) atx) ∙ marked
    by_place (inr (inl less)) = let back = past j less (goes_before t xs before c j x y p goes m atx aty less e f) in absurd (omega arith)
    by_place (inr (inr more)) = absurd (omega arith)

pub step_marks : (t : Tie) (xs ys : List Object) (before : List ℕ) (c r j : ℕ) (x y : Object) (p : ObjNo) → GoOn t (length xs) xs before → is_marked xs p ≡ true → slice_get xs c ≡ Some x → parent_by t x ≡ Some p → ys ≡ slice_set xs c (condemned_one x) → ((i : ℕ) → i < c → i < slice_index before c → i < r) → r ≤ j → j ≤ c → slice_get ys j ≡ Some y → parent_by t y ≡ Some p → y.condemned ≡ true
step_marks t xs ys before c r j x y p goes m atx e is past low high aty f = by_change (set_cases xs c j (condemned_one x) y (ap (λ (zs : List Object). slice_get zs j) (sym is) ∙ aty))
  where
    by_place : slice_get xs j ≡ Some y → (j ≡ c) ⊎ ((j < c) ⊎ (c < j)) → y.condemned ≡ true
    by_place at (inl same) =
        let now : slice_get ys j ≡ Some (condemned_one x) = ap (slice_get ys) same ∙ ap (λ (zs : List Object). slice_get zs c) is ∙ set_there xs c x (condemned_one x) atx in
        ap (λ (o : Object). o.condemned) (same_place ys j y (condemned_one x) aty now)
    by_place at (inr (inl less)) = let back = past j less (goes_before t xs before c j x y p goes m atx at less e f) in absurd (omega arith)
    by_place at (inr (inr more)) = absurd (omega arith)

    by_change : ((j ≡ c) × (y ≡ condemned_one x)) ⊎ (slice_get xs j ≡ Some y) → y.condemned ≡ true
    by_change (inl h) = ap (λ (o : Object). o.condemned) h.1
    by_change (inr h) = by_place h (cases_order j c)

-- what hangs on p from the place on is marked still, and what stands from the next place up to there
pub rest_done : (o p : ObjNo) (t : Tie) (xs ys : List Object) (ds es : List ObjNo) (at next : ℕ) → Spreads o xs ds ys es → 0 < at → ((j : ℕ) (x : Object) → at ≤ j → slice_get xs j ≡ Some x → parent_by t x ≡ Some p → x.condemned ≡ true) → ((j : ℕ) (y : Object) → next ≤ j → j ≤ at - 1 → slice_get ys j ≡ Some y → parent_by t y ≡ Some p → y.condemned ≡ true) → (j : ℕ) (y : Object) → next ≤ j → slice_get ys j ≡ Some y → parent_by t y ≡ Some p → y.condemned ≡ true
rest_done o p t xs ys ds es at next spreads some before now j y low there e = by_place (low_or_high j (at - 1))
  where
    by_place : (j ≤ at - 1) ⊎ (at - 1 < j) → y.condemned ≡ true
    by_place (inl h) = now j y low h there e
    by_place (inr h) = spread_still o xs ds t p ys es spreads j y there e (λ x at_x f. before j x (omega arith) at_x f)

pub both_cover : (o p : ObjNo) (xs ys : List Object) (ds es : List ObjNo) → Spreads o xs ds ys es → ((j : ℕ) (x : Object) → slice_get xs j ≡ Some x → x.owner ≡ Some p → x.condemned ≡ true) → ((j : ℕ) (y : Object) → slice_get ys j ≡ Some y → y.origin ≡ Some p → y.condemned ≡ true) → Covers ys p
both_cover o p xs ys ds es spreads owned made j y at (inl e) = spread_still o xs ds tie.Owned p ys es spreads j y at e (λ x there f. owned j x there f)
both_cover o p xs ys ds es spreads owned made j y at (inr e) = made j y at e

-- ---- the listed objects, one after another
pub same_listed : (ns : List ObjNo) (i : ℕ) (p q : ObjNo) → slice_get ns i ≡ Some p → slice_get ns i ≡ Some q → p ≡ q
same_listed ns i p q e f = let both : Some p ≡ Some q = sym e ∙ f in cc

pub record IsNumber (ns : List ObjNo) (k : ℕ) : Type 0 where
  pub number : ObjNo
  pub there : slice_get ns k ≡ Some number

pub listed_there : (ns : List ObjNo) (k : ℕ) → k < length ns → IsNumber ns k
listed_there [] k h = absurd (omega arith)
listed_there (n ∷ ns) zero h = record { number = n; there = refl }
listed_there (n ∷ ns) (suc k) h = let rest = listed_there ns k (omega arith) in record { number = rest.number; there = rest.there }

pub more_covered : (o : ObjNo) (xs ys : List Object) (ds es : List ObjNo) (i : ℕ) (p : ObjNo) → i < length ds → Spreads o xs ds ys es → slice_get ds i ≡ Some p → ((k : ℕ) (q : ObjNo) → k < i → slice_get ds k ≡ Some q → Covers xs q) → Covers ys p → (k : ℕ) (q : ObjNo) → k < i + 1 → slice_get es k ≡ Some q → Covers ys q
more_covered o xs ys ds es i p inside spreads at before now k q low there = by_place (low_or_high i k)
  where
    by_place : (i ≤ k) ⊎ (k < i) → Covers ys q
    by_place (inl h) =
        let same : k ≡ i = omega arith in
        let is : p ≡ q = same_listed es i p q (spread_begins o xs ds ys es spreads i p at) (ap (slice_get es) (sym same) ∙ there) in
        subst (Covers ys) is now
    by_place (inr h) =
        let was = listed_there ds k (omega arith) in
        let is : was.number ≡ q = same_listed es k was.number q (spread_begins o xs ds ys es spreads k was.number was.there) there in
        spread_covers o xs ds ys es q spreads (before k q h (was.there ∙ ap Some is))
