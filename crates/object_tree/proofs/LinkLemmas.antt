-- Linking one more object.
use Rattle.std.proofs.Common.{◌≡◌, ◌≢◌, ◌∙◌, ◌⊎◌, inl, inr, ap, sym, subst, ℕ, ◌+◌, ◌<◌, List, [], ◌∷◌, ◌++◌, length, slice_get, slice_set, slice_index, arith}
use Rattle.std.proofs.lemmas.Bool.{cases_order}
use Rattle.std.proofs.lemmas.List.{get_or-set_other, get_or-set_same, length-set}
use Rattle.std.specs.declared.option.Option.{Option}
use Rattle.std.specs.declared.option.Option.TheVariants.{None, Some}
use Rattle.qml_base.specs.declared.numbers.ObjNo.{ObjNo}
use Rattle.tree_model.specs.declared.cells.Object.{Object}
use Rattle.tree_model.specs.Doomed.{IsOrdered, IsBelow}
use Rattle.object_tree.specs.declared.links.Tie.{Tie}
use Rattle.object_tree.specs.declared.links.Tie.TheVariants as tie
use Rattle.object_tree.specs.Links.{parent_by, EndBefore, GoOn, IsLinked, IsTied}
use Rattle.object_tree.proofs.AddLemmas.{get_push}
use Rattle.object_tree.proofs.KeepLemmas.{above}
use Rattle.object_tree.proofs.MarkLemmas.{ordered_at}

pub same_place : (xs : List Object) (i : ℕ) (x y : Object) → slice_get xs i ≡ Some x → slice_get xs i ≡ Some y → x ≡ y
same_place xs i x y e f = let both : Some x ≡ Some y = sym e ∙ f in cc

pub before_by_number : (xs : List Object) (k i : ℕ) (z x : Object) → IsOrdered 0 xs → slice_get xs k ≡ Some z → slice_get xs i ≡ Some x → z.number.0 < x.number.0 → k < i
before_by_number xs k i z x ordered at there low = by_order (cases_order k i)
  where
    by_order : (k ≡ i) ⊎ ((k < i) ⊎ (i < k)) → k < i
    by_order (inl same) =
        let one : z ≡ x = same_place xs k z x at (ap (slice_get xs) same ∙ there) in
        let number : z.number.0 ≡ x.number.0 = ap (λ (o : Object). o.number.0) one in
        absurd (omega arith)
    by_order (inr (inl less)) = less
    by_order (inr (inr more)) = let up = (above 0 xs i k x z ordered more there at).1 in absurd (omega arith)

below_of : (q : Option ObjNo) (p : ObjNo) (n : ℕ) → IsBelow q n → q ≡ Some p → p.0 < n
below_of None p n b e = let no : None ≡ Some p = e in cc
below_of (Some r) p n b e = let same : r ≡ p = cc in rw (← same) b

pub parent_below : (t : Tie) (xs : List Object) (i : ℕ) (x : Object) (p : ObjNo) → IsOrdered 0 xs → slice_get xs i ≡ Some x → parent_by t x ≡ Some p → p.0 < x.number.0
parent_below tie.Owned xs i x p ordered there e = below_of x.owner p x.number.0 (ordered_at 0 xs i x ordered there).0 e
parent_below tie.Made xs i x p ordered there e = below_of x.origin p x.number.0 (ordered_at 0 xs i x ordered there).1 e

-- an object stands before what hangs on it
pub parent_before : (t : Tie) (xs : List Object) (k i : ℕ) (z x : Object) → IsOrdered 0 xs → slice_get xs k ≡ Some z → slice_get xs i ≡ Some x → parent_by t x ≡ Some z.number → k < i
parent_before t xs k i z x ordered at there e = before_by_number xs k i z x ordered at there (parent_below t xs i x z.number ordered there e)

last_or_before : (j i : ℕ) → j < i + 1 → (j ≡ i) ⊎ (j < i)
last_or_before j i h = by_order (cases_order j i)
  where
    by_order : (j ≡ i) ⊎ ((j < i) ⊎ (i < j)) → (j ≡ i) ⊎ (j < i)
    by_order (inl same) = inl same
    by_order (inr (inl less)) = inr less
    by_order (inr (inr more)) = absurd (omega arith)

module _ (t : Tie) (xs : List Object) (i : ℕ) (x : Object) (last before : List ℕ) (ordered : IsOrdered 0 xs) (there : slice_get xs i ≡ Some x) (long : i < length last) (also : i < length before) (linked : IsLinked t i xs last before) where
  abbrev cleared : List ℕ
  cleared = slice_set last i 0

  abbrev cut : List ℕ
  cut = slice_set before i 0

  -- what stands before the new one
  ends_earlier : (k j : ℕ) (z y : Object) → k < i + 1 → j < i → slice_get xs k ≡ Some z → slice_get xs j ≡ Some y → parent_by t y ≡ Some z.number → j < slice_index cleared k
  ends_earlier k j z y hk hj at aty e =
      let low = parent_before t xs k j z y ordered at aty e in
      subst (λ (n : ℕ). j < n) (sym (get_or-set_other last i k 0 0 (λ same. absurd (omega arith)))) (linked.ends k j z y (omega arith) hj at aty e)

  goes_earlier : (c j k : ℕ) (w y z : Object) → c < i → j < c → slice_get xs c ≡ Some w → slice_get xs j ≡ Some y → slice_get xs k ≡ Some z → parent_by t w ≡ Some z.number → parent_by t y ≡ Some z.number → j < slice_index cut c
  goes_earlier c j k w y z hc hj atw aty at e f =
      subst (λ (n : ℕ). j < n) (sym (get_or-set_other before i c 0 0 (λ same. absurd (omega arith)))) (linked.goes_on c j k w y z hc hj atw aty at e f)

  pub linked_alone : ((k : ℕ) (z : Object) → slice_get xs k ≡ Some z → parent_by t x ≡ Some z.number → ⊥) → IsLinked t (i + 1) xs cleared cut
  linked_alone none = record { ends = ends; goes_on = goes_on }
    where
      ends : EndBefore t (i + 1) xs cleared
      ends k j z y hk hj at aty e = by_place (last_or_before j i hj)
        where
          by_place : (j ≡ i) ⊎ (j < i) → j < slice_index cleared k
          by_place (inl same) =
              let one : y ≡ x = same_place xs i y x (ap (slice_get xs) (sym same) ∙ aty) there in
              absurd (none k z at (ap (parent_by t) (sym one) ∙ e))
          by_place (inr less) = ends_earlier k j z y hk less at aty e

      goes_on : GoOn t (i + 1) xs cut
      goes_on c j k w y z hc hj atw aty at e f = by_place (last_or_before c i hc)
        where
          by_place : (c ≡ i) ⊎ (c < i) → j < slice_index cut c
          by_place (inl same) =
              let one : w ≡ x = same_place xs i w x (ap (slice_get xs) (sym same) ∙ atw) there in
              absurd (none k z at (ap (parent_by t) (sym one) ∙ e))
          by_place (inr less) = goes_earlier c j k w y z less hj atw aty at e f

  pub linked_more : (at : ℕ) → at < length last → ((k : ℕ) (z : Object) → slice_get xs k ≡ Some z → parent_by t x ≡ Some z.number → at ≡ k) → IsLinked t (i + 1) xs (slice_set cleared at (i + 1)) (slice_set cut i (slice_index cleared at))
  linked_more p inside is = record { ends = ends; goes_on = goes_on }
    where
      ends : EndBefore t (i + 1) xs (slice_set cleared p (i + 1))
      ends k j z y hk hj at aty e = by_parent (cases_order k p)
        where
          other : k ≢ p → j < slice_index (slice_set cleared p (i + 1)) k
          other differ = by_place (last_or_before j i hj)
            where
              by_place : (j ≡ i) ⊎ (j < i) → j < slice_index (slice_set cleared p (i + 1)) k
              by_place (inl same) =
                  let one : y ≡ x = same_place xs i y x (ap (slice_get xs) (sym same) ∙ aty) there in
                  absurd (differ (sym (is k z at (ap (parent_by t) (sym one) ∙ e))))
              by_place (inr less) = subst (λ (n : ℕ). j < n) (sym (get_or-set_other cleared p k (i + 1) 0 differ)) (ends_earlier k j z y hk less at aty e)

          by_parent : (k ≡ p) ⊎ ((k < p) ⊎ (p < k)) → j < slice_index (slice_set cleared p (i + 1)) k
          by_parent (inl same) =
              let wide : p < length cleared = subst (λ (n : ℕ). p < n) (sym (length-set last i 0)) inside in
              let told : slice_index (slice_set cleared p (i + 1)) k ≡ i + 1 = ap (slice_index (slice_set cleared p (i + 1))) same ∙ get_or-set_same cleared p (i + 1) 0 wide in
              subst (λ (n : ℕ). j < n) (sym told) hj
          by_parent (inr (inl less)) = other (λ same. absurd (omega arith))
          by_parent (inr (inr more)) = other (λ same. absurd (omega arith))

      goes_on : GoOn t (i + 1) xs (slice_set cut i (slice_index cleared p))
      goes_on c j k w y z hc hj atw aty at e f = by_place (last_or_before c i hc)
        where
          by_place : (c ≡ i) ⊎ (c < i) → j < slice_index (slice_set cut i (slice_index cleared p)) c
          by_place (inl same) =
              let one : w ≡ x = same_place xs i w x (ap (slice_get xs) (sym same) ∙ atw) there in
              let parent : p ≡ k = is k z at (ap (parent_by t) (sym one) ∙ e) in
              let wide : i < length cut = subst (λ (n : ℕ). i < n) (sym (length-set before i 0)) also in
              let told : slice_index (slice_set cut i (slice_index cleared p)) c ≡ slice_index cleared k =
              ap (slice_index (slice_set cut i (slice_index cleared p))) same ∙ get_or-set_same cut i (slice_index cleared p) 0 wide ∙ ap (slice_index cleared) parent in
              let low = parent_before t xs k c z w ordered at atw e in
              subst (λ (n : ℕ). j < n) (sym told) (ends_earlier k j z y (omega arith) (omega arith) at aty f)
          by_place (inr less) =
              subst (λ (n : ℕ). j < n) (sym (get_or-set_other cut i c (slice_index cleared p) 0 (λ same. absurd (omega arith)))) (goes_earlier c j k w y z less hj atw aty at e f)

-- nothing is linked at first
pub linked_none : (t : Tie) (xs : List Object) (last before : List ℕ) → IsLinked t 0 xs last before
linked_none t xs last before = record { ends = λ i j x y h k e f g. absurd (omega arith); goes_on = λ i j k x y z h l e f g p q. absurd (omega arith) }

get_before : (xs : List Object) (x y : Object) (i : ℕ) → i < length xs → slice_get (xs ++ x ∷ []) i ≡ Some y → slice_get xs i ≡ Some y
get_before xs x y i h e = by_place (get_push xs x y i e)
  where
    by_place : (slice_get xs i ≡ Some y) ⊎ ((i ≡ length xs) × (y ≡ x)) → slice_get xs i ≡ Some y
    by_place (inl there) = there
    by_place (inr last) = let same = last.0 in absurd (omega arith)

-- an object that was added last leaves what is told of the others
pub linked_push : (t : Tie) (xs : List Object) (x : Object) (last before : List ℕ) → IsOrdered 0 (xs ++ x ∷ []) → IsTied t xs last before → IsLinked t (length xs) (xs ++ x ∷ []) last before
linked_push t xs x last before ordered tied = record { ends = ends; goes_on = goes_on }
  where
    ends : EndBefore t (length xs) (xs ++ x ∷ []) last
    ends i j a b hi hj ata atb e = tied.linked.ends i j a b hi hj (get_before xs x a i hi ata) (get_before xs x b j hj atb) e

    goes_on : GoOn t (length xs) (xs ++ x ∷ []) before
    goes_on i j k a b z hi hj ata atb at e f =
        let low = parent_before t (xs ++ x ∷ []) k i z a ordered at ata e in
        tied.linked.goes_on i j k a b z hi hj (get_before xs x a i hi ata) (get_before xs x b j (omega arith) atb) (get_before xs x z k (omega arith) at) e f
