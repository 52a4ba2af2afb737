-- Condemning an object that stands: it is marked first, and what hangs on marked ones then.
use Rattle.std.proofs.Common.{◌≡◌, ◌∙◌, inl, ap, sym, subst, refl, ℕ, zero, suc, ◌-◌, ◌<◌, ◌↔◌, true, false, List, [], ◌∷◌, ◌++◌, length, slice_get, slice_set, slice_index, arith}
use Rattle.std.specs.List.Sorted.{IsPermutation}
use Rattle.std.specs.declared.option.Option.TheVariants.{Some}
use Rattle.qml_base.specs.declared.numbers.ObjNo.{ObjNo}
use Rattle.tree_model.specs.declared.cells.Object.{Object}
use Rattle.tree_model.specs.Doomed.{Doomed, Stands, Begins, is_marked, marked_from, IsOrdered}
use Rattle.tree_model.specs.Removing.{doomed_of}
use Rattle.tree_model.specs.Settling.{stands}
use Rattle.object_tree.specs.Trees.{IsAt}
use Rattle.object_tree.specs.Spreading.{condemned_one, Spreads, no_more, one_more, Covers, IsWhole}
use Rattle.object_tree.proofs.ListedLemmas.{standing_there, stands_at, not_true, not_false, permuted_marked, spread_permutes}
use Rattle.object_tree.proofs.SpreadLemmas.{spread_is, spread_mark, spread_ordered, spread_on, spread_covers, mark_of, set_there}
use Rattle.tree_model.proofs.DoomLemmas.{marks_doomed}

-- an object that stands nowhere, or is condemned, changes nothing
pub none_standing : (o : ObjNo) (xs : List Object) → IsOrdered 0 xs → stands xs o ≡ false → IsWhole xs → xs ≡ marked_from o [] xs
none_standing o xs ordered gone whole = spread_is o xs (doomed_of xs) xs (doomed_of xs) ordered (no_more refl refl) whole (λ j y at e.
    not_false y.condemned (sym (stands_at 0 xs j y ordered at) ∙ ap (stands xs) e ∙ gone))

-- one that stands, and where
pub record Standing (places : List ℕ) (xs : List Object) (o : ObjNo) : Type 0 where
  pub x : Object
  pub there : slice_get xs (slice_index places (o.0 - 1)) ≡ Some x
  pub number : x.number ≡ o
  pub free : x.condemned ≡ false

pub standing : (places : List ℕ) (xs : List Object) (o : ObjNo) → IsAt places xs → IsOrdered 0 xs → stands xs o ≡ true → Standing places xs o
standing places xs o placed ordered stood =
    let h = standing_there xs o stood in
    let place : h.place ≡ slice_index places (o.0 - 1) = sym (placed h.place h.x h.there) ∙ ap (λ (n : ObjNo). slice_index places (n.0 - 1)) h.number in
    record {
      x = h.x;
      there = ap (slice_get xs) (sym place) ∙ h.there;
      number = h.number;
      free = not_true h.x.condemned (sym (stands_at 0 xs h.place h.x ordered h.there) ∙ ap (stands xs) h.number ∙ stood);
    }

module _ (o : ObjNo) (xs ys : List Object) (ds es : List ObjNo) (at : ℕ) (x : Object) (there : slice_get xs at ≡ Some x) (number : x.number ≡ o) (free : x.condemned ≡ false) (now : ys ≡ slice_set xs at (condemned_one x)) (then' : es ≡ ds ++ x.number ∷ []) where
  pub begins : Spreads o xs ds ys es
  begins = one_more at x (no_more refl refl) there free (inl number) now then'

  pub begun_mark : IsOrdered 0 xs → is_marked ys o ≡ true
  begun_mark ordered =
      let later = spread_ordered o xs ds 0 ys es begins ordered in
      let is : slice_get ys at ≡ Some (condemned_one x) = ap (λ (zs : List Object). slice_get zs at) now ∙ set_there xs at x (condemned_one x) there in
      ap (is_marked ys) (sym number) ∙ mark_of o xs ds 0 ys at (condemned_one x) later is

  -- what was listed before is covered
  pub begun_covered : IsOrdered 0 xs → IsWhole xs → IsPermutation ds (doomed_of xs) → (k : ℕ) (p : ObjNo) → k < length ds → slice_get es k ≡ Some p → Covers ys p
  begun_covered ordered whole listed k p low e =
      spread_covers o xs ds ys es p begins (whole p (permuted_marked xs ds ordered listed k p (earlier ds k low (ap (λ (ns : List ObjNo). slice_get ns k) (sym then') ∙ e))))
    where
      earlier : (ns : List ObjNo) (k : ℕ) → k < length ns → slice_get (ns ++ x.number ∷ []) k ≡ Some p → slice_get ns k ≡ Some p
      earlier [] k low e = absurd (omega arith)
      earlier (n ∷ ns) zero low e = e
      earlier (n ∷ ns) (suc k) low e = earlier ns k (omega arith) e

-- the whole of it
module _ (o : ObjNo) (xs ys zs : List Object) (ds es fs : List ObjNo) (ordered : IsOrdered 0 xs) (listed : IsPermutation ds (doomed_of xs)) (first : Spreads o xs ds ys es) (marked : is_marked ys o ≡ true) (rest : Spreads o ys es zs fs) (whole : IsWhole zs) where
  pub all_spreads : Spreads o xs ds zs fs
  all_spreads = spread_on o xs ds ys es zs fs first rest

  end_ordered : IsOrdered 0 zs
  end_ordered = spread_ordered o xs ds 0 zs fs all_spreads ordered

  pub condemn_marks : zs ≡ marked_from o [] xs
  condemn_marks = spread_is o xs ds zs fs ordered all_spreads whole (λ j y at e.
      sym (mark_of o xs ds 0 zs j y end_ordered at) ∙ ap (is_marked zs) e ∙ spread_mark o ys es zs fs rest o marked)

  -- what was listed and what was marked now are the condemned
  pub condemn_listed : IsPermutation fs (doomed_of zs)
  condemn_listed = spread_permutes o xs ds zs fs listed all_spreads

  pub condemn_least : (x : Object) → Stands x xs → (is_marked zs x.number ≡ true) ↔ Doomed xs (Begins o) x
  condemn_least x stands = rw condemn_marks (marks_doomed o xs ordered x stands)

pub none_least : (o : ObjNo) (xs : List Object) → IsOrdered 0 xs → stands xs o ≡ false → IsWhole xs → (x : Object) → Stands x xs → (is_marked xs x.number ≡ true) ↔ Doomed xs (Begins o) x
none_least o xs ordered gone whole x stands = subst (λ ys. (is_marked ys x.number ≡ true) ↔ Doomed xs (Begins o) x) (sym (none_standing o xs ordered gone whole)) (marks_doomed o xs ordered x stands)
