use Rattle.std.proofs.Common.{◌≡◌, ◌∙◌, [], ap, subst, length, take, arith}
use Rattle.std.proofs.lemmas.List.Sorted.{IsPermutation-refl}
use Rattle.object_tree.specs.Trees.{IsAt}
use Rattle.tree_model.specs.Removing.{kept_of}
use Rattle.object_tree.specs.declared.links.Tie.TheVariants as by_tie
use Rattle.object_tree.specs.Links.{IsTied}
use Rattle.object_tree.proofs.WholeLemmas.{whole_kept}
use Rattle.object_tree.proofs.MarkLemmas.{seam}
use Rattle.object_tree.proofs.KeepLemmas.{ordered_kept, up_to_kept, none_doomed}
use Rattle.object_tree.proofs.tree.Tree.remove_doomed.Goals as goal

pub place_all-requires-clause-given : goal.place_all-requires-clause-given
place_all-requires-clause-given c =
    let old = c.self.inside in
    let all : length c.keep-live.new.objects ≡ old.objects.len = omega arith in
    let back = seam c.keep-live.new.objects old.objects.items old.objects.len all in
    let kept = c.truncate.ensures.items ∙ ap (take c.keep-live.result) back ∙ c.keep-live.ensures.kept ∙ ap kept_of c.as_mut_slice.ensures.value in
    rw (c.as_slice.ensures.value, kept, c.as_mut_slice-2.ensures.value, ← old.places.ok.0) (up_to_kept old.places.len old.objects.items c.self.invariant.4)

pub place_all-requires-clause-ordered : goal.place_all-requires-clause-ordered
place_all-requires-clause-ordered c =
    let old = c.self.inside in
    let all : length c.keep-live.new.objects ≡ old.objects.len = omega arith in
    let back = seam c.keep-live.new.objects old.objects.items old.objects.len all in
    let kept = c.truncate.ensures.items ∙ ap (take c.keep-live.result) back ∙ c.keep-live.ensures.kept ∙ ap kept_of c.as_mut_slice.ensures.value in
    rw (c.as_slice.ensures.value, kept) (ordered_kept 0 old.objects.items c.self.invariant.3)

pub invariant_of-self : goal.invariant_of-self
invariant_of-self c =
    let old = c.self.inside in
    let inv = c.self.invariant in
    let all : length c.keep-live.new.objects ≡ old.objects.len = omega arith in
    let back = seam c.keep-live.new.objects old.objects.items old.objects.len all in
    let kept = c.truncate.ensures.items ∙ ap (take c.keep-live.result) back ∙ c.keep-live.ensures.kept ∙ ap kept_of c.as_mut_slice.ensures.value in
    let every : length c.place_all.new.places ≡ old.places.len = omega arith in
    let placed = seam c.place_all.new.places old.places.items old.places.len every in
    let fewer = c.truncate.ensures.len in
    let room = c.clear.ensures.capacity in (
      rw (c.clear.ensures.items, kept, none_doomed old.objects.items) (IsPermutation-refl []),
      omega arith,
      rw placed (subst (IsAt c.place_all.new.places) c.as_slice.ensures.value c.place_all.ensures),
      rw kept (ordered_kept 0 old.objects.items inv.3),
      rw kept (up_to_kept old.places.len old.objects.items inv.4),
      omega arith,
      inv.6,
      subst (λ xs. IsTied by_tie.Owned xs c.relink.new.self.last.items c.relink.new.self.before.items) c.as_slice-objects.ensures.value c.relink.ensures,
      subst (λ xs. IsTied by_tie.Made xs c.relink-2.new.self.last.items c.relink-2.new.self.before.items) c.as_slice-objects.ensures.value c.relink-2.ensures,
      rw kept (whole_kept old.objects.items),
    )

pub relink-requires-clause-ordered : goal.relink-requires-clause-ordered
relink-requires-clause-ordered c =
    let old = c.self.inside in
    let all : length c.keep-live.new.objects ≡ old.objects.len = omega arith in
    let back = seam c.keep-live.new.objects old.objects.items old.objects.len all in
    let kept = c.truncate.ensures.items ∙ ap (take c.keep-live.result) back ∙ c.keep-live.ensures.kept ∙ ap kept_of c.as_mut_slice.ensures.value in
    rw (c.as_slice-objects.ensures.value, kept) (ordered_kept 0 old.objects.items c.self.invariant.3)

pub relink-requires-2-clause-ordered : goal.relink-requires-2-clause-ordered
relink-requires-2-clause-ordered c =
    let old = c.self.inside in
    let all : length c.keep-live.new.objects ≡ old.objects.len = omega arith in
    let back = seam c.keep-live.new.objects old.objects.items old.objects.len all in
    let kept = c.truncate.ensures.items ∙ ap (take c.keep-live.result) back ∙ c.keep-live.ensures.kept ∙ ap kept_of c.as_mut_slice.ensures.value in
    rw (c.as_slice-objects.ensures.value, kept) (ordered_kept 0 old.objects.items c.self.invariant.3)

pub relink-requires-2-clause-placed : goal.relink-requires-2-clause-placed
relink-requires-2-clause-placed c =
    let old = c.self.inside in
    let every : length c.place_all.new.places ≡ old.places.len = omega arith in
    let placed = seam c.place_all.new.places old.places.items old.places.len every in
    rw (c.as_slice-places.ensures.value, placed, c.as_slice-objects.ensures.value) (subst (IsAt c.place_all.new.places) c.as_slice.ensures.value c.place_all.ensures)
