use Rattle.std.proofs.Common.{◌≡◌, subst, length, arith}
use Rattle.std.proofs.lemmas.List.Sorted.{IsPermutation-refl}
use Rattle.tree_model.specs.Removing.{doomed_of}
use Rattle.object_tree.specs.Trees.{IsAt}
use Rattle.object_tree.specs.declared.links.Tie.TheVariants as by_tie
use Rattle.object_tree.specs.Links.{IsTied}
use Rattle.object_tree.proofs.WholeLemmas.{whole_but}
use Rattle.object_tree.proofs.MarkLemmas.{seam}
use Rattle.object_tree.proofs.DropLemmas.{ordered_but, up_to_but}
use Rattle.object_tree.proofs.tree.Tree.remove.Goals as goal

pub place_all-requires-clause-given : goal.place_all-requires-clause-given
place_all-requires-clause-given c =
    let old = c.self.inside in
    rw (c.as_slice.ensures.value, c.drop_object.ensures.items, c.as_mut_slice.ensures.value, ← old.places.ok.0) (up_to_but c.args.o old.places.len old.objects.items c.self.invariant.4)

pub place_all-requires-clause-ordered : goal.place_all-requires-clause-ordered
place_all-requires-clause-ordered c = rw (c.as_slice.ensures.value, c.drop_object.ensures.items) (ordered_but c.args.o 0 c.self.inside.objects.items c.self.invariant.3)

pub invariant_of-self : goal.invariant_of-self
invariant_of-self c =
    let old = c.self.inside in
    let inv = c.self.invariant in
    let kept = c.drop_object.ensures.items in
    let every : length c.place_all.new.places ≡ old.places.len = omega arith in
    let placed = seam c.place_all.new.places old.places.items old.places.len every in
    let fewer = c.drop_object.ensures.few in
    let room = c.list_condemned.ensures.capacity in (
      rw (c.list_condemned.ensures.numbers, c.as_slice-objects.ensures.value) (IsPermutation-refl (doomed_of c.drop_object.new.objects.items)),
      omega arith,
      rw placed (subst (IsAt c.place_all.new.places) c.as_slice.ensures.value c.place_all.ensures),
      rw kept (ordered_but c.args.o 0 old.objects.items inv.3),
      rw kept (up_to_but c.args.o old.places.len old.objects.items inv.4),
      omega arith,
      inv.6,
      subst (λ xs. IsTied by_tie.Owned xs c.relink.new.self.last.items c.relink.new.self.before.items) c.as_slice-objects.ensures.value c.relink.ensures,
      subst (λ xs. IsTied by_tie.Made xs c.relink-2.new.self.last.items c.relink-2.new.self.before.items) c.as_slice-objects.ensures.value c.relink-2.ensures,
      rw kept (whole_but c.args.o old.objects.items inv.9),
    )

pub relink-requires-clause-ordered : goal.relink-requires-clause-ordered
relink-requires-clause-ordered c =
    let old = c.self.inside in
    let kept = c.drop_object.ensures.items in
    rw (c.as_slice-objects.ensures.value, kept) (ordered_but c.args.o 0 old.objects.items c.self.invariant.3)

pub relink-requires-2-clause-ordered : goal.relink-requires-2-clause-ordered
relink-requires-2-clause-ordered c =
    let old = c.self.inside in
    let kept = c.drop_object.ensures.items in
    rw (c.as_slice-objects.ensures.value, kept) (ordered_but c.args.o 0 old.objects.items c.self.invariant.3)

pub relink-requires-2-clause-placed : goal.relink-requires-2-clause-placed
relink-requires-2-clause-placed c =
    let old = c.self.inside in
    let every : length c.place_all.new.places ≡ old.places.len = omega arith in
    let placed = seam c.place_all.new.places old.places.items old.places.len every in
    rw (c.as_slice-places.ensures.value, placed, c.as_slice-objects.ensures.value) (subst (IsAt c.place_all.new.places) c.as_slice.ensures.value c.place_all.ensures)
