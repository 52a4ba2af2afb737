use Rattle.std.proofs.Common.{◌≡◌, subst, length, vec_len, arith}
use Rattle.object_tree.specs.declared.links.Tie.TheVariants as by_tie
use Rattle.object_tree.specs.Spreading.{Spreads}
use Rattle.object_tree.proofs.MarkLemmas.{seam}
use Rattle.object_tree.proofs.SpreadLemmas.{spread_placed, spread_ordered, spread_up_to, spread_tied}
use Rattle.object_tree.proofs.tree.Tree.condemn.Goals as goal

pub invariant_of-self : goal.invariant_of-self
invariant_of-self c =
    let old = c.self.inside in
    let inv = c.self.invariant in
    let all : length c.condemn.new.objects ≡ old.objects.len = omega arith in
    let back = seam c.condemn.new.objects old.objects.items old.objects.len all in
    let es = c.condemn.ensures.spread.0 in
    let spreads = subst (λ xs. Spreads c.args.o xs old.doomed.items c.condemn.new.objects es) c.as_mut_slice.ensures.value c.condemn.ensures.spread.1 in
    let more = c.condemn.ensures.capacity in (
      rw back c.condemn.ensures.listed,
      omega arith,
      rw back (spread_placed c.args.o old.objects.items old.doomed.items old.places.items c.condemn.new.objects es spreads inv.2),
      rw back (spread_ordered c.args.o old.objects.items old.doomed.items 0 c.condemn.new.objects es spreads inv.3),
      rw back (spread_up_to c.args.o old.objects.items old.doomed.items (vec_len old.places) c.condemn.new.objects es spreads inv.4),
      inv.5,
      inv.6,
      rw back (spread_tied c.args.o old.objects.items old.doomed.items by_tie.Owned old.owned.last.items old.owned.before.items c.condemn.new.objects es spreads inv.7),
      rw back (spread_tied c.args.o old.objects.items old.doomed.items by_tie.Made old.made.last.items old.made.before.items c.condemn.new.objects es spreads inv.8),
      rw back c.condemn.ensures.whole,
    )
