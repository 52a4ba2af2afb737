use Rattle.std.proofs.Common.{◌≡◌, ◌<◌, ◌∙◌, ap, length, slice_index_or, slice_set, length-set, add-one, arith}
use Rattle.tree_model.specs.Removing.{quiet}
use Rattle.property_store.specs.Stores.{with_outcome}
use Rattle.property_store.proofs.KeptLemmas.{read_there}
use Rattle.live_tree.proofs.LiveLemmas.{mapped_next}
use Rattle.live_tree.proofs.quieting.quiet_all.Goals as goal

pub cells-preserved : goal.cells-preserved
cells-preserved c =
    let inside : c.cells.i < length c.cells.store = omega (arith, c.cells.invariant.long, c.len-i-end.ensures, c.cells-test.true) in
    let cell = c.index-cells-i.result in
    let is : cell ≡ slice_index_or c.cells.store c.cells.i cell = c.index-cells-i.is ∙ ap (λ l. slice_index_or l c.cells.i cell) c.cells-in-cells.ensures in
    let there = read_there c.cells.store c.cells.i cell inside is in
    let new : c.put_outcome_at.new.self ≡ slice_set c.cells.store c.cells.i (quiet c.args.objects.now.objects cell) = c.put_outcome_at.ensures cell there ∙ ap (λ o. slice_set c.cells.store c.cells.i (with_outcome cell o)) c.outcome-outcome.ensures in
    record {
      done = rw (add-one, new) (mapped_next (quiet c.args.objects.now.objects) c.cells.store _ c.cells.i cell there c.cells.invariant.done);
      long = ap length new ∙ length-set c.cells.store c.cells.i (quiet c.args.objects.now.objects cell) ∙ c.cells.invariant.long;
    }
