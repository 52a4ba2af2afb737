use Rattle.live_tree.proofs.LiveLemmas.{knows_all, caught_below, scrubbed_below, scrubbed_spared, shown_spared}
use Rattle.live_tree.proofs.tree.LiveTree.remove_doomed.Goals as goal

pub invariant_of-self : goal.invariant_of-self
invariant_of-self c = (
  rw (c.remove_doomed.ensures.given, c.list_doomed.ensures.given, c.scrub.ensures) (scrubbed_below c.doomed.result.now _ c.catch_up.new.store (caught_below c.self.inside.stale c.self.inside.objects.objects c.self.inside.store c.catch_up.new.store _ c.catch_up.ensures.cells c.self.invariant.0)),
  rw (c.remove_doomed.ensures.given, c.list_doomed.ensures.given) (c.forget_all.ensures.kept _ c.self.invariant.1),
)

pub returns-clause-spared : goal.returns-clause-spared
returns-clause-spared c = shown_spared c.catch_up.new.stale c.remove_doomed.new.self.objects c.scrub.new.self (rw c.scrub.ensures (scrubbed_spared c.doomed.result.now c.catch_up.new.store))

pub returns-clause-knows : goal.returns-clause-knows
returns-clause-knows c = λ asks h. knows_all asks _
