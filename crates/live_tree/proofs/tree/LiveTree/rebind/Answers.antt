use Rattle.std.proofs.Common.{sym, subst}
use Rattle.live_tree.specs.Live.{HasCell}
use Rattle.live_tree.proofs.LiveLemmas.{knows_all, caught_below, caught_inside, replaced_below}
use Rattle.tree_model.specs.declared.cells.Content.TheVariants.{Bound}
use Rattle.live_tree.proofs.tree.LiveTree.rebind.Goals as goal

pub invariant_of-self : goal.invariant_of-self
invariant_of-self c =
    let inside = caught_inside c.self.inside.stale c.self.inside.objects.objects c.self.inside.store c.catch_up.new.store c.args.c c.catch_up.ensures.cells (subst (λ t. HasCell t.tree c.args.c) (sym c.self.view_is) c.requires) in
    let below = caught_below c.self.inside.stale c.self.inside.objects.objects c.self.inside.store c.catch_up.new.store _ c.catch_up.ensures.cells c.self.invariant.0 in
    (replaced_below c.catch_up.new.store c.bind.new.self c.args.c (Bound c.args.b) _ inside c.bind.ensures.new below, c.self.invariant.1)

pub returns-clause-knows : goal.returns-clause-knows
returns-clause-knows c = λ asks h. knows_all asks _
