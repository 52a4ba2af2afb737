use Rattle.std.proofs.Common.{sym, subst}
use Rattle.live_tree.specs.Live.{HasCell}
use Rattle.live_tree.proofs.LiveLemmas.{knows_all, caught_below, caught_inside, replaced_below}
use Rattle.tree_model.specs.declared.cells.Content.TheVariants.{Plain}
use Rattle.qml_value.specs.declared.value.Value.{Undefined}
use Rattle.live_tree.proofs.tree.LiveTree.take.Goals as goal

pub invariant_of-self : goal.invariant_of-self
invariant_of-self c =
    let inside = caught_inside c.self.inside.stale c.self.inside.objects.objects c.self.inside.store c.catch_up.new.store c.args.c c.catch_up.ensures.cells (subst (λ t. HasCell t.tree c.args.c) (sym c.self.view_is) c.requires) in
    let below = caught_below c.self.inside.stale c.self.inside.objects.objects c.self.inside.store c.catch_up.new.store _ c.catch_up.ensures.cells c.self.invariant.0 in
    (replaced_below c.catch_up.new.store c.take_content.new.self c.args.c (Plain Undefined) _ inside c.take_content.ensures.new below, c.self.invariant.1)

pub returns-clause-knows : goal.returns-clause-knows
returns-clause-knows c = λ asks h. knows_all asks _
