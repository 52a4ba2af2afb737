use Rattle.std.proofs.Common.{sym, subst}
use Rattle.live_tree.specs.Live.{HasCell}
use Rattle.live_tree.proofs.LiveLemmas.{shown_inside, inside_shown}
use Rattle.live_tree.proofs.tree.LiveTree.has_cell.Goals as goal

pub returns : goal.returns
returns c = (
  λ yes. subst (λ t. HasCell t.tree c.args.c) c.self.view_is (inside_shown c.self.inside.stale c.self.inside.objects.objects c.self.inside.store c.args.c (c.is_there.ensures.0 yes)),
  λ there. c.is_there.ensures.1 (shown_inside c.self.inside.stale c.self.inside.objects.objects c.self.inside.store c.args.c (subst (λ t. HasCell t.tree c.args.c) (sym c.self.view_is) there)),
)
