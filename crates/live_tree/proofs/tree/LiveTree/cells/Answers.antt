use Rattle.std.proofs.Common.{◌≡◌, ◌∙◌, ap, sym}
use Rattle.live_tree.specs.Live.{Live, held_in}
use Rattle.live_tree.proofs.LiveLemmas.{shown_held}
use Rattle.live_tree.proofs.tree.LiveTree.cells.Goals as goal

pub returns : goal.returns
returns c =
    ap held_in c.cells.ensures ∙ sym (shown_held c.self.inside.stale c.self.inside.objects.objects c.self.inside.store) ∙
    ap (λ (l : Live). held_in l.tree.cells) c.self.view_is
