use Rattle.std.proofs.Common.{◌≡◌, sym, subst, refl, slice_get, Some}
use Rattle.tree_model.specs.declared.cells.Cell.{Cell}
use Rattle.tree_model.specs.Settling.{place_of}
use Rattle.live_tree.specs.Live.{Live, HasCell}
use Rattle.live_tree.proofs.LiveLemmas.{shown_inside, shown_field}
use Rattle.live_tree.proofs.tree.LiveTree.read.Goals as goal

pub held-requires : goal.held-requires
held-requires c = shown_inside c.self.inside.stale c.self.inside.objects.objects c.self.inside.store c.args.c (subst (λ t. HasCell t.tree c.args.c) (sym c.self.view_is) c.requires)

pub returns : goal.returns
returns c =
    subst (λ (l : Live). (cell : Cell) → slice_get l.tree.cells (place_of l.tree.cells c.args.c) ≡ Some cell → c.held.result.now ≡ cell.held) c.self.view_is
    (shown_field (λ cell. cell.held) (λ os cell. refl) c.self.inside.stale c.self.inside.objects.objects c.self.inside.store c.args.c c.held.result.now c.held.ensures)
