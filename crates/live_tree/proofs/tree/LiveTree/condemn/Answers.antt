use Rattle.std.proofs.Common.{◌≡◌, ◌∙◌, ap, sym, subst, List, []}
use Rattle.tree_model.specs.declared.cells.Cell.{Cell}
use Rattle.tree_model.specs.Settling.{AllSpared}
use Rattle.tree_model.specs.Doomed.{marked_from}
use Rattle.tree_model.specs.Removing.{with_objects, condemned}
use Rattle.live_tree.specs.Live.{Live}
use Rattle.live_tree.proofs.LiveLemmas.{knows_all, condemned_cells, spared_before, quiet_spared}
use Rattle.live_tree.proofs.tree.LiveTree.condemn.Goals as goal

pub returns-clause-tree : goal.returns-clause-tree
returns-clause-tree c =
    ap (λ os. with_objects os c.self.inside.store) c.condemn.ensures.marks
    ∙ ap (λ (cells : List Cell). record { objects = marked_from c.args.o [] c.self.inside.objects.objects; cells = cells }) (condemned_cells c.args.o c.self.inside.stale c.self.inside.objects.objects c.self.inside.store)
    ∙ ap (λ (l : Live). condemned c.args.o l.tree) c.self.view_is

pub returns-clause-spared : goal.returns-clause-spared
returns-clause-spared c = λ all. quiet_spared c.condemn.new.self.objects c.self.inside.store (spared_before c.self.inside.stale c.self.inside.objects.objects c.self.inside.store (subst (λ t. AllSpared t.tree.cells) (sym c.self.view_is) all))

pub returns-clause-knows : goal.returns-clause-knows
returns-clause-knows c = λ asks h. knows_all asks _
