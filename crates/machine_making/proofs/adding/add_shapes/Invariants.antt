use Rattle.std.proofs.Common.{◌≡◌, ◌++◌, reverse, length}
use Rattle.qml_base.specs.declared.numbers.ExprNo.{ExprNo}
use Rattle.qml_base.specs.declared.names.Home.{Home}
use Rattle.evaluation.specs.Ask.{Ask}
use Rattle.live_tree.specs.Live.{Knows}
use Rattle.machine_making.proofs.adding.add_shapes.Given as goal

abbrev pub invariant-shapes : goal.invariant-shapes
invariant-shapes l = record {
  tree : l.tree.tree ≡ l.initial.tree.tree;
  given : l.tree.given ≡ l.initial.tree.given;
  instances : l.tree.known.instances ++ reverse l.left.items ≡ l.initial.tree.known.instances ++ l.fn.shapes.items;
  told : l.tree.known.told ≡ l.initial.tree.known.told;
  knows : (asks : ExprNo → Home → Ask) → Knows asks l.initial.tree → Knows asks l.tree;
}

abbrev pub decreases-shapes : goal.decreases-shapes
decreases-shapes l = length l.left.items
