use Rattle.std.proofs.Common.{map, reverse, length}
use Rattle.instance_contents.specs.Objects.{looks}
use Rattle.qml_base.specs.declared.numbers.ExprNo.{ExprNo}
use Rattle.qml_base.specs.declared.names.Home.{Home}
use Rattle.evaluation.specs.Ask.{Ask}
use Rattle.live_tree.specs.Live.{Knows}
use Rattle.machine_making.proofs.AddLemmas.{Going, Telling}
use Rattle.machine_making.proofs.adding.add_objects.Given as goal

abbrev pub invariant-objects : goal.invariant-objects
invariant-objects l = record {
  adds : Going l.origin (map looks l.fn.made.items) l.initial.tree l.tree (map looks (reverse l.left.items));
  tells : Telling (map looks l.fn.made.items) l.initial.tree.given l.tree.given (map looks (reverse l.left.items)) l.initial.trace.items l.trace.items l.initial.starting.items l.starting.items;
  knows : (asks : ExprNo → Home → Ask) → Knows asks l.initial.tree → Knows asks l.tree;
}

abbrev pub decreases-objects : goal.decreases-objects
decreases-objects l = length l.left.items
