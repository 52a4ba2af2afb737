use Rattle.std.proofs.Common.{◌≡◌, ◌++◌, drop}
use Rattle.qml_base.specs.declared.numbers.ExprNo.{ExprNo}
use Rattle.qml_base.specs.declared.names.Home.{Home}
use Rattle.evaluation.specs.Ask.{Ask}
use Rattle.live_tree.specs.Live.{Knows}
use Rattle.machine_begun.specs.Begun.{shapes_of}
use Rattle.machine_begun.proofs.begun.add_units.Given as goal

abbrev pub invariant-units : goal.invariant-units
invariant-units l = record {
  tree : l.tree.tree ≡ l.initial.tree.tree;
  given : l.tree.given ≡ l.initial.tree.given;
  instances : l.tree.known.instances ++ shapes_of l.u (drop l.u l.units) ≡ l.initial.tree.known.instances ++ shapes_of 0 l.units;
  told : l.tree.known.told ≡ l.initial.tree.known.told;
  knows : (asks : ExprNo → Home → Ask) → Knows asks l.initial.tree → Knows asks l.tree;
}
