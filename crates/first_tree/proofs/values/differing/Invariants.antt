use Rattle.std.proofs.Common.{◌≡◌, ◌++◌, drop}
use Rattle.qml_model.specs.Settling.{changed_from}
use Rattle.first_tree.specs.Values.{held_all}
use Rattle.first_tree.proofs.values.differing.Given as goal

abbrev pub invariant-loop-c : goal.invariant-loop-c
invariant-loop-c l = l.cells.items ++ changed_from l.c (drop l.c l.values) (held_all (drop l.c l.table) (drop l.c l.values)) ≡ changed_from 0 l.values (held_all l.table l.values)
