use Rattle.std.proofs.Common.{◌≡◌, ◌++◌, take, drop}
use Rattle.first_tree.specs.Values.{held_all}
use Rattle.first_tree.proofs.values.hold.Given as goal

abbrev pub invariant-loop-c : goal.invariant-loop-c
invariant-loop-c l = take l.c l.values ++ held_all (drop l.c l.table) (drop l.c l.values) ≡ held_all l.table l.initial.values
