use Rattle.std.proofs.Common.{◌≡◌, drop}
use Rattle.first_tree.specs.Sweeps.{begun_from}
use Rattle.first_tree.proofs.sweeps.begin.Given as goal

abbrev pub invariant-loop-c : goal.invariant-loop-c
invariant-loop-c l = begun_from l.c (drop l.c l.contents) l.table ≡ begun_from 0 l.contents l.initial.table
