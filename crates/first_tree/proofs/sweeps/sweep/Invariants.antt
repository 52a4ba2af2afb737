use Rattle.std.proofs.Common.{◌≡◌, ◌+◌, drop, count_by, false}
use Rattle.qml_model.specs.Settling.{is_bound}
use Rattle.first_tree.specs.Sweeps.{swept_from}
use Rattle.first_tree.proofs.sweeps.sweep.Given as goal

abbrev pub invariant-loop-c : goal.invariant-loop-c
invariant-loop-c g l = record {
  outcomes : swept_from l.c (drop l.c l.contents) l.table ≡ swept_from 0 l.contents l.initial.table;
  same : l.differs ≡ false → l.table ≡ l.initial.table;
  steps : l.steps + count_by is_bound (drop l.c l.contents) ≡ l.initial.steps + count_by is_bound l.contents;
}
