use Rattle.std.proofs.Common.{◌≡◌, ◌+◌, ◌*◌, count_by}
use Rattle.qml_model.specs.Settling.{is_bound}
use Rattle.first_tree.proofs.SweepLemmas.{IsBetween}
use Rattle.first_tree.proofs.sweeps.refresh.Given as goal

abbrev pub invariant-loop : goal.invariant-loop
invariant-loop g l = record {
  outcomes : IsBetween l.contents l.counter l.table;
  steps : l.steps ≡ l.initial.steps + l.counter * count_by is_bound l.contents;
}
