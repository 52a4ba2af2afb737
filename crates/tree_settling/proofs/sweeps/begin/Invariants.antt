use Rattle.std.proofs.Common.{◌≡◌, ◌++◌, drop, length}
use Rattle.tree_settling.specs.Tables.{Table, AllBegun}
use Rattle.tree_settling.proofs.sweeps.begin.Given as goal

abbrev pub invariant-loop-cell : goal.invariant-loop-cell
invariant-loop-cell l = record {
  begun : (rest : Table) → AllBegun l.objects.objects (drop l.cell-index l.cells) rest → AllBegun l.objects.objects l.cells (l.table.items ++ rest);
  long : length l.table.items ≡ l.cell-index;
}
