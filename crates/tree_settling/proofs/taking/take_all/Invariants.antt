use Rattle.std.proofs.Common.{◌≡◌, ◌++◌, take, drop, length}
use Rattle.tree_settling.specs.Tables.{taken, spares_needed}
use Rattle.tree_settling.proofs.taking.take_all.Given as goal

abbrev pub invariant-loop-i : goal.invariant-loop-i
invariant-loop-i l = record {
  cells : take l.i l.cells ++ taken (drop l.i l.cells) (drop l.i l.table) ≡ taken l.initial.cells l.initial.table;
  later : drop l.i l.cells ≡ drop l.i l.initial.cells;
  entries : drop l.i l.table ≡ drop l.i l.initial.table;
  spares : drop l.i l.spares ≡ spares_needed (drop l.i l.cells) (drop l.i l.table);
  many : length l.spares ≡ length l.cells;
}
