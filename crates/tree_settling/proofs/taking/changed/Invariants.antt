use Rattle.std.proofs.Common.{◌++◌, List, drop}
use Rattle.qml_base.specs.declared.numbers.CellNo.{CellNo}
use Rattle.tree_model.specs.Telling.{Changes}
use Rattle.tree_settling.specs.Tables.{taken}
use Rattle.tree_settling.proofs.taking.changed.Given as goal

abbrev pub invariant-loop-i : goal.invariant-loop-i
invariant-loop-i l = (rest : List CellNo) → Changes (drop l.i l.cells) (taken (drop l.i l.cells) (drop l.i l.table)) rest → Changes l.cells (taken l.cells l.table) (l.changed.items ++ rest)
