use Rattle.std.proofs.Common.{take}
use Rattle.qml_scope.specs.CellNames.{TellsBoth}
use Rattle.qml_scope.proofs.cell_names.put_all.Given as goal

abbrev pub invariant-loop-i : goal.invariant-loop-i
invariant-loop-i l = TellsBoth l.places.entries l.delegates.entries (take l.i l.shapes)
