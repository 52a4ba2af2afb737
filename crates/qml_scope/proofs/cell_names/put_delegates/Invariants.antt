use Rattle.std.proofs.Common.{take}
use Rattle.qml_scope.specs.CellNames.{TellsMore, delegate_place}
use Rattle.qml_scope.proofs.cell_names.put_delegates.Given as goal

abbrev pub invariant-loop-i : goal.invariant-loop-i
invariant-loop-i l = TellsMore l.initial.places.entries l.places.entries (λ c. delegate_place l.n c (take l.i l.names))
