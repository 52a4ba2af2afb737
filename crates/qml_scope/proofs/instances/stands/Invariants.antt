use Rattle.std.proofs.Common.{◌≡◌, drop}
use Rattle.qml_scope.specs.Shapes.{stands_among}
use Rattle.qml_scope.proofs.instances.stands.Given as goal

abbrev pub invariant-loop-entry : goal.invariant-loop-entry
invariant-loop-entry l = stands_among (drop l.entry-index l.entries) l.o ≡ stands_among l.entries l.o
