use Rattle.std.proofs.Common.{◌≡◌, drop}
use Rattle.qml_scope.specs.Shapes.{told_among}
use Rattle.qml_scope.proofs.instances.told.Given as goal

abbrev pub invariant-loop-entry : goal.invariant-loop-entry
invariant-loop-entry l = told_among (drop l.entry-index l.entry-items) l.o l.name ≡ told_among l.entry-items l.o l.name
