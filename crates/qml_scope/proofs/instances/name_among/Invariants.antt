use Rattle.std.proofs.Common.{◌≡◌, drop}
use Rattle.qml_scope.specs.Shapes.{name_among}
use Rattle.qml_scope.proofs.instances.name_among.Given as goal

abbrev pub invariant-loop-entry : goal.invariant-loop-entry
invariant-loop-entry l = name_among l.c (drop l.entry-index l.entries) ≡ name_among l.c l.entries
