use Rattle.std.proofs.Common.{◌≡◌, drop}
use Rattle.qml_scope.specs.Names.{named_by}
use Rattle.qml_scope.specs.Shapes.{same_cell}
use Rattle.qml_scope.proofs.named.name_of.Given as goal

abbrev pub invariant-names : goal.invariant-names
invariant-names l = named_by (same_cell l.c) (drop l.i l.names) ≡ named_by (same_cell l.c) l.names
