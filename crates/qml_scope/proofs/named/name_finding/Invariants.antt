use Rattle.std.proofs.Common.{◌≡◌, drop}
use Rattle.qml_scope.specs.Names.{named_by}
use Rattle.qml_scope.specs.Shapes.{is_cell}
use Rattle.qml_scope.proofs.named.name_finding.Given as goal

abbrev pub invariant-names : goal.invariant-names
invariant-names l = named_by (is_cell l.c) (drop l.i l.names) ≡ named_by (is_cell l.c) l.names
