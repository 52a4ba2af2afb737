use Rattle.std.proofs.Common.{sym}
use Rattle.qml_scope.specs.Shapes.{is_cell}
use Rattle.qml_scope.proofs.NameLemmas.{named_here, named_next}
use Rattle.qml_scope.proofs.named.name_finding.Goals as goal

pub returns-then-finds_at : goal.returns-then-finds_at
returns-then-finds_at c = named_here (is_cell c.args.c) c.args.names.now c.names.i _ _ (sym c.if-finds_at.ensures) c.name_at.ensures c.names.invariant

pub names-preserved : goal.names-preserved
names-preserved c = named_next (is_cell c.args.c) c.args.names.now c.names.i _ (sym c.if-finds_at.ensures) c.names.invariant
