use Rattle.std.proofs.Common.{sym}
use Rattle.qml_scope.specs.Shapes.{same_cell}
use Rattle.qml_scope.proofs.NameLemmas.{named_here, named_next}
use Rattle.qml_scope.proofs.named.name_of.Goals as goal

pub returns-then-stands_at : goal.returns-then-stands_at
returns-then-stands_at c = named_here (same_cell c.args.c) c.args.names.now c.names.i _ _ (sym c.if-stands_at.ensures) c.name_at.ensures c.names.invariant

pub names-preserved : goal.names-preserved
names-preserved c = named_next (same_cell c.args.c) c.args.names.now c.names.i _ (sym c.if-stands_at.ensures) c.names.invariant
