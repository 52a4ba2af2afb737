use Rattle.qml_scope.proofs.CellNameLemmas.{both_more}
use Rattle.qml_scope.proofs.cell_names.put_shape.Goals as goal

pub returns-then-put_names : goal.returns-then-put_names
returns-then-put_names c = λ t shapes long both. both_more c.args.places.now.entries c.put_names.new.places.entries c.args.delegates.now.entries c.put_delegates.new.places.entries c.args.n c.args.shape.now shapes long (c.put_names.ensures c.if-put_names.true) (c.put_delegates.ensures t) both
