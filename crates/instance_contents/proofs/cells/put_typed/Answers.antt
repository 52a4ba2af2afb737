use Rattle.std.proofs.Common.{◌∙◌}
use Rattle.qml_types.specs.Table.{cells_of}
use Rattle.instance_contents.proofs.CellLemmas.{typed_next}
use Rattle.instance_contents.proofs.cells.put_typed.Goals as goal

pub places-preserved : goal.places-preserved
places-preserved c = typed_next c.args.tables.now c.args.of_type c.args.x c.places.place (cells_of c.args.of_type) c.places.cells.items c.push_typed.new.cells.items c.in_ok-push_typed.ensures ∙ c.places.invariant
