use Rattle.std.proofs.Common.{◌∙◌, ap, sym}
use Rattle.qml_value.specs.declared.value.Value.{List as smart_list}
use Rattle.qml_types.specs.Table.{cell_of}
use Rattle.instance_contents.proofs.CellLemmas.{first_of_list}
use Rattle.instance_contents.proofs.cells.first_held.Goals as goal

pub returns-then-is_list : goal.returns-then-is_list
returns-then-is_list c = ap smart_list c.new.ensures ∙ first_of_list c.args.tables.now c.args.owner (cell_of c.args.cell.now) (sym c.is_list.ensures ∙ c.if-is_list.true)
