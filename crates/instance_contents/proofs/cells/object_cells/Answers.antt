use Rattle.std.proofs.Common.{◌∙◌, ap, map, ◌++◌, ℕ, List}
use Rattle.qml_value.specs.declared.value.Value.{Value}
use Rattle.qml_types.specs.Table.{cells_of}
use Rattle.instance_contents.specs.Making.{cell_of_type}
use Rattle.instance_contents.proofs.CellLemmas.{all_cells}
use Rattle.instance_contents.proofs.cells.object_cells.Goals as goal

pub returns : goal.returns
returns c =
    let t = c.args.tables.now in
    let x = c.args.x in
    let b = c.builtin_planned-of_type.result in
    all_cells t x b (map (λ (d : List ℕ × Value). d.1) c.args.delegates.now) c.put_typed.new.cells.items c.put_all_declared.new.cells.items c.put_delegates.new.cells.items c.put_list.new.cells.items
    c.builtin_planned-of_type.ensures
    (c.in_ok-put_typed.ensures ∙ ap (λ zs. zs ++ map (cell_of_type t b x) (cells_of b)) c.new-cells.ensures.items)
    c.in_ok-put_all_declared.ensures c.in_ok-put_delegates.ensures c.in_ok-put_list.ensures
