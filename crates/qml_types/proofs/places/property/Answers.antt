use Rattle.std.proofs.Common.{◌∙◌, ◌&&◌, ap, sym}
use Rattle.std.specs.Option.{option_map}
use Rattle.std.specs.Str.{bytes_eq}
use Rattle.qml_types.specs.declared.kind.TypeNo.TheVariants as type
use Rattle.qml_types.specs.Table.{found, own_cells, cell_of, is_shown}
use Rattle.qml_types.proofs.TableLemmas.{past-one, is_some-map}
use Rattle.qml_types.proofs.places.property.Goals as goal

pub bases-preserved : goal.bases-preserved
bases-preserved c =
    sym (past-one own_cells (λ cell. is_shown cell.access && bytes_eq cell.name c.args.name.now) c.lineage-base-items.result.now c.bases.base-index type.QtObject
    (option_map (λ cell. cell_of cell.now) c.found_in-own.result) c.bases-test.true
    (c.found_in-own.ensures ∙ ap (λ cells. found cells c.args.name.now) c.own_cells.ensures)
    (is_some-map (λ cell. cell_of cell.now) c.found_in-own.result ∙ sym c.is_some.ensures ∙ c.if-is_some.false)) ∙ c.bases.invariant
