use Rattle.std.proofs.Common.{◌∙◌, sym}
use Rattle.qml_types.specs.declared.kind.TypeNo.TheVariants as type
use Rattle.qml_types.proofs.TableLemmas.{cell-in-one, cell-past-one}
use Rattle.qml_types.proofs.places.cell_at.Goals as goal

pub returns-then-left-cells : goal.returns-then-left-cells
returns-then-left-cells c =
    cell-in-one c.lineage-base-items.result.now c.bases.base-index c.bases.left type.QtObject c.own_cells-cells.result.now _
    c.bases-test.true c.own_cells-cells.ensures c.if-left-cells.true ∙ c.bases.invariant

pub bases-preserved : goal.bases-preserved
bases-preserved c =
    sym (cell-past-one c.lineage-base-items.result.now c.bases.base-index c.bases.left type.QtObject c.own_cells-cells.result.now
    c.bases-test.true c.own_cells-cells.ensures c.if-left-cells.false) ∙ c.bases.invariant
