use Rattle.std.proofs.Common.{◌≡◌, ◌∙◌, ap}
use Rattle.unit_rows.specs.Seen.{all_seen}
use Rattle.machine_effects.specs.Access.{may_write_row}
use Rattle.machine_effects.proofs.AccessLemmas.{in_root, past_root}
use Rattle.machine_effects.proofs.access.may_write_declared.Goals as goal

pub returns-then-left-cells : goal.returns-then-left-cells
returns-then-left-cells c =
    c.may_write_row.ensures
    ∙ ap may_write_row (in_root (all_seen c.args.units.now) c.args.documents.now c.args.own.now c.cells_at-cells.result.now c.documents.document-index c.documents.left _
    c.documents-test.true c.cells_at-cells.ensures c.if-left-cells.true c.documents.invariant)

pub documents-preserved : goal.documents-preserved
documents-preserved c =
    past_root (all_seen c.args.units.now) c.args.documents.now c.args.own.now c.cells_at-cells.result.now c.documents.document-index c.documents.left _
    c.documents-test.true c.cells_at-cells.ensures c.if-left-cells.false c.documents.invariant
