use Rattle.std.proofs.Common.{◌∙◌, ap}
use Rattle.load_faults.specs.Faults.{first_from}
use Rattle.property_faults.specs.ReadOnly.{read_only_row}
use Rattle.property_faults.proofs.RowLemmas.{go_on}
use Rattle.property_faults.proofs.read_only.tell_rows.Goals as goal

pub rows-preserved : goal.rows-preserved
rows-preserved c =
    go_on (read_only_row c.args.tree.now) c.args.rows.now c.args.inside.now c.args.given.now c.rows.number _ c.in_group.result c.given_at.result
    c.rows.best.fault c.tell_row.new.best.fault _ c.rows-test.true c.in_group.ensures c.given_at.ensures
    (c.tell_row.ensures ∙
    ap (λ r. first_from c.rows.best.fault (read_only_row c.args.tree.now c.in_group.result r c.given_at.result)) c.index-rows-number.is)
    c.rows.invariant
