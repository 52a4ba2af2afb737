use Rattle.std.proofs.Common.{◌∙◌, ap}
use Rattle.load_faults.specs.Faults.{first_from}
use Rattle.literal_faults.specs.Literals.{not_literal_row}
use Rattle.literal_faults.proofs.RowLemmas.{go_on}
use Rattle.literal_faults.proofs.literals.tell_rows.Goals as goal

pub rows-preserved : goal.rows-preserved
rows-preserved c =
    go_on (not_literal_row c.args.tree.now c.args.objects.now) c.args.rows.now c.args.given.now c.rows.number _ c.given_at.result
    c.rows.best.fault c.tell_row.new.best.fault _ c.rows-test.true c.given_at.ensures
    (c.tell_row.ensures ∙
    ap (λ r. first_from c.rows.best.fault (not_literal_row c.args.tree.now c.args.objects.now r c.given_at.result)) c.index-rows-number.is)
    c.rows.invariant
