use Rattle.std.proofs.Common.{◌∙◌, ap, ◌++◌}
use Rattle.name_faults.proofs.RowLemmas.{go_on}
use Rattle.id_faults.specs.Ids.{id_of}
use Rattle.id_faults.proofs.ids.id_rows.Goals as goal

pub rows-preserved : goal.rows-preserved
rows-preserved c =
    go_on (id_of c.args.roots.now) c.args.inside.now c.args.rows.now c.rows.number _ c.in_group.result c.rows.found.items c.push_id.new.found.items _ c.rows-test.true c.in_group.ensures
    (c.in_ok-push_id.ensures ∙ ap (λ r. c.rows.found.items ++ id_of c.args.roots.now c.in_group.result r) c.index-rows-number.is) c.rows.invariant
