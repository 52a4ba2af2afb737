use Rattle.std.proofs.Common.{◌∙◌, ap, ◌++◌}
use Rattle.name_faults.specs.Names.{declared_of}
use Rattle.name_faults.proofs.RowLemmas.{go_on}
use Rattle.name_faults.proofs.declared.declared_rows.Goals as goal

pub rows-preserved : goal.rows-preserved
rows-preserved c =
    go_on (declared_of c.args.names.now.units.items c.args.document) c.args.inside.now c.args.rows.now c.rows.number _ c.in_group.result c.rows.found.items c.push_declared.new.found.items _ c.rows-test.true c.in_group.ensures
    (c.in_ok-push_declared.ensures ∙ ap (λ r. c.rows.found.items ++ (declared_of c.args.names.now.units.items c.args.document) c.in_group.result r) c.index-rows-number.is) c.rows.invariant
