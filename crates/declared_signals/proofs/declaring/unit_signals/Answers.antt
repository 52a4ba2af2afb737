use Rattle.std.proofs.Common.{◌∙◌, ap}
use Rattle.std.proofs.lemmas.List.{drop_all}
use Rattle.program_tables.specs.Building.{is_inside}
use Rattle.declared_signals.proofs.LoopLemmas.{rows_step, rows_end}
use Rattle.declared_signals.proofs.declaring.unit_signals.Goals as goal

pub rows-preserved : goal.rows-preserved
rows-preserved c =
    rows_step c.args.count c.rows.number c.args.rows.now _ c.index-rows-number.result c.rows.grouping.items c.push.new.self.items c.rows.objects.items c.add_row.new.objects.items
    c.is_inside-inside.result c.is_grouping.result c.rows-test.true c.index-rows-number.is
    (c.is_inside-inside.ensures ∙ ap (λ g. is_inside g c.index-rows-number.result.row.group) c.as_slice.ensures.value) c.is_grouping.ensures c.in_ok-push.ensures.items
    c.in_ok-add_row.ensures c.rows.invariant

pub returns : goal.returns
returns c =
    rows_end c.args.count c.rows.number c.rows.grouping.items _ c.args.rows.now c.rows.objects.items (drop_all c.rows.number c.args.rows.now c.rows-test.false) c.rows.invariant
