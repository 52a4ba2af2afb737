use Rattle.std.proofs.Common.{◌+◌, ◌∙◌, ap, take, add-one}
use Rattle.std.specs.declared.option.Option.TheVariants.{None}
use Rattle.qml_base.specs.declared.numbers.CellNo.{CellNo}
use Rattle.qml_scope.specs.Shapes.{same_cell}
use Rattle.qml_scope.specs.CellNames.{delegate_place, here_is}
use Rattle.qml_scope.proofs.CellNameLemmas.{more_both, row_there, rows_next}
use Rattle.qml_scope.proofs.cell_names.put_delegates.Goals as goal

pub loop-i-preserved : goal.loop-i-preserved
loop-i-preserved c =
    let row = row_there c.args.names.now c.loop-i.i c.in-Some.c c.in-Some.ensures in
    more_both c.args.places.now.entries c.loop-i.places.entries c.put.new.places.entries
    (λ q. delegate_place c.args.n q (take c.loop-i.i c.args.names.now))
    (here_is c.in-Some.c (record { instance = c.args.n; entry = None; place = c.loop-i.i }))
    (λ q. delegate_place c.args.n q (take (c.loop-i.i + 1) c.args.names.now))
    (λ (q : CellNo). ap (λ n. delegate_place c.args.n q (take n c.args.names.now)) (add-one c.loop-i.i) ∙ rows_next c.args.n None (same_cell q) c.loop-i.i c.args.names.now (row.0, c.in-Some.c) row.1)
    c.loop-i.invariant (c.put.ensures c.if-not-put.false)
