use Rattle.std.proofs.Common.{◌+◌, ◌∙◌, ap, take, add-one, if◌then◌else◌}
use Rattle.std.specs.declared.option.Option.TheVariants.{None, Some}
use Rattle.qml_base.specs.declared.numbers.CellNo.{CellNo}
use Rattle.qml_scope.specs.Shapes.{same_object}
use Rattle.qml_scope.specs.CellNames.{entry_name_place, found_here}
use Rattle.qml_scope.proofs.CellNameLemmas.{more_both, row_there, own_next}
use Rattle.qml_scope.proofs.cell_names.put_own.Goals as goal

pub loop-i-preserved : goal.loop-i-preserved
loop-i-preserved c =
    let o = c.args.entry.now.object in
    let names = c.args.entry.now.names in
    let row = row_there names c.loop-i.i c.in-Some.found c.in-Some.ensures in
    more_both c.args.places.now.entries c.loop-i.places.entries c.put_found.new.places.entries
    (λ q. if same_object o q.object then entry_name_place c.args.n c.args.j q (take c.loop-i.i names) else None)
    (found_here o c.in-Some.found (record { instance = c.args.n; entry = Some c.args.j; place = c.loop-i.i }))
    (λ q. if same_object o q.object then entry_name_place c.args.n c.args.j q (take (c.loop-i.i + 1) names) else None)
    (λ (q : CellNo). ap (λ n. if same_object o q.object then entry_name_place c.args.n c.args.j q (take n names) else None) (add-one c.loop-i.i) ∙ own_next c.args.n c.args.j c.loop-i.i o q names (row.0, c.in-Some.found) row.1)
    c.loop-i.invariant (c.put_found.ensures c.if-not-put_found.false)
