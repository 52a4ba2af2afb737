use Rattle.std.proofs.Common.{◌∙◌, ◌+◌, ◌++◌, ◌<◌, ap, sym, drop, length, arith}
use Rattle.instance_contents.specs.Making.{declared_from}
use Rattle.instance_contents.proofs.LookLemmas.{item_at}
use Rattle.instance_contents.proofs.CellLemmas.{declared_more}
use Rattle.instance_contents.proofs.cells.put_declared.Goals as goal

pub rows-preserved : goal.rows-preserved
rows-preserved c =
    let t = c.args.tables.now in
    let r = c.row-item.result in
    let i = c.rows.row-index in
    let cells = c.rows.cells.items in
    let less : i < length c.args.rows.now = omega (arith, c.rows-test.true) in
    declared_more t c.args.number cells c.push_declared.new.cells.items r (drop (i + 1) c.args.rows.now) c.in_ok-push_declared.ensures
    ∙ ap (λ rs. cells ++ declared_from t c.args.number (length cells) rs) (sym (item_at i c.args.rows.now r c.row-item.is less))
    ∙ c.rows.invariant
