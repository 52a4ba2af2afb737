use Rattle.js_locals.specs.Laid.{laid}
use Rattle.js_locals.proofs.GatheringLemmas.{for_when, for_shallow}
use Rattle.js_locals.proofs.gathering.inside_for.Goals as goal

pub returns-in_ok-first_inside : goal.returns-in_ok-first_inside
returns-in_ok-first_inside c =
    for_when (laid c.args.tree.now) c.args.var c.args.at c.in-Some.begin c.in_ok-parts.parts.0 c.in_ok-parts.parts.1 c.in_ok-parts.parts.2 c.row_behind-row.result c.args.names.now.items c.first_inside.new.names.items
    c.if-var.true c.in-Some.ensures c.in_ok-parts.ensures c.row_behind-row.ensures c.in_ok-first_inside.ensures

pub returns-else-var : goal.returns-else-var
returns-else-var c =
    for_shallow (laid c.args.tree.now) c.args.var c.args.at c.in-Some.begin c.in_ok-parts.parts.0 c.in_ok-parts.parts.1 c.in_ok-parts.parts.2 c.row_behind-row.result c.args.names.now.items
    c.if-var.false c.in-Some.ensures c.in_ok-parts.ensures c.row_behind-row.ensures
