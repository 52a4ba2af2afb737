use Rattle.std.proofs.Common.{reverse}
use Rattle.js_locals.specs.Laid.{laid}
use Rattle.binding_places.proofs.WalkLemmas.{walks}
use Rattle.binding_places.proofs.walking.walked.Goals as goal

pub returns : goal.returns
returns c =
    walks (laid c.args.tree.now) c.args.at c.row_behind-behind.result c.first_inside-inside.result (reverse c.args.pending.now.items)
    (reverse c.push_row.new.pending.items) (reverse c.push_row-2.new.pending.items) c.args.found.now.items c.add_own.new.found.items
    c.in_ok-add_own.ensures c.row_behind-behind.ensures c.in_ok-push_row.ensures c.first_inside-inside.ensures c.in_ok-push_row-2.ensures
