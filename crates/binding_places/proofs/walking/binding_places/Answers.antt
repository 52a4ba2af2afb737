use Rattle.std.proofs.Common.{reverse}
use Rattle.js_locals.specs.Laid.{laid}
use Rattle.binding_places.proofs.WalkLemmas.{begins}
use Rattle.binding_places.proofs.walking.binding_places.Goals as goal

pub rows-init : goal.rows-init
rows-init c =
    begins (laid c.args.tree.now) c.args.at c.first_inside.result c.new-pending.result.items (reverse c.push_row.new.pending.items) c.new-found.result.items
    c.add_own.new.found.items c.new-found.ensures.items c.in_ok-add_own.ensures c.first_inside.ensures c.new-pending.ensures.items c.in_ok-push_row.ensures
