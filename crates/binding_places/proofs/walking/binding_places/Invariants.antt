use Rattle.std.proofs.Common.{◌≡◌, ◌++◌, map, reverse}
use Rattle.js_locals.specs.Laid.{laid}
use Rattle.binding_places.specs.InParts.{binding_seen, bindings_in, in_rows, nodes_left}
use Rattle.binding_places.proofs.walking.binding_places.Given as goal

-- what was found, with what is in the rows that are left, is all
abbrev pub invariant-rows : goal.invariant-rows
invariant-rows l =
    map (binding_seen (laid l.tree)) l.found.items ++ in_rows (laid l.tree) (reverse l.pending.items) ≡
    bindings_in ((laid l.tree).item l.at)

abbrev pub decreases-rows : goal.decreases-rows
decreases-rows l = nodes_left (laid l.tree) (reverse l.pending.items)
