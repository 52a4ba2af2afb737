use Rattle.std.proofs.Common.{◌≡◌, drop, map, []}
use Rattle.alias_tables.specs.Ids.{no_ids, ids_added}
use Rattle.alias_tables.proofs.ids.component_ids.Given as goal

abbrev pub invariant-rows : goal.invariant-rows
invariant-rows l =
    ids_added l.roots l.grouping.items (drop l.row-index l.rows) l.tables.items ≡ ids_added l.roots [] l.rows (map no_ids l.roots)
