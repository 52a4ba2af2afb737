use Rattle.std.proofs.Common.{◌≡◌, drop, map, []}
use Rattle.target_tables.specs.Firsts.{none_given, firsts_added}
use Rattle.target_tables.proofs.firsts.first_targets.Given as goal

abbrev pub invariant-rows : goal.invariant-rows
invariant-rows l =
    firsts_added l.grouping.items (drop l.row-index l.rows) l.all.items ≡ firsts_added [] l.rows (map none_given l.owners)
