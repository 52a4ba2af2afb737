use Rattle.std.proofs.Common.{◌≡◌, ◌++◌, drop, map, []}
use Rattle.path_ends.specs.Said.{said, aliases_told}
use Rattle.path_ends.proofs.aliases.unit_aliases.Given as goal

abbrev pub invariant-rows : goal.invariant-rows
invariant-rows l =
    map said l.aliases.items ++ aliases_told l.grouping.items (drop l.row-index l.rows) ≡ aliases_told [] l.rows
