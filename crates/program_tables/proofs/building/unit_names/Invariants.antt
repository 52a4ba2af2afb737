use Rattle.std.proofs.Common.{◌≡◌, drop, map, []}
use Rattle.program_tables.specs.Building.{nothing_declared, rows_added}
use Rattle.program_tables.proofs.building.unit_names.Given as goal

abbrev pub invariant-rows : goal.invariant-rows
invariant-rows l =
    rows_added l.number l.grouping.items (drop l.number l.rows) l.objects.items ≡ rows_added 0 [] l.rows (map nothing_declared l.bases)
