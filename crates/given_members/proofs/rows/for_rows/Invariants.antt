use Rattle.std.proofs.Common.{◌≡◌, ◌++◌, drop, map, []}
use Rattle.value_purposes.specs.Tables.{names_in, handlers_in, ends_in, targets_in}
use Rattle.given_members.specs.Paths.{names_in_path}
use Rattle.given_members.specs.Rows.{for_rows}
use Rattle.given_members.proofs.rows.for_rows.Given as goal

abbrev pub invariant-rows : goal.invariant-rows
invariant-rows l =
    l.given.items ++
    for_rows (names_in l.tables) (handlers_in l.tables) (ends_in l.tables) (targets_in l.tables) l.documents l.document (map names_in_path l.paths.items) (drop l.row-index l.rows) ≡
    for_rows (names_in l.tables) (handlers_in l.tables) (ends_in l.tables) (targets_in l.tables) l.documents l.document [] l.rows
