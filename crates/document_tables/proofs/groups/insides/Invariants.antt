use Rattle.std.proofs.Common.{◌≡◌, ◌++◌, [], drop}
use Rattle.document_tables.specs.Groups.{insides}
use Rattle.document_tables.proofs.groups.insides.Given as goal

-- what was told, and what is left, is all
abbrev pub invariant-rows : goal.invariant-rows
invariant-rows l = l.insides.items ++ insides l.grouping.items (drop l.row-index l.rows) ≡ insides [] l.rows
