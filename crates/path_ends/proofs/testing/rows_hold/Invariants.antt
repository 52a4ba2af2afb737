use Rattle.std.proofs.Common.{drop}
use Rattle.path_ends.specs.Known.{KnowsRows}
use Rattle.path_ends.proofs.testing.rows_hold.Given as goal

-- where what is left is known, all is
abbrev pub invariant-rows : goal.invariant-rows
invariant-rows l =
    KnowsRows l.names.units.items l.ids l.known l.limit l.document l.row (drop l.row l.rows) →
    KnowsRows l.names.units.items l.ids l.known l.limit l.document 0 l.rows
