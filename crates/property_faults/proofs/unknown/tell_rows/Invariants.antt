use Rattle.std.proofs.Common.{◌≡◌, drop}
use Rattle.load_faults.specs.Faults.{first_from}
use Rattle.property_faults.specs.Unknown.{by_rows, unknown_row}
use Rattle.property_faults.proofs.unknown.tell_rows.Given as goal

-- what was told, and what is left, is all
abbrev pub invariant-rows : goal.invariant-rows
invariant-rows l =
    first_from l.best.fault (by_rows (unknown_row l.names.units.items l.document l.tree) (drop l.number l.rows) (drop l.number l.inside) (drop l.number l.given)) ≡
    first_from l.fn.best.fault (by_rows (unknown_row l.names.units.items l.document l.tree) l.rows l.inside l.given)
