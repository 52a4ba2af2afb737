use Rattle.std.proofs.Common.{◌≡◌, drop}
use Rattle.load_faults.specs.Faults.{first_from}
use Rattle.property_faults.specs.Unknown.{by_rows}
use Rattle.property_faults.specs.ReadOnly.{read_only_row}
use Rattle.property_faults.proofs.read_only.tell_rows.Given as goal

-- what was told, and what is left, is all
abbrev pub invariant-rows : goal.invariant-rows
invariant-rows l =
    first_from l.best.fault (by_rows (read_only_row l.tree) (drop l.number l.rows) (drop l.number l.inside) (drop l.number l.given)) ≡
    first_from l.fn.best.fault (by_rows (read_only_row l.tree) l.rows l.inside l.given)
