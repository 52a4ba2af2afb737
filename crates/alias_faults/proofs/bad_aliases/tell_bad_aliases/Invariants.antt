use Rattle.std.proofs.Common.{◌≡◌, drop}
use Rattle.load_faults.specs.Faults.{first_from}
use Rattle.alias_faults.specs.BadAliases.{bad_rows}
use Rattle.alias_faults.proofs.bad_aliases.tell_bad_aliases.Given as goal

-- what was told and what is left give what all give
abbrev pub invariant-rows : goal.invariant-rows
invariant-rows l =
    first_from l.best.fault (bad_rows l.known l.document l.row (drop l.row l.rows)) ≡
    first_from l.fn.best.fault (bad_rows l.known l.document 0 l.rows)
