use Rattle.std.proofs.Common.{◌≡◌, drop}
use Rattle.load_faults.specs.Faults.{first_from}
use Rattle.literal_faults.specs.Literals.{by_given, not_literal_row}
use Rattle.literal_faults.proofs.literals.tell_rows.Given as goal

-- what was told, and what is left, is all
abbrev pub invariant-rows : goal.invariant-rows
invariant-rows l =
    first_from l.best.fault (by_given (not_literal_row l.tree l.objects) (drop l.number l.rows) (drop l.number l.given)) ≡
    first_from l.fn.best.fault (by_given (not_literal_row l.tree l.objects) l.rows l.given)
