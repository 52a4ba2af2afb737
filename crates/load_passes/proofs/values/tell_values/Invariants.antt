use Rattle.std.proofs.Common.{◌≡◌, drop}
use Rattle.load_faults.specs.Faults.{first_from}
use Rattle.load_passes.proofs.RowLemmas.{each_row}
use Rattle.load_passes.proofs.values.tell_values.Given as goal

-- what was told and what is left give what all give
abbrev pub invariant-rows : goal.invariant-rows
invariant-rows l = first_from l.best.fault (each_row (drop l.row-index l.rows)) ≡ first_from l.fn.best.fault (each_row l.rows)
