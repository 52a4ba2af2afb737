use Rattle.std.proofs.Common.{◌≡◌, drop}
use Rattle.load_faults.specs.Faults.{first_from}
use Rattle.alias_faults.specs.Targets.{bad_targets_of}
use Rattle.alias_faults.proofs.targets.tell_bad_targets.Given as goal

-- what was told and what is left give what all give
abbrev pub invariant-rows : goal.invariant-rows
invariant-rows l =
    first_from l.best.fault (bad_targets_of l.names.units.items l.ids l.owners l.document (drop l.row-index l.rows)) ≡
    first_from l.fn.best.fault (bad_targets_of l.names.units.items l.ids l.owners l.document l.rows)
