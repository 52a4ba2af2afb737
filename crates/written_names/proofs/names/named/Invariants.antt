use Rattle.std.proofs.Common.{◌≡◌, drop}
use Rattle.std.specs.List.{find}
use Rattle.instance_plans.specs.Plans.{is_named}
use Rattle.written_names.proofs.names.named.Given as goal

abbrev pub invariant-rows : goal.invariant-rows
invariant-rows l = find (is_named l.name) (drop l.row-index l.rows) ≡ find (is_named l.name) l.rows
