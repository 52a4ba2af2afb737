use Rattle.std.proofs.Common.{◌≡◌, ◌++◌, drop}
use Rattle.target_tables.specs.Seen.{targets_from}
use Rattle.target_tables.proofs.targets.unit_targets.Given as goal

abbrev pub invariant-objects : goal.invariant-objects
invariant-objects l =
    l.objects.items ++ targets_from l.names.units.items l.ids l.owners l.document l.tree l.object (drop l.object l.firsts) ≡
    targets_from l.names.units.items l.ids l.owners l.document l.tree 0 l.firsts
