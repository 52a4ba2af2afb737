use Rattle.std.proofs.Common.{◌≡◌}
use Rattle.alias_faults.specs.Targets.{sought, target_seen}
use Rattle.alias_faults.proofs.targets.target_seen.Given as goal

abbrev pub invariant-components : goal.invariant-components
invariant-components l =
    sought l.left l.names.units.items l.ids l.owners l.document l.hidden l.root l.name ≡
    target_seen l.names.units.items l.ids l.owners l.document l.object l.name

abbrev pub decreases-components : goal.decreases-components
decreases-components l = l.left
