use Rattle.std.proofs.Common.{◌≡◌, ◌+◌, length}
use Rattle.change_targets.specs.Targets.{target_at}
use Rattle.change_targets.proofs.walking.target_of.Given as goal

abbrev pub invariant-layers : goal.invariant-layers
invariant-layers l =
    target_at l.left l.names.units.items l.targets l.document l.object ≡
    target_at (length l.names.units.items + 1) l.names.units.items l.targets l.fn.document l.fn.object

abbrev pub decreases-layers : goal.decreases-layers
decreases-layers l = l.left
