use Rattle.std.proofs.Common.{◌≡◌, ◌+◌, length}
use Rattle.program_tables.specs.Defaults.{default_at}
use Rattle.program_tables.proofs.names.Names.default_property.Given as goal

abbrev pub invariant-layers : goal.invariant-layers
invariant-layers l =
    default_at l.left l.self.units.items l.document l.object ≡
    default_at (length l.self.units.items + 1) l.self.units.items l.fn.document l.fn.object

abbrev pub decreases-layers : goal.decreases-layers
decreases-layers l = l.left
