use Rattle.std.proofs.Common.{◌≡◌, ◌+◌, length}
use Rattle.program_tables.specs.Types.{any_of, base_in}
use Rattle.program_tables.proofs.names.Names.is_a.Given as goal

abbrev pub invariant-types : goal.invariant-types
invariant-types l =
    any_of l.left l.self.units.items l.wanted l.base ≡
    any_of (length l.self.units.items + 1) l.self.units.items l.wanted (base_in l.self.units.items l.fn.document l.fn.object)

abbrev pub decreases-types : goal.decreases-types
decreases-types l = l.left
