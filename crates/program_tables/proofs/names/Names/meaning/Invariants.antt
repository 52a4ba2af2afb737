use Rattle.std.proofs.Common.{◌≡◌, ◌+◌, length}
use Rattle.program_tables.specs.Walk.{found_at}
use Rattle.program_tables.proofs.WalkLemmas.{joined}
use Rattle.program_tables.proofs.names.Names.meaning.Given as goal

abbrev pub invariant-layers : goal.invariant-layers
invariant-layers l =
    joined l.left l.self.units.items l.document l.object l.name l.found ≡
    found_at (length l.self.units.items + 1) l.self.units.items l.fn.document l.fn.object l.name

abbrev pub decreases-layers : goal.decreases-layers
decreases-layers l = l.left
