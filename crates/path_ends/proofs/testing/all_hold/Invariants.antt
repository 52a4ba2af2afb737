use Rattle.std.proofs.Common.{drop}
use Rattle.path_ends.specs.Known.{KnowsUnits}
use Rattle.path_ends.proofs.testing.all_hold.Given as goal

-- where what is left is known, all is
abbrev pub invariant-units : goal.invariant-units
invariant-units l =
    KnowsUnits l.names.units.items l.ids l.known l.limit l.document (drop l.document l.aliases) →
    KnowsUnits l.names.units.items l.ids l.known l.limit 0 l.aliases
