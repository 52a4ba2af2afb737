use Rattle.std.proofs.Common.{◌≡◌, ◌+◌, drop}
use Rattle.path_ends.specs.Said.{count_of}
use Rattle.path_ends.proofs.aliases.count_of.Given as goal

abbrev pub invariant-units : goal.invariant-units
invariant-units l = l.count + count_of (drop l.unit-index l.units) ≡ count_of l.units
