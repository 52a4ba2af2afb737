use Rattle.std.proofs.Common.{◌≡◌, drop}
use Rattle.path_meanings.specs.Reached.{along}
use Rattle.path_meanings.proofs.following.follow_all.Given as goal

abbrev pub invariant-names : goal.invariant-names
invariant-names l = along l.names.units.items l.known l.at (drop l.name-index l.path) ≡ along l.names.units.items l.known l.fn.from l.path
