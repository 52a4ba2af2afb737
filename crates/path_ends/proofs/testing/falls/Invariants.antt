use Rattle.std.proofs.Common.{◌≡◌, drop}
use Rattle.path_ends.specs.Said.{end_of}
use Rattle.path_ends.specs.Ends.{falls}
use Rattle.path_ends.proofs.testing.falls.Given as goal

abbrev pub invariant-names : goal.invariant-names
invariant-names l =
    falls l.names.units.items l.known l.limit (end_of l.end) (drop l.name-index l.path) ≡
    falls l.names.units.items l.known l.limit (end_of l.fn.start) l.path
