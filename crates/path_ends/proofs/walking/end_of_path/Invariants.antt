use Rattle.std.proofs.Common.{◌≡◌, drop}
use Rattle.path_ends.specs.Said.{end_of}
use Rattle.path_ends.specs.Ends.{walked}
use Rattle.path_ends.proofs.walking.end_of_path.Given as goal

abbrev pub invariant-names : goal.invariant-names
invariant-names l =
    walked l.names.units.items l.known (end_of l.end) (drop l.name-index l.path) ≡
    walked l.names.units.items l.known (end_of l.fn.start) l.path
