use Rattle.std.proofs.Common.{◌≡◌, take, map}
use Rattle.target_tables.specs.Firsts.{none_given}
use Rattle.target_tables.proofs.firsts.none_given.Given as goal

abbrev pub invariant-objects : goal.invariant-objects
invariant-objects l = l.all.items ≡ map none_given (take l._owner-index l.owners)
