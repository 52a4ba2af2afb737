use Rattle.std.proofs.Common.{◌≡◌, ◌+◌, length, drop}
use Rattle.js_meaning.specs.Methods.{found_part}
use Rattle.js_methods.proofs.searching.found_from.Given as goal

abbrev pub invariant-places : goal.invariant-places
invariant-places l = (found_part l.part l.rest l.at ≡ found_part l.part (drop l.fn.from l.units) l.fn.from) × (l.at + length l.rest ≡ length l.units)

abbrev pub decreases-places : goal.decreases-places
decreases-places l = length l.rest
