use Rattle.std.proofs.Common.{◌≡◌, ◌+◌, length, drop}
use Rattle.js_meaning.specs.Methods.{found_value}
use Rattle.js_methods.proofs.searching.value_from.Given as goal

abbrev pub invariant-values : goal.invariant-values
invariant-values l = (found_value l.sought l.rest l.at ≡ found_value l.sought (drop l.fn.from l.values) l.fn.from) × (l.at + length l.rest ≡ length l.values)

abbrev pub decreases-values : goal.decreases-values
decreases-values l = length l.rest
