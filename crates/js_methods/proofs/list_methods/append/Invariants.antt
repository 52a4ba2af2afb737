use Rattle.std.proofs.Common.{◌≡◌, ◌++◌, length}
use Rattle.js_methods.proofs.list_methods.append.Given as goal

abbrev pub invariant-values : goal.invariant-values
invariant-values l = l.copies.items ++ l.rest ≡ l.fn.copies.items ++ l.values

abbrev pub decreases-values : goal.decreases-values
decreases-values l = length l.rest
