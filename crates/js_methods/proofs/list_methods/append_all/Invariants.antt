use Rattle.std.proofs.Common.{◌≡◌, ◌++◌, length}
use Rattle.js_meaning.specs.Methods.{flattened}
use Rattle.js_methods.proofs.list_methods.append_all.Given as goal

abbrev pub invariant-values : goal.invariant-values
invariant-values l = l.copies.items ++ flattened l.rest ≡ l.fn.copies.items ++ flattened l.values

abbrev pub decreases-values : goal.decreases-values
decreases-values l = length l.rest
