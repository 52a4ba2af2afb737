use Rattle.std.proofs.Common.{◌≡◌, length, int_lt}
use Rattle.js_meaning.specs.Methods.{best_of}
use Rattle.js_methods.proofs.mathematics.greatest_of.Given as goal

abbrev pub invariant-values : goal.invariant-values
invariant-values l = best_of (λ a b. int_lt b a) l.greatest l.rest ≡ best_of (λ a b. int_lt b a) l.fn.first l.values

abbrev pub decreases-values : goal.decreases-values
decreases-values l = length l.rest
