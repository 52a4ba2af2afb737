use Rattle.std.proofs.Common.{◌≡◌, ◌++◌, drop}
use Rattle.own_handlers.proofs.handlers.copies.Given as goal

abbrev pub invariant-values : goal.invariant-values
invariant-values l = l.copies.items ++ drop l.value-index l.values ≡ l.values
