use Rattle.std.proofs.Common.{◌≡◌, ◌++◌, drop}
use Rattle.signal_dispatch.proofs.copying.values.Given as goal

abbrev pub invariant-values : goal.invariant-values
invariant-values l = l.copies.items ++ drop l.old-index l.values ≡ l.values
