use Rattle.std.proofs.Common.{◌≡◌, ◌++◌, drop}
use Rattle.signal_dispatch.proofs.copying.texts.Given as goal

abbrev pub invariant-texts : goal.invariant-texts
invariant-texts l = l.copies.items ++ drop l.old-index l.texts ≡ l.texts
