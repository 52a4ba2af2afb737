use Rattle.std.proofs.Common.{◌≡◌, length, take}
use Rattle.qml_text.proofs.store.widen.Given as goal

abbrev pub invariant-loop-at : goal.invariant-loop-at
invariant-loop-at l = (take l.at l.units ≡ take l.at l.bytes) × (length l.units ≡ length l.bytes)
