use Rattle.std.proofs.Common.{◌≡◌, take}
use Rattle.handled_signals.proofs.signals.copied_names.Given as goal

-- those so far
abbrev pub invariant-names : goal.invariant-names
invariant-names l = l.copies ≡ take l.name-index l.names
