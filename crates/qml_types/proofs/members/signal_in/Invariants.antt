use Rattle.std.proofs.Common.{◌≡◌, map, drop}
use Rattle.qml_types.specs.Members.{signal_named, signal_of}
use Rattle.qml_types.proofs.members.signal_in.Given as goal

abbrev pub invariant-signals : goal.invariant-signals
invariant-signals l = signal_named (map signal_of (drop l.signal-index l.signals)) l.name ≡ signal_named (map signal_of l.signals) l.name
