use Rattle.std.proofs.Common.{◌≡◌, drop, map}
use Rattle.qml_types.specs.Members.{signal_of}
use Rattle.instance_names.specs.Names.{each_put, pair_of_signal}
use Rattle.instance_names.proofs.builtin.put_signals.Given as goal

abbrev pub invariant-signals : goal.invariant-signals
invariant-signals l = each_put l.names (map (pair_of_signal l.number) (map signal_of (drop l.signal-index l.signals))) ≡ each_put l.initial.names (map (pair_of_signal l.number) (map signal_of l.signals))
