use Rattle.std.proofs.Common.{◌≡◌, drop}
use Rattle.std.specs.List.{flat_map}
use Rattle.qml_types.specs.Members.{signal_named, signals_of, own_signals}
use Rattle.qml_types.proofs.members.find_signal.Given as goal

abbrev pub invariant-bases : goal.invariant-bases
invariant-bases l = signal_named (flat_map own_signals (drop l.base-index l.base-items)) l.name ≡ signal_named (signals_of l.fn.type_no) l.name
