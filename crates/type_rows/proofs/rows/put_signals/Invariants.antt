use Rattle.std.proofs.Common.{◌≡◌, ◌++◌, drop, map}
use Rattle.qml_types.specs.Members.{signal_of}
use Rattle.type_rows.specs.Rows.{row_of_signal}
use Rattle.type_rows.proofs.rows.put_signals.Given as goal

abbrev pub invariant-signals : goal.invariant-signals
invariant-signals l = l.rows ++ map row_of_signal (map signal_of (drop l.signal-index l.signals)) ≡ l.initial.rows ++ map row_of_signal (map signal_of l.signals)
