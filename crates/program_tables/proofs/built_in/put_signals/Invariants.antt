use Rattle.std.proofs.Common.{◌≡◌, drop, map}
use Rattle.qml_types.specs.Members.{signal_of}
use Rattle.program_tables.specs.Putting.{put_all}
use Rattle.program_tables.specs.BuiltIn.{signal_entries}
use Rattle.program_tables.proofs.built_in.put_signals.Given as goal

abbrev pub invariant-signals : goal.invariant-signals
invariant-signals l = put_all l.names (signal_entries l.type_no l.index (map signal_of (drop l.index l.signals))) ≡ put_all l.fn.names (signal_entries l.type_no 0 (map signal_of l.signals))
