use Rattle.std.proofs.Common.{◌≡◌, drop}
use Rattle.std.specs.List.{find}
use Rattle.written_names.specs.Written.{is_signal_no}
use Rattle.written_names.proofs.signals.signal_in.Given as goal

abbrev pub invariant-rows : goal.invariant-rows
invariant-rows l = find (is_signal_no l.number) (drop l.row-index l.rows) ≡ find (is_signal_no l.number) l.rows
