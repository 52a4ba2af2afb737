use Rattle.std.proofs.Common.{◌≡◌, take}
use Rattle.std.specs.List.{flat_map}
use Rattle.handled_signals.specs.Handled.{signal_with}
use Rattle.handled_signals.proofs.signals.put_rows.Given as goal

-- what the names so far find
abbrev pub invariant-rows : goal.invariant-rows
invariant-rows l = l.list.items ≡ flat_map (signal_with l.handler) (take l.row-index l.rows)
