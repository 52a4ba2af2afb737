use Rattle.std.proofs.Common.{◌≡◌, ◌++◌, map, take}
use Rattle.declared_signals.specs.Told.{signal_at}
use Rattle.handled_signals.proofs.signals.put_declared.Given as goal

-- those so far are put
abbrev pub invariant-declared : goal.invariant-declared
invariant-declared l = l.list.items ≡ l.fn.list.items ++ map (signal_at l.rows l.cells l.signals) (take l.signal-index l.declared)
