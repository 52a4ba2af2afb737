use Rattle.std.proofs.Common.{◌≡◌, map, take}
use Rattle.given_handlers.specs.Given.{row_of_signal}
use Rattle.given_handlers.proofs.handlers.for_signals.Given as goal

-- one for each so far
abbrev pub invariant-signals : goal.invariant-signals
invariant-signals l = l.rows ≡ map (row_of_signal l.body) (take l.signal-index l.signals)
