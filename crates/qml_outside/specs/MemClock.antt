-- What a clock in memory gave.
use Rattle.std.specs.Prelude.{ℕ, List}
use Rattle.qml_outside.specs.declared.clocks.MemClock.{MemClock}
use Rattle.qml_outside.specs.Readings.{first_readings}

-- the readings that the clock gave, oldest first
abbrev pub given_by : {L : Type 0} → MemClock L → List ℕ
given_by clock = first_readings clock.readings.items clock.given
