use Rattle.std.proofs.Common.{◌≡◌, ◌+◌, ◌≤◌}
use Rattle.qml_syntax.specs.Places.{part_at}
use Rattle.value_reading.specs.FirstTokens.{place_in}
use Rattle.value_reading.proofs.descending.first_token.Given as goal

-- the first token stays, and each step goes down
abbrev pub invariant-down : goal.invariant-down
invariant-down l = (place_in (part_at l.tree l.here) ≡ place_in (part_at l.tree l.at)) × (l.here + l.done ≤ l.at)
