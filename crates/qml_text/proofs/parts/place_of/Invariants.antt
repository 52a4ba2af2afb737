use Rattle.std.proofs.Common.{ℕ, ◌<◌, ◌≤◌, ◌+◌, ◌-◌}
use Rattle.qml_text.specs.Parts.{StandsAt}
use Rattle.qml_text.proofs.parts.place_of.Given as goal

abbrev pub invariant-loop-at : goal.invariant-loop-at
invariant-loop-at l = (l.fn.from ≤ l.at) × ((k : ℕ) → l.fn.from ≤ k → k < l.at → ¬ (StandsAt l.part l.text k))

abbrev pub decreases-loop-at : goal.decreases-loop-at
decreases-loop-at l = l.last + 1 - l.at
