use Rattle.std.proofs.Common.{ℕ, List, ◌++◌, ◌<◌, ◌≤◌, ◌-◌, length}
use Rattle.qml_text.specs.Parts.{CutFrom}
use Rattle.qml_text.proofs.text.Text.split.Given as goal

abbrev pub invariant-loop-at : goal.invariant-loop-at
invariant-loop-at l = ((more : List (List ℕ)) → CutFrom l.by l.self l.from more → CutFrom l.by l.self 0 (l.parts.items ++ more)) × (l.from ≤ length l.self) × (0 < length l.by)

abbrev pub decreases-loop-at : goal.decreases-loop-at
decreases-loop-at l = length l.self - l.from
