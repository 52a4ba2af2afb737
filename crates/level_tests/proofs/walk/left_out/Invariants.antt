use Rattle.std.proofs.Common.{◌<◌, ◌≡◌, All, length, map, sum_by}
use Rattle.qml_syntax.specs.Opened.{item_at}
use Rattle.qml_syntax.specs.Starts.{nodes_of}
use Rattle.level_tests.proofs.walk.left_out.Given as goal

abbrev pub invariant-loop-at : goal.invariant-loop-at
invariant-loop-at l = (sum_by nodes_of (map (item_at l.tree) l.waiting.items) ≡ l.left) × All (λ p. p < length l.tree) l.waiting.items

abbrev pub decreases-loop-at : goal.decreases-loop-at
decreases-loop-at l = l.left
