use Rattle.std.proofs.Common.{◌≡◌, [], ◌∷◌, length}
use Rattle.std.specs.Prelude.{reverse}
use Rattle.qml_syntax.specs.WalkFlat.{one, flat_from}
use Rattle.qml_syntax.proofs.writing.flat_of.Given as goal

abbrev pub invariant-loop-node : goal.invariant-loop-node
invariant-loop-node l = flat_from (reverse l.left) l.writing ≡ flat_from (reverse l.nodes) (one ∷ [], [])

abbrev pub decreases-loop-node : goal.decreases-loop-node
decreases-loop-node l = length l.left
