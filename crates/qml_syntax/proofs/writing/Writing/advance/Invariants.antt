use Rattle.std.proofs.Common.{◌≡◌, length}
use Rattle.qml_syntax.specs.WalkFlat.{next_of}
use Rattle.qml_syntax.proofs.writing.Writing.advance.Given as goal

abbrev pub invariant-loop-piece : goal.invariant-loop-piece
invariant-loop-piece l = next_of l.initial.self.0 l.initial.self.1 ≡ next_of l.self.0 l.self.1

abbrev pub decreases-loop-piece : goal.decreases-loop-piece
decreases-loop-piece l = length l.self.0
