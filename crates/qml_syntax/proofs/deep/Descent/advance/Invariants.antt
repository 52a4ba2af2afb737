use Rattle.std.proofs.Common.{◌≡◌, length}
use Rattle.qml_syntax.specs.WalkStanding.{next_of}
use Rattle.qml_syntax.proofs.deep.Descent.advance.Given as goal

abbrev pub invariant-loop-depth : goal.invariant-loop-depth
invariant-loop-depth l = next_of l.initial.self.0 l.initial.self.1 ≡ next_of l.self.0 l.self.1

abbrev pub decreases-loop-depth : goal.decreases-loop-depth
decreases-loop-depth l = length l.self.0
