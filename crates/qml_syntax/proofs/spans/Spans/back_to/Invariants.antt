use Rattle.std.proofs.Common.{◌≡◌, ◌≤◌, reverse}
use Rattle.qml_syntax.specs.Starts.{standing}
use Rattle.qml_syntax.specs.Taken.{past}
use Rattle.qml_syntax.proofs.spans.Spans.back_to.Given as goal

abbrev pub invariant-loop-start : goal.invariant-loop-start
invariant-loop-start l = (l.start ≤ l.end) × (past l.edge (standing (reverse l.self.nodes.items) l.start) ≡ past l.edge (standing (reverse l.self.nodes.items) l.end))

abbrev pub decreases-loop-start : goal.decreases-loop-start
decreases-loop-start l = l.start
