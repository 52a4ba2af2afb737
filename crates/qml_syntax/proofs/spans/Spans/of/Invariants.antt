use Rattle.std.proofs.Common.{◌≡◌, ◌-◌, length}
use Rattle.qml_syntax.specs.Starts.{Started}
use Rattle.qml_syntax.proofs.spans.Spans.of.Given as goal

abbrev pub invariant-loop-spans : goal.invariant-loop-spans
invariant-loop-spans l = (l.spans.nodes ≡ l.fn.nodes) × Started l.spans.nodes.items l.spans.starts.items

abbrev pub decreases-loop-spans : goal.decreases-loop-spans
decreases-loop-spans l = length l.spans.nodes.items - length l.spans.starts.items
