use Rattle.std.proofs.Common.{◌≡◌, ◌-◌, ◌≤◌, drop, reverse}
use Rattle.qml_syntax.specs.Starts.{standing}
use Rattle.qml_syntax.proofs.spans.Spans.back.Given as goal

abbrev pub invariant-loop : goal.invariant-loop
invariant-loop l = (l.start ≤ l.end) × (drop (l.count - l.counter) (standing (reverse l.self.nodes.items) l.start) ≡ drop l.count (standing (reverse l.self.nodes.items) l.end))
