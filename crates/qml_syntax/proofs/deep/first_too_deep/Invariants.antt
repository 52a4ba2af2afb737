use Rattle.std.proofs.Common.{◌≡◌, drop}
use Rattle.qml_syntax.specs.Standing.{first_deep}
use Rattle.qml_syntax.proofs.deep.first_too_deep.Given as goal

abbrev pub invariant-loop-node : goal.invariant-loop-node
invariant-loop-node l = first_deep (drop l.node-index l.nodes) ≡ first_deep l.nodes
