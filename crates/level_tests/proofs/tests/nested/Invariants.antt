use Rattle.std.proofs.Common.{◌≡◌, []}
use Rattle.qml_syntax.specs.Tree.{Expr}
use Rattle.qml_syntax.specs.Listed.{listed}
use Rattle.level_tests.proofs.tests.nested.Given as goal

abbrev pub invariant-loop : goal.invariant-loop
invariant-loop l = (e : Expr) × (listed e [] ≡ l.nodes)
