use Rattle.std.proofs.Common.{◌≡◌, ◌<◌, length}
use Rattle.qml_syntax.specs.Tree.{Expr}
use Rattle.qml_syntax.specs.Nodes.{of_expr}
use Rattle.qml_syntax.specs.Opened.{item_at}
use Rattle.level_tests.specs.Brackets.{bare}
use Rattle.level_tests.proofs.walk.inside_brackets.Given as goal

abbrev pub invariant-loop-found : goal.invariant-loop-found
invariant-loop-found l = (l.at < length l.tree) × ((e : Expr) → item_at l.tree l.from ≡ of_expr e → (d : Expr) × (bare e ≡ bare d) × (item_at l.tree l.at ≡ of_expr d))

abbrev pub decreases-loop-found : goal.decreases-loop-found
decreases-loop-found l = l.at
