use Rattle.std.proofs.Common.{◌≡◌, ◌++◌, drop}
use Rattle.std.specs.Prelude.{reverse}
use Rattle.qml_syntax.proofs.deep.Descent.add.Given as goal

abbrev pub invariant-loop-task : goal.invariant-loop-task
invariant-loop-task l = (reverse (drop l.task-index l.tasks) ++ l.self.0 ≡ reverse l.tasks ++ l.initial.self.0) × (l.self.1 ≡ l.initial.self.1)
