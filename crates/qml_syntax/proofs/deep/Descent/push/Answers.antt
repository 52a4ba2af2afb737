use Rattle.std.proofs.Common.{arith}
use Rattle.std.specs.Prelude.{reverse}
use Rattle.std.proofs.lemmas.List.{length-reverse}
use Rattle.qml_syntax.proofs.WalkStandingLemmas.{depth_within}
use Rattle.qml_syntax.proofs.deep.Descent.push.Goals as goal

pub overflow_add-self : goal.overflow_add-self
overflow_add-self c =
    let items = c.self.inside.tasks.items in
    omega (arith, depth_within (reverse items), length-reverse items, c.self.invariant, c.self.inside.tasks.ok, c.self.inside.tasks.small)
