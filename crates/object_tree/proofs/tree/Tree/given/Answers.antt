use Rattle.std.proofs.Common.{subst}
use Rattle.object_tree.specs.Trees.{AllUpTo}
use Rattle.object_tree.proofs.tree.Tree.given.Goals as goal

pub returns-clause-above : goal.returns-clause-above
returns-clause-above c = subst (λ t. AllUpTo t.given t.objects) c.self.view_is c.self.invariant.4
