use Rattle.object_tree.proofs.KeepLemmas.{doomed_ascend}
use Rattle.object_tree.proofs.tree.Tree.list_doomed.Goals as goal

pub returns-clause-ascends : goal.returns-clause-ascends
returns-clause-ascends c = rw (c.list_condemned.ensures.numbers, c.as_slice.ensures.value) (doomed_ascend 0 c.self.inside.objects.items c.self.invariant.3)
