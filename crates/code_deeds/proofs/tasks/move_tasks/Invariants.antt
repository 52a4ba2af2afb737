use Rattle.std.proofs.Common.{◌≡◌, ◌++◌, reverse, vec_len}
use Rattle.code_deeds.proofs.tasks.move_tasks.Given as goal

abbrev pub invariant-tasks : goal.invariant-tasks
invariant-tasks l = l.some.items ++ reverse l.tasks.items ≡ l.initial.some.items ++ reverse l.initial.tasks.items

abbrev pub decreases-tasks : goal.decreases-tasks
decreases-tasks l = vec_len l.some
