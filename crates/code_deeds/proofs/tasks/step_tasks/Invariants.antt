use Rattle.std.proofs.Common.{◌≡◌, ◌++◌, drop}
use Rattle.code_deeds.specs.Forms.{node_at}
use Rattle.code_deeds.specs.Tasks.{step_tasks, callee_by}
use Rattle.code_deeds.proofs.tasks.step_tasks.Given as goal

abbrev pub invariant-steps : goal.invariant-steps
invariant-steps l =
    l.tasks.items ++ step_tasks l.tree l.bound l.callee (drop l.step-index l.steps) ≡
    l.initial.tasks.items ++ step_tasks l.tree l.bound (callee_by l.value (node_at l.tree l.value)) l.steps
