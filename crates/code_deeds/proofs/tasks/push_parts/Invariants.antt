use Rattle.std.proofs.Common.{◌≡◌, ◌++◌, length, reverse}
use Rattle.code_deeds.specs.Tasks.{part_tasks}
use Rattle.code_deeds.proofs.tasks.push_parts.Given as goal

abbrev pub invariant-parts : goal.invariant-parts
invariant-parts l = part_tasks l.left ++ reverse l.tasks.items ≡ part_tasks l.parts ++ reverse l.initial.tasks.items

abbrev pub decreases-parts : goal.decreases-parts
decreases-parts l = length l.left
