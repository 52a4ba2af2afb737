use Rattle.std.proofs.Common.{◌≡◌, ◌++◌, map, reverse, length}
use Rattle.document_rows.specs.Walk.{until_mark, task_of as task_of_place}
use Rattle.document_rows.proofs.walk.push_parts.Given as goal

-- the tasks with those of the parts that are left are all
abbrev pub invariant-parts : goal.invariant-parts
invariant-parts l =
    l.tasks.items ++ map (task_of_place l.tree l.what) (until_mark l.tree (reverse l.parts.items)) ≡
    l.fn.tasks.items ++ map (task_of_place l.tree l.what) (until_mark l.tree (reverse l.fn.parts.items))

abbrev pub decreases-parts : goal.decreases-parts
decreases-parts l = length l.parts.items
