use Rattle.document_rows.proofs.StepLemmas.{Stands}
use Rattle.document_rows.proofs.walk.document_rows.Given as goal

-- what was told, with what the tasks stand for, is all
abbrev pub invariant-tasks : goal.invariant-tasks
invariant-tasks l = Stands l.tree l.rows.objects.items l.rows.members.items l.tasks.items
