use Rattle.std.proofs.Common.{[], reverse}
use Rattle.code_deeds.specs.Left.{Keeps}
use Rattle.code_deeds.proofs.walk.gone_through.Given as goal

-- what was found and what is left
abbrev pub invariant-tasks : goal.invariant-tasks
invariant-tasks l =
    Keeps l.tree l.start [] l.walk.found.items (reverse l.fn.entries.items) (reverse l.walk.entries.items) (reverse l.fn.tasks.items) (reverse l.walk.tasks.items)
