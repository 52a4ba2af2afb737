use Rattle.std.proofs.Common.{length, reverse}
use Rattle.unit_cycles.specs.Uses.{uses_at}
use Rattle.unit_cycles.proofs.ReachLemmas.{Going}
use Rattle.unit_cycles.proofs.reaching.reaches.Given as goal

-- so many documents were reached
abbrev pub invariant-documents : goal.invariant-documents
invariant-documents l = Going (uses_at l.uses) (length l.uses) l.goal l.from l.marks.keys (reverse l.todo.items) l.found l.counter
