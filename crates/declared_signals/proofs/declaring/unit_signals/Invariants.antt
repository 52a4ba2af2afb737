use Rattle.std.proofs.Common.{drop}
use Rattle.declared_signals.proofs.LoopLemmas.{Declaring}
use Rattle.declared_signals.proofs.declaring.unit_signals.Given as goal

-- what is kept, with what the rows that are left declare, is all
abbrev pub invariant-rows : goal.invariant-rows
invariant-rows l = Declaring l.count l.number l.grouping.items (drop l.number l.rows) l.rows l.objects.items
