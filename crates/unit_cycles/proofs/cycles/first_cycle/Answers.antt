use Rattle.std.proofs.Common.{sym, length}
use Rattle.unit_cycles.specs.Uses.{uses_at}
use Rattle.unit_cycles.proofs.RankLemmas.{no_cycle}
use Rattle.unit_cycles.proofs.cycles.first_cycle.Goals as goal

pub returns-then-descend : goal.returns-then-descend
returns-then-descend c =
    sym (no_cycle (uses_at c.args.uses.now) c.deref.result.now (length c.args.uses.now) (c.descend.ensures c.if-descend.true) c.args.order.now)
