use Rattle.std.proofs.Common.{◌≡◌, drop}
use Rattle.instance_plans.specs.Numbers.{planned_at}
use Rattle.signal_dispatch.proofs.live.written_at.Given as goal

abbrev pub invariant-written : goal.invariant-written
invariant-written l = planned_at (drop l.x-index l.written) l.o.0 ≡ planned_at l.written l.o.0
