use Rattle.std.proofs.Common.{◌≡◌}
use Rattle.instance_plans.specs.Numbers.{Plan, inner_within}
use Rattle.unit_rows.specs.Seen.{all_seen}
use Rattle.instancing.specs.Stack.{resumed}
use Rattle.instancing.specs.Frames.{opens}
use Rattle.instancing.proofs.numbers.enter.Given as goal

abbrev pub invariant-documents : goal.invariant-documents
invariant-documents l = (plan : Plan) → resumed (all_seen l.units) (opens l.frames.items) (inner_within l.depth (all_seen l.units) l.of_type l.number plan) ≡ resumed (all_seen l.units) (opens l.fn.frames.items) (inner_within l.fn.depth (all_seen l.units) l.fn.of_type l.number plan)

abbrev pub decreases-documents : goal.decreases-documents
decreases-documents l = l.depth
