use Rattle.std.proofs.Common.{refl}
use Rattle.unit_rows.specs.Seen.{all_seen}
use Rattle.object_plans.proofs.PlanLemmas.{makes_so}
use Rattle.object_plans.proofs.planning.plan_object.Goals as goal

pub returns-clause-makes : goal.returns-clause-makes
returns-clause-makes c =
    makes_so c.in_ok-tables.tables (all_seen c.args.units.now) c.args.shapes.now.known c.args.order c.args.delegates.now
    (record { planned = c.in_ok-tables.tables.objects; objects = c.in-Ok.objects; shapes = c.in-Ok.shapes })
    c.in_ok-tables.ensures.planned c.in-Ok.ensures refl
