use Rattle.std.proofs.Common.{◌≡◌, ◌<◌, length, arith, rules}
use Rattle.instance_plans.specs.Numbers.{planned_from}
use Rattle.unit_rows.specs.Seen.{all_seen}
use Rattle.instancing.specs.Stack.{plan_of}
use Rattle.instancing.proofs.GrowthLemmas.{one_at_least}
use Rattle.instancing.proofs.NumberLemmas.{are_numbered, are_owned}
use Rattle.instancing.proofs.numbers.plan_numbers.Goals as goal

pub returns-then-room-eq0-clause-full : goal.returns-then-room-eq0-clause-full
returns-then-room-eq0-clause-full c =
    let some = one_at_least (all_seen c.args.units.now) c.args.unit c.args.object c.args.first c.args.enclosing c.args.owner in
    let none : c.args.room ≡ 0 = omega (arith, c.if-room-eq0.true) in
    let most : c.args.room < length (planned_from (all_seen c.args.units.now) c.args.unit c.args.object c.args.enclosing c.args.owner c.args.first).objects = omega arith in
    λ is. most

pub returns-clause-numbered : goal.returns-clause-numbered
returns-clause-numbered c =
    let same : plan_of c.args.first c.run.new.work.objects.items c.run.new.work.instances.items ≡ planned_from (all_seen c.args.units.now) c.args.unit c.args.object c.args.enclosing c.args.owner c.args.first = search rules in
    are_numbered (all_seen c.args.units.now) c.args.unit c.args.object c.args.first c.args.enclosing c.args.owner c.run.new.work.objects.items c.run.new.work.instances.items same

pub returns-clause-owned : goal.returns-clause-owned
returns-clause-owned c =
    let same : plan_of c.args.first c.run.new.work.objects.items c.run.new.work.instances.items ≡ planned_from (all_seen c.args.units.now) c.args.unit c.args.object c.args.enclosing c.args.owner c.args.first = search rules in
    are_owned (all_seen c.args.units.now) c.args.unit c.args.object c.args.first c.args.enclosing c.args.owner c.run.new.work.objects.items c.run.new.work.instances.items same
