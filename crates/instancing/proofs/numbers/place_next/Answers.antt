use Rattle.std.proofs.Common.{◌≡◌, ◌≤◌, false, nat_eq, length, rules, arith}
use Rattle.unit_rows.specs.Seen.{all_seen}
use Rattle.instancing.specs.Frames.{opens, open_of, plan_so_far}
use Rattle.instancing.proofs.GrowthLemmas.{full_next}
use Rattle.instancing.proofs.numbers.place_next.Goals as goal

pub returns-then-len-work-clause-full : goal.returns-then-len-work-clause-full
returns-then-len-work-clause-full c =
    let other : nat_eq c.args.o c.args.frame.component ≡ false = search rules in
    let past : c.args.work.now.room ≤ length c.args.work.now.objects.items = omega (arith, c.len.ensures, c.args.work.now.objects.ok, c.if-len-work.true) in
    λ is. full_next (all_seen c.args.units.now) (opens c.args.work.now.frames.items) (open_of c.args.frame) c.args.o c.args.work.now.room (plan_so_far c.args.work.now) other past
