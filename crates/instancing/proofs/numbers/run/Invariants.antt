use Rattle.std.proofs.Common.{◌≡◌, ◌≤◌, length}
use Rattle.unit_rows.specs.Seen.{all_seen}
use Rattle.instancing.specs.Frames.{planned_now}
use Rattle.instancing.proofs.numbers.run.Given as goal

abbrev pub invariant-frames : goal.invariant-frames
invariant-frames l = record {
  same : planned_now (all_seen l.units) l.work ≡ planned_now (all_seen l.units) l.initial.work;
  first : l.work.first ≡ l.initial.work.first;
  room : l.work.room ≡ l.initial.work.room;
  few : length l.initial.work.objects.items ≤ l.initial.work.room → length l.work.objects.items ≤ l.initial.work.room;
}
