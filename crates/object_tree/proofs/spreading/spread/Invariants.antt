use Rattle.std.proofs.Common.{◌≡◌, ◌<◌, ◌≤◌, ◌+◌, ◌-◌, ℕ, Some, slice_get, vec_len, vec_capacity}
use Rattle.qml_base.specs.declared.numbers.ObjNo.{ObjNo}
use Rattle.object_tree.specs.Spreading.{Spreads, Covers, unmarked}
use Rattle.object_tree.proofs.spreading.spread.Given as goal

abbrev pub invariant-work : goal.invariant-work
invariant-work l = record {
  spreads : (o : ObjNo) → Spreads o l.initial.objects l.initial.doomed.items l.objects l.doomed.items;
  capacity : vec_capacity l.initial.doomed ≤ vec_capacity l.doomed;
  covered : (k : ℕ) (p : ObjNo) → k < l.i → slice_get l.doomed.items k ≡ Some p → Covers l.objects p;
}

abbrev pub decreases-work : goal.decreases-work
decreases-work l = unmarked l.objects + vec_len l.doomed - l.i
