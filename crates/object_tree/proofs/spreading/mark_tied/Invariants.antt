use Rattle.std.proofs.Common.{◌≡◌, ◌≤◌, ℕ, true, Some, slice_get, vec_capacity}
use Rattle.qml_base.specs.declared.numbers.ObjNo.{ObjNo}
use Rattle.tree_model.specs.declared.cells.Object.{Object}
use Rattle.object_tree.specs.Links.{parent_by}
use Rattle.object_tree.specs.Spreading.{Spreads}
use Rattle.object_tree.proofs.spreading.mark_tied.Given as goal

abbrev pub invariant-tied : goal.invariant-tied
invariant-tied l = record {
  spreads : (o : ObjNo) → Spreads o l.initial.objects l.initial.doomed.items l.objects l.doomed.items;
  capacity : vec_capacity l.initial.doomed ≤ vec_capacity l.doomed;
  done : (j : ℕ) (y : Object) → l.at ≤ j → slice_get l.objects j ≡ Some y → parent_by l.tie y ≡ Some l.p → y.condemned ≡ true;
}

abbrev pub decreases-tied : goal.decreases-tied
decreases-tied l = l.at
