use Rattle.std.proofs.Common.{◌≡◌, ◌++◌, ◌≤◌, take, drop}
use Rattle.tree_model.specs.Removing.{kept_of}
use Rattle.object_tree.proofs.removing.keep.Given as goal

abbrev pub invariant-objects : goal.invariant-objects
invariant-objects l = record {
  kept : take l.n l.objects ++ kept_of (drop l.i l.objects) ≡ kept_of l.initial.objects;
  few : l.n ≤ l.i;
}
