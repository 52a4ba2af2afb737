use Rattle.std.proofs.Common.{◌≡◌, ◌++◌, ◌≤◌, drop, vec_len, vec_capacity}
use Rattle.tree_model.specs.Removing.{doomed_of}
use Rattle.object_tree.proofs.listing.list_condemned.Given as goal

abbrev pub invariant-objects : goal.invariant-objects
invariant-objects l = record {
  listed : l.numbers.items ++ doomed_of (drop l.i l.objects) ≡ doomed_of l.objects;
  few : vec_len l.numbers ≤ l.i;
  room : vec_capacity l.initial.numbers ≤ vec_capacity l.numbers;
}
