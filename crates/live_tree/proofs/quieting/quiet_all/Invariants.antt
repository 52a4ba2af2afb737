use Rattle.std.proofs.Common.{◌≡◌, ◌++◌, map, take, drop, length}
use Rattle.tree_model.specs.Removing.{quiet}
use Rattle.live_tree.proofs.quieting.quiet_all.Given as goal

abbrev pub invariant-cells : goal.invariant-cells
invariant-cells l = record {
  done : take l.i l.store ++ map (quiet l.objects.objects) (drop l.i l.store) ≡ map (quiet l.objects.objects) l.initial.store;
  long : length l.store ≡ length l.initial.store;
}
