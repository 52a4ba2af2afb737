use Rattle.std.proofs.Common.{◌≡◌, ◌++◌, drop}
use Rattle.machine_steps.specs.Telling.{changes_of}
use Rattle.machine_steps.proofs.telling.push_changes.Given as goal

abbrev pub invariant-cells : goal.invariant-cells
invariant-cells l = l.trace.items ++ changes_of l.tree (drop l.c-index l.cells) ≡ l.fn.trace.items ++ changes_of l.tree l.cells
