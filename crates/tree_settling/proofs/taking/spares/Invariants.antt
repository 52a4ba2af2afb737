use Rattle.std.proofs.Common.{◌≡◌, ◌++◌, drop}
use Rattle.tree_settling.specs.Tables.{spares_needed}
use Rattle.tree_settling.proofs.taking.spares.Given as goal

abbrev pub invariant-loop-i : goal.invariant-loop-i
invariant-loop-i l = l.spares.items ++ spares_needed (drop l.i l.cells) (drop l.i l.table) ≡ spares_needed l.cells l.table
