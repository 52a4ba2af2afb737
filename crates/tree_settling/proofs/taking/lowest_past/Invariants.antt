use Rattle.std.proofs.Common.{◌≡◌, ◌<◌, ℕ}
use Rattle.evaluation.specs.declared.came.Came.TheVariants.{Past}
use Rattle.tree_settling.specs.Tables.{read_in}
use Rattle.tree_settling.proofs.taking.lowest_past.Given as goal

abbrev pub invariant-loop-i : goal.invariant-loop-i
invariant-loop-i l = (j : ℕ) → j < l.i → read_in l.cells l.table j ≡ Past → ⊥
