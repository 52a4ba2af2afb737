use Rattle.std.proofs.Common.{◌≡◌, ◌≤◌, ◌+◌, List}
use Rattle.tree_model.specs.declared.cells.Object.{Object}
use Rattle.tree_settling.specs.Tables.{AllBegun, IsRight, loops_in, world_of, tree_of}
use Rattle.tree_settling.specs.Steps.{sum_to}
use Rattle.tree_settling.proofs.sweeps.refresh.Given as goal

abbrev pub invariant-sweeping : goal.invariant-sweeping
invariant-sweeping g l = record {
  same : g.R.Rules.asks l.rules ≡ g.R.Rules.asks l.initial.rules;
  steps : l.initial.steps ≤ l.steps;
  few : l.steps + sum_to (loops_in l.table) ≤ l.initial.steps + sum_to (loops_in l.initial.table);
  right : (objects : List Object) → AllBegun objects l.cells l.initial.table → IsRight (world_of (g.N.Lookup.names l.lookup) (g.N.Lookup.types l.lookup) (g.R.Rules.asks l.initial.rules)) (tree_of objects l.cells) l.table;
}

abbrev pub decreases-sweeping : goal.decreases-sweeping
decreases-sweeping g l = loops_in l.table
