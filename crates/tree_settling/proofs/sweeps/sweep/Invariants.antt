use Rattle.std.proofs.Common.{◌≡◌, ◌≤◌, ◌+◌, List, length}
use Rattle.tree_model.specs.declared.cells.Object.{Object}
use Rattle.tree_settling.specs.Tables.{IsRight, Swept, loops_in, world_of, tree_of}
use Rattle.tree_settling.specs.Steps.{loops_left}
use Rattle.tree_settling.proofs.sweeps.sweep.Given as goal

abbrev pub invariant-loop-k : goal.invariant-loop-k
invariant-loop-k g l = record {
  long : length l.table ≡ length l.cells;
  same : g.R.Rules.asks l.rules ≡ g.R.Rules.asks l.initial.rules;
  right : (objects : List Object) → IsRight (world_of (g.N.Lookup.names l.lookup) (g.N.Lookup.types l.lookup) (g.R.Rules.asks l.initial.rules)) (tree_of objects l.cells) l.initial.table → IsRight (world_of (g.N.Lookup.names l.lookup) (g.N.Lookup.types l.lookup) (g.R.Rules.asks l.initial.rules)) (tree_of objects l.cells) l.table;
  steps : l.initial.steps ≤ l.steps;
  few : l.steps + loops_left l.up l.k l.table ≤ l.initial.steps + loops_in l.initial.table;
  swept : Swept (world_of (g.N.Lookup.names l.lookup) (g.N.Lookup.types l.lookup) (g.R.Rules.asks l.initial.rules)) l.cells l.initial.table l.up l.k l.progress l.table;
}
