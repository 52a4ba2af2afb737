use Rattle.std.proofs.Common.{◌≡◌, ◌∙◌, refl, rules, true, false, ◌<◌, length, arith}
use Rattle.tree_settling.specs.Tables.{loops_in, world_of, StillLoops}
use Rattle.tree_settling.proofs.SweepLemmas.{begun_right, at_rest, all_visited}
use Rattle.tree_settling.proofs.StepLemmas.{sum_falls}
use Rattle.tree_settling.proofs.sweeps.refresh.Goals as goal

pub sweeping-init : goal.sweeping-init
sweeping-init g c =
    let world = world_of (g.N.Lookup.names c.args.lookup.now) (g.N.Lookup.types c.args.lookup.now) (g.R.Rules.asks c.args.rules.now) in
    record {
      same = refl;
      steps = omega arith;
      few = omega arith;
      right = λ objects e. begun_right world objects c.args.cells.now c.args.table.now e;
    }

pub returns-then-not-branch-clause-fresh : goal.returns-then-not-branch-clause-fresh
returns-then-not-branch-clause-fresh g c =
    let world = world_of (g.N.Lookup.names c.args.lookup.now) (g.N.Lookup.types c.args.lookup.now) (g.R.Rules.asks c.args.rules.now) in
    let no : c.in_ok-sweep.field-0 ≡ false = search rules in
    let rests = rw (c.sweeping.invariant.same, no) at c.in_ok-sweep.ensures.sweeps in
    λ objects e i. rw rests.0 (at_rest world objects c.args.cells.now c.sweeping.table (c.sweeping.invariant.right objects e) (all_visited c.sweeping.up (λ j. StillLoops world c.args.cells.now c.sweeping.table j) (length c.args.cells.now) rests.1) i)

pub sweeping-preserved : goal.sweeping-preserved
sweeping-preserved g c =
    let right = rw c.sweeping.invariant.same at c.in_ok-sweep.ensures.right in
    record {
      same = c.in_ok-sweep.ensures.same ∙ c.sweeping.invariant.same;
      steps = (let before = c.sweeping.invariant.steps in let more = c.in_ok-sweep.ensures.steps in omega arith);
      few =
          (let yes : c.in_ok-sweep.field-0 ≡ true = search rules in
          let falls : loops_in c.sweep.new.table < loops_in c.sweeping.table = rw yes at c.in_ok-sweep.ensures.sweeps in
          let sum = sum_falls (loops_in c.sweep.new.table) (loops_in c.sweeping.table) falls in
          let before = c.sweeping.invariant.few in
          let more = c.in_ok-sweep.ensures.few in
          omega (arith, sum, before, more));
      right = λ objects e. right objects (c.sweeping.invariant.right objects e);
    }

pub returns-then-not-branch-clause-ready : goal.returns-then-not-branch-clause-ready
returns-then-not-branch-clause-ready g c =
    let no : c.in_ok-sweep.field-0 ≡ false = search rules in
    let rests = rw (c.sweeping.invariant.same, no) at c.in_ok-sweep.ensures.sweeps in
    λ objects e. rw rests.0 (c.sweeping.invariant.right objects e).ready
