use Rattle.std.proofs.Common.{◌≡◌, ◌∙◌, ap, sym, length, arith}
use Rattle.tree_settling.specs.Tables.{world_of, turn_of}
use Rattle.tree_settling.proofs.SweepLemmas.{visit_right, swept_yes, swept_no}
use Rattle.tree_settling.proofs.StepLemmas.{visit_left, one_left}
use Rattle.tree_settling.proofs.sweeps.sweep.Goals as goal
use Rattle.tree_settling.proofs.sweeps.sweep.Goals.{then-branch, else-branch}

pub loop-k-preserved : goal.loop-k-preserved
loop-k-preserved g c =
    let world = world_of (g.N.Lookup.names c.args.lookup.now) (g.N.Lookup.types c.args.lookup.now) (g.R.Rules.asks c.args.rules.now) in
    let visits = rw c.loop-k.invariant.same at c.in_ok-visit.ensures.visits in
    let long : length c.visit.new.table ≡ length c.args.cells.now = omega arith in
    record {
      long = long;
      same = c.in_ok-visit.ensures.same ∙ c.loop-k.invariant.same;
      right = λ objects was. visit_right world objects c.args.cells.now c.loop-k.table c.turn-at.result c.in_ok-visit.field-0 c.visit.new.table visits (c.loop-k.invariant.right objects was);
      steps = (let before = c.loop-k.invariant.steps in let more = c.in_ok-visit.ensures.steps in omega arith);
      few =
          (let place : c.turn-at.result ≡ turn_of c.args.up (length c.loop-k.table) c.loop-k.k = c.turn-at.ensures.place ∙ ap (λ n. turn_of c.args.up n c.loop-k.k) (sym c.loop-k.invariant.long) in
          let next = visit_left world c.args.cells.now c.args.up c.loop-k.table c.visit.new.table c.turn-at.result c.loop-k.k c.in_ok-visit.field-0 visits (omega arith) place (omega arith) in
          let before = c.loop-k.invariant.few in
          let more = c.in_ok-visit.ensures.few in
          omega (arith, next, before, more));
      swept = elim c.if-branch.branch [
        | then-branch w ↦ rw w.progress-is (swept_yes world c.args.cells.now c.args.table.now c.args.up c.loop-k.k c.turn-at.result c.loop-k.progress c.loop-k.table c.visit.new.table c.loop-k.invariant.swept (rw w.if-branch.true at visits))
        | else-branch w ↦ rw w.progress-is (swept_no world c.args.cells.now c.args.table.now c.args.up c.loop-k.k c.turn-at.result c.loop-k.progress c.loop-k.table c.visit.new.table c.turn-at.ensures.place c.loop-k.invariant.swept (rw w.if-branch.false at visits))
      ];
    }

pub returns-in_err-visit-clause-few : goal.returns-in_err-visit-clause-few
returns-in_err-visit-clause-few g c =
    let place : c.turn-at.result ≡ turn_of c.args.up (length c.loop-k.table) c.loop-k.k = c.turn-at.ensures.place ∙ ap (λ n. turn_of c.args.up n c.loop-k.k) (sym c.loop-k.invariant.long) in
    let one = one_left c.args.up c.loop-k.table c.turn-at.result c.loop-k.k (omega arith) place in
    let before = c.loop-k.invariant.few in
    let more = c.in_err-visit.ensures.few in
    omega (arith, one, before, more)
