use Rattle.std.proofs.Common.{rules, arith, ◌≡◌, count_by}
use Rattle.qml_model.specs.Settling.{is_bound}
use Rattle.first_tree.proofs.SweepLemmas.{begun, swept, deep_enough, at_rest}
use Rattle.first_tree.proofs.sweeps.refresh.Goals as goal

pub loop-init : goal.loop-init
loop-init g c = record {
  outcomes = begun c.args.contents.now c.args.table.now c.begin.new.table c.requires c.begin.ensures;
  steps = search rules;
}

pub returns-then-not-sweep-clause-outcomes : goal.returns-then-not-sweep-clause-outcomes
returns-then-not-sweep-clause-outcomes g c =
    at_rest c.args.contents.now c.loop.counter c.loop.table c.sweep.new.table (omega arith) c.sweep.ensures.outcomes (c.sweep.ensures.same (search rules)) c.loop.invariant.outcomes

pub loop-preserved : goal.loop-preserved
loop-preserved g c = record {
  outcomes = swept c.args.contents.now c.loop.counter c.loop.table c.sweep.new.table (omega arith) c.sweep.ensures.outcomes c.loop.invariant.outcomes;
  steps = omega arith;
}

pub returns-clause-outcomes : goal.returns-clause-outcomes
returns-clause-outcomes g c =
    let between = swept c.args.contents.now c.loop.counter c.loop.table c.sweep-2.new.table (omega arith) c.sweep-2.ensures.outcomes c.loop.invariant.outcomes in
    let all : c.loop.counter ≡ count_by is_bound c.args.contents.now = omega arith in
    deep_enough c.args.contents.now c.sweep-2.new.table (rw all at between)
