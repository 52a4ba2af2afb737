use Rattle.std.proofs.Common.{◌∙◌, sym, reverse}
use Rattle.unit_cycles.proofs.ReachLemmas.{uses_on, rows_end}
use Rattle.unit_cycles.proofs.reaching.wait_for_all.Goals as goal

pub uses-preserved : goal.uses-preserved
uses-preserved c seen marks =
    let before = c.uses.invariant seen marks in
    let after = c.in_ok-wait_for.ensures seen before.0 in (
      after.0,
      uses_on seen (reverse c.uses.todo.items) (reverse c.wait_for.new.todo.items) c.args.uses.now c.uses.u-index c.uses-test.true after.1 ∙ before.1,
    )

pub returns : goal.returns
returns c seen marks =
    let before = c.uses.invariant seen marks in
    (before.0, sym (rows_end seen (reverse c.uses.todo.items) c.args.uses.now c.uses.u-index c.uses-test.false) ∙ before.1)
