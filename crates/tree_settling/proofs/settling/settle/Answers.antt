use Rattle.std.proofs.Common.{◌≡◌, ◌≤◌, ◌+◌, ◌∙◌, ap, subst}
use Rattle.tree_settling.specs.Tables.{tree_of, loops_in}
use Rattle.tree_settling.specs.Steps.{active_bindings, sum_to}
use Rattle.tree_settling.proofs.StepLemmas.{begun_loops}
use Rattle.tree_settling.proofs.settling.settle.Goals as goal

pub returns-clause-few : goal.returns-clause-few
returns-clause-few g c =
    let same : loops_in c.as_mut_slice.result.now ≡ active_bindings (tree_of c.args.objects.now.objects c.args.cells.now) = ap loops_in c.as_mut_slice.ensures.value ∙ begun_loops c.args.objects.now.objects c.args.cells.now c.in_ok-table.table.items c.in_ok-table.ensures.begun in
    subst (λ n. c.settle_by.new.steps ≤ c.args.steps.now + sum_to n) same c.settle_by.ensures.few
