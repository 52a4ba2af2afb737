use Rattle.std.proofs.Common.{◌≡◌, subst}
use Rattle.std.specs.Prelude.{IfOk}
use Rattle.evaluation.specs.Evaluating.{evaluated}
use Rattle.evaluation.proofs.HearingLemmas.{hears_in_full}
use Rattle.tree_model.specs.Rules.{ask_of, converted}
use Rattle.tree_model.specs.Settling.{reading}
use Rattle.tree_settling.specs.Tables.{read_in, world_of}
use Rattle.tree_settling.proofs.evaluate.evaluate.Goals as goal

pub returns-clause-came : goal.returns-clause-came
returns-clause-came g c =
    let names = g.N.Lookup.names c.args.lookup.now in
    let types = g.N.Lookup.types c.args.lookup.now in
    let world = world_of names types (g.R.Rules.asks c.args.rules.now) in
    let r = reading c.args.cells.now (read_in c.args.cells.now c.args.table.now) in
    let ask = ask_of world c.args.cell.now.no.object c.args.binding.rule in
    let answers = rw (hears_in_full names r ask) at c.asked-answer.ensures.answers in
    let came = c.in_ok-came.ensures (evaluated names r ask) _ _ answers in
    subst (λ k. IfOk c.convert_came.result (λ o. o ≡ converted types c.args.cell.now.kind k)) came c.convert_came.ensures
