use Rattle.std.proofs.Common.{◌≡◌, ◌∙◌, sym, subst, Some, None}
use Rattle.evaluation.specs.Hearing.{heard, Answers}
use Rattle.tree_model.specs.Rules.{counted, model_in}
use Rattle.tree_settling.proofs.built_in.rows_of_model.Goals as goal

pub returns-in-Some : goal.returns-in-Some
returns-in-Some g c = λ names.
    let is : model_in c.args.model.now ≡ Some c.in-Some.m = sym c.model_in.ensures ∙ c.in-Some.is in
    rw is (c.rows_of_object.ensures names)

pub returns-in-None : goal.returns-in-None
returns-in-None g c = λ names.
    let is : model_in c.args.model.now ≡ None = sym c.model_in.ensures ∙ c.in-None.is in
    rw is (subst (λ n. Answers (heard names (g.V.View.seen c.args.view.now) (counted n)) c.args.reads.now.items c.args.reads.now.items c.counted.result) c.rows_held.ensures (c.counted.ensures names (g.V.View.seen c.args.view.now) c.args.reads.now.items))
