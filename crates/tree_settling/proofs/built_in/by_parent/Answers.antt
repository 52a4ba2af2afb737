use Rattle.tree_model.specs.Rules.{cell_at, shown_by_parent}
use Rattle.tree_settling.proofs.AnswerLemmas.{answers_behind}
use Rattle.tree_settling.proofs.built_in.by_parent.Goals as goal

pub returns-in-Ok : goal.returns-in-Ok
returns-in-Ok g c = λ names. answers_behind names (g.V.View.seen c.args.view.now) (cell_at c.args.object 12) (shown_by_parent c.args.place) c.in-Ok.parent.now c.args.reads.now.items c.look.new.reads.items c.of_parent.new.reads.items c.of_parent.result c.in-Ok.ensures.value c.in-Ok.ensures.noted (c.of_parent.ensures names)

pub returns-in-Err : goal.returns-in-Err
returns-in-Err g c = λ names. c.in-Err.ensures.ends names (shown_by_parent c.args.place)
