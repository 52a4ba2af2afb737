use Rattle.std.proofs.Common.{◌+◌}
use Rattle.tree_model.specs.Rules.{cell_at, shown_where_set}
use Rattle.tree_settling.proofs.AnswerLemmas.{answers_behind}
use Rattle.tree_settling.proofs.built_in.shown.Goals as goal

pub returns-in-Ok : goal.returns-in-Ok
returns-in-Ok g c = λ names. answers_behind names (g.V.View.seen c.args.view.now) (cell_at c.args.object c.args.place) (shown_where_set c.args.object (c.args.place + 1)) c.in-Ok.switch.now c.args.reads.now.items c.look.new.reads.items c.where_set.new.reads.items c.where_set.result c.in-Ok.ensures.value c.in-Ok.ensures.noted (c.where_set.ensures names)

pub returns-in-Err : goal.returns-in-Err
returns-in-Err g c = λ names. c.in-Err.ensures.ends names (shown_where_set c.args.object (c.args.place + 1))
