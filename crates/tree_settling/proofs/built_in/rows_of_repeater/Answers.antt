use Rattle.tree_model.specs.Rules.{cell_at, rows_of_model}
use Rattle.tree_settling.proofs.AnswerLemmas.{answers_behind}
use Rattle.tree_settling.proofs.built_in.rows_of_repeater.Goals as goal

pub returns-in-Ok : goal.returns-in-Ok
returns-in-Ok g c = λ names. answers_behind names (g.V.View.seen c.args.view.now) (cell_at c.args.object 13) (rows_of_model (g.N.Lookup.types c.args.lookup.now)) c.in-Ok.model.now c.args.reads.now.items c.look.new.reads.items c.rows_of_model.new.reads.items c.rows_of_model.result c.in-Ok.ensures.value c.in-Ok.ensures.noted (c.rows_of_model.ensures names)

pub returns-in-Err : goal.returns-in-Err
returns-in-Err g c = λ names. c.in-Err.ensures.ends names (rows_of_model (g.N.Lookup.types c.args.lookup.now))
