use Rattle.std.proofs.Common.{subst}
use Rattle.evaluation.specs.Hearing.{heard, Answers}
use Rattle.tree_model.specs.Rules.{counted, rows_asked}
use Rattle.tree_settling.proofs.AnswerLemmas.{answers_behind}
use Rattle.tree_settling.proofs.built_in.rows_in.Goals as goal

pub returns-in-Ok : goal.returns-in-Ok
returns-in-Ok g c = λ names. answers_behind names (g.V.View.seen c.args.view.now) c.args.c rows_asked c.in-Ok.rows.now c.args.reads.now.items c.look.new.reads.items c.look.new.reads.items c.counted.result c.in-Ok.ensures.value c.in-Ok.ensures.noted (subst (λ n. Answers (heard names (g.V.View.seen c.args.view.now) (counted n)) c.look.new.reads.items c.look.new.reads.items c.counted.result) c.rows_held.ensures (c.counted.ensures names (g.V.View.seen c.args.view.now) c.look.new.reads.items))

pub returns-in-Err : goal.returns-in-Err
returns-in-Err g c = λ names. c.in-Err.ensures.ends names rows_asked
