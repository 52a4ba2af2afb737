use Rattle.tree_model.specs.Rules.{value}
use Rattle.tree_settling.proofs.AnswerLemmas.{answers_behind}
use Rattle.tree_settling.proofs.built_in.value_of.Goals as goal

pub returns-in-Ok : goal.returns-in-Ok
returns-in-Ok g c = λ names. answers_behind names (g.V.View.seen c.args.view.now) c.args.c value c.in-Ok.v.now c.args.reads.now.items c.look.new.reads.items c.look.new.reads.items c.copied.result c.in-Ok.ensures.value c.in-Ok.ensures.noted (c.copied.ensures names (g.V.View.seen c.args.view.now) c.look.new.reads.items)

pub returns-in-Err : goal.returns-in-Err
returns-in-Err g c = λ names. c.in-Err.ensures.ends names value
