use Rattle.std.proofs.Common.{refl}
use Rattle.js_frames.proofs.EndLemmas.{evaluates}
use Rattle.js_subset.proofs.evaluating.eval_over.Goals as goal

pub returns-clause-answers : goal.returns-clause-answers
returns-clause-answers g c =
    evaluates (record { names = g.V.View.names c.args.view.now; view = g.V.View.seen c.args.view.now }) (g.C.Code.meaning c.args.code.now) (g.C.Code.tables c.args.code.now) (record { home = c.args.home; text = c.args.text; calls = 100 }) c.in-Some.tree.now c.place.result c.in-Ok.begun.0 c.in-Ok.begun.1 c.args.reads.now.items c.run_to_end.new.reads.items
    c.run_to_end.result (g.C.Code.texts c.args.code.now c.args.text) c.in-Some.ensures c.place.ensures refl c.in-Ok.ensures.starts c.run_to_end.ensures
