use Rattle.std.proofs.Common.{◌∙◌, ap, List}
use Rattle.js_meaning.specs.Locals.{Units}
use Rattle.js_meaning.specs.Eval.{begun_body}
use Rattle.js_meaning.specs.Resuming.{next_action}
use Rattle.machine_bodies.specs.Doing.{sight_of}
use Rattle.live_tree.specs.Live.{Live}
use Rattle.live_bodies.proofs.bodies.begun.Goals as goal

pub returns : goal.returns
returns g c =
    c.in_ok-acted.ensures
    ∙ ap (λ (t : Live). next_action (sight_of t) (begun_body (g.C.Code.meaning c.args.code.now) c.args.home c.args.body c.in_ok-given.given.items c.args.args.items)) c.of-view.ensures.tree
    ∙ ap (λ (ns : List Units). next_action (sight_of c.args.tree.now) (begun_body (g.C.Code.meaning c.args.code.now) c.args.home c.args.body ns c.args.args.items)) c.in_ok-given.ensures
