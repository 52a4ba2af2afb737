use Rattle.std.proofs.Common.{◌∙◌, ap}
use Rattle.js_meaning.specs.Resuming.{next_action}
use Rattle.machine_bodies.specs.Doing.{sight_of}
use Rattle.live_tree.specs.Live.{Live}
use Rattle.js_acting.specs.Waiting.{goes_on}
use Rattle.live_bodies.proofs.bodies.resumed.Goals as goal

pub returns-clause-next : goal.returns-clause-next
returns-clause-next g c =
    c.in_ok-acted.ensures.next
    ∙ ap (λ (t : Live). next_action (sight_of t) (goes_on (g.C.Code.meaning c.args.code.now) (g.C.Code.tables c.args.code.now) c.args.waiting c.args.answer)) c.of-view.ensures.tree
