use Rattle.live_bodies.proofs.BodyLemmas.{sees}
use Rattle.live_bodies.proofs.bodies.resumed_by.Goals as goal

pub returns-clause-next : goal.returns-clause-next
returns-clause-next g c = c.in_ok-acted.ensures.meant (sees c.args.view.now.tree.now c.args.view.now.nothing c.requires)
