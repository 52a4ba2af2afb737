use Rattle.live_bodies.proofs.SightLemmas.{condemned_is}
use Rattle.live_bodies.proofs.sight.is_condemned.Goals as goal

pub returns : goal.returns
returns c = condemned_is c.args.objects.now.objects c.doomed.result.now c.args.object c.is_among.result c.doomed.ensures.numbers c.is_among.ensures
