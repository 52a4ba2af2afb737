use Rattle.signal_dispatch.proofs.CondemnedLemmas.{condemned_is}
use Rattle.signal_dispatch.proofs.live.is_doomed.Goals as goal

-- src/live.rt:52:1
pub returns : goal.returns
returns c = condemned_is c.args.objects.now.objects c.doomed.result.now c.args.o c.is_among.result c.doomed.ensures.numbers c.is_among.ensures
