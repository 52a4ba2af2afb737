use Rattle.std.specs.Str.{chars}
use Rattle.event_script.proofs.VerbLemmas.{no_verb}
use Rattle.event_script.proofs.kinds.asked.Goals as goal

pub returns-in-None : goal.returns-in-None
returns-in-None c = no_verb (chars c.args.word.now) (chars c.args.rest.now) c.in-None.ensures
