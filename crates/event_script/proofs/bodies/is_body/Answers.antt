use Rattle.std.proofs.Common.{sym, subst}
use Rattle.js_machine.specs.Front.{AreWhole}
use Rattle.event_script.proofs.BodyLemmas.{lexed_ends}
use Rattle.event_script.proofs.bodies.is_body.Goals as goal

pub reads_all-requires : goal.reads_all-requires
reads_all-requires c = subst AreWhole (sym c.as_slice.ensures.value) (lexed_ends c.args.text.now c.in-Ok.tokens.items c.in-Ok.ensures.answer)
