use Rattle.std.proofs.Common.{subst}
use Rattle.file_paths.specs.Ascii.{SpellsAscii}
use Rattle.name_reading.proofs.OfferLemmas.{not_offered}
use Rattle.name_reading.proofs.modules.is_offered.Goals as goal

pub returns-in-None : goal.returns-in-None
returns-in-None c = not_offered c.args.name.now (subst (SpellsAscii c.args.name.now) c.in-None.is c.in_ok-ascii.ensures)
