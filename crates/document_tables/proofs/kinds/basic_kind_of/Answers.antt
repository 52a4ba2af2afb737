use Rattle.std.proofs.Common.{subst}
use Rattle.file_paths.specs.Ascii.{SpellsAscii}
use Rattle.type_uses.proofs.BasicLemmas.{none_of_basic_kinds}
use Rattle.document_tables.proofs.kinds.basic_kind_of.Goals as goal

pub returns-in-None : goal.returns-in-None
returns-in-None c = none_of_basic_kinds c.args.name.now (subst (SpellsAscii c.args.name.now) c.in-None.is c.in_ok-ascii.ensures)
