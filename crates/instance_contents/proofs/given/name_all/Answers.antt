use Rattle.std.proofs.Common.{◌∙◌}
use Rattle.instance_contents.proofs.LookLemmas.{namings_next}
use Rattle.instance_contents.proofs.given.name_all.Goals as goal

pub sources-preserved : goal.sources-preserved
sources-preserved c = namings_next c.args.tables.now c.args.sources.now c.sources.i c.sources.names c.name_entry.new.names c.in_ok-name_entry.ensures ∙ c.sources.invariant
