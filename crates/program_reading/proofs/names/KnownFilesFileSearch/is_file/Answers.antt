use Rattle.std.proofs.Common.{◌∙◌, ap, false}
use Rattle.type_search.specs.Search.{is_file}
use Rattle.program_reading.specs.There.{is_there}
use Rattle.program_reading.proofs.ReadLemmas.{there_shown}
use Rattle.program_reading.proofs.names.KnownFilesFileSearch.is_file.Goals as goal

pub returns-in-Ok-content-clause-told : goal.returns-in-Ok-content-clause-told
returns-in-Ok-content-clause-told g c sources h =
    c.is_there.ensures ∙ ap is_there c.deref.ensures ∙
    there_shown c.in-Ok-content.content.value (sources (record { is_script = false; path = c.in-Ok.path.items })) (c.in-Ok-content.ensures.told sources h) ∙
    ap (is_file sources) c.in-Ok.ensures.items
