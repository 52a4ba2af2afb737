use Rattle.std.proofs.Common.{sym, subst}
use Rattle.file_sources.specs.Contents.{Shows}
use Rattle.read_order.specs.Order.{file_of}
use Rattle.program_reading.specs.Known.{Holds}
use Rattle.program_reading.proofs.ReadLemmas.{read_weakened}
use Rattle.program_reading.proofs.reading.KnownFilesReader.read_file.Goals as goal

pub returns-in-Ok-content-clause-told : goal.returns-in-Ok-content-clause-told
returns-in-Ok-content-clause-told g c =
    read_weakened c.read_shown.result (file_of c.args.file.now) (Holds c.read_shown.new.known) (λ sources. Shows c.deref.result.now (sources (file_of c.args.file.now))) c.read_shown.ensures.told
    (λ sources h. subst (λ v. Shows v (sources (file_of c.args.file.now))) (sym c.deref.ensures)
    (subst (λ f. Shows c.in-Ok-content.content.value (sources f)) c.in-Ok.ensures (c.in-Ok-content.ensures.told sources (c.read_shown.ensures.steady sources h))))
