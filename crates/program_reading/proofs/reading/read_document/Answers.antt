use Rattle.std.proofs.Common.{◌∙◌, sym}
use Rattle.read_order.specs.Order.{file_of}
use Rattle.program_reading.specs.Known.{Holds}
use Rattle.program_reading.proofs.ReadLemmas.{named_read}
use Rattle.program_reading.proofs.reading.read_document.Goals as goal

pub returns-clause-told : goal.returns-clause-told
returns-clause-told g c imports root e =
    named_read c.read_names.result c.deref.result.now (file_of c.args.file.now) imports root (Holds c.read_names.new.known) c.deref.ensures.value
    (sym (c.has_too_many.ensures imports root e) ∙ c.if-has_too_many.false) (c.read_names.ensures.told imports root e)
