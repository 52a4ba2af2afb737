use Rattle.read_order.specs.Order.{file_of}
use Rattle.program_passes.proofs.UnitLemmas.{document_used}
use Rattle.program_passes.proofs.uses.shown_uses.Goals as goal

pub returns-in-Document : goal.returns-in-Document
returns-in-Document c = document_used c.tree_uses.result c.args.program.now (file_of c.args.file.now) c.in-Document.tree c.args.content.now c.in-Document.is c.tree_uses.ensures
