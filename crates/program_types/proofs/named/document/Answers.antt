use Rattle.std.proofs.Common.{◌∙◌, ap}
use Rattle.program_types.specs.Numbers.{document_in}
use Rattle.program_types.proofs.named.document.Goals as goal

pub returns : goal.returns
returns c = c.number.ensures ∙ ap (document_in c.args.program.now) c.in_ok-from_slice.ensures.items
