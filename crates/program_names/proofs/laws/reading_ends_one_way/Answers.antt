use Rattle.program_names.proofs.ReadingLemmas.{one_end}
use Rattle.program_names.proofs.laws.reading_ends_one_way.Goals as goal

pub returns : goal.returns
returns c read n m done queue ends too = one_end read n m done queue ends too
