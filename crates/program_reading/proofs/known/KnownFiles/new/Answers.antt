use Rattle.program_reading.proofs.KnownLemmas.{none_known}
use Rattle.program_reading.proofs.known.KnownFiles.new.Goals as goal

pub invariant_of-result : goal.invariant_of-result
invariant_of-result c = none_known c.new.result.entries c.new.ensures.empty
