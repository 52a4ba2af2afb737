use Rattle.evaluation.proofs.HearingLemmas.{hears}
use Rattle.evaluation.proofs.laws.ready_cells_are_enough.Goals as goal

-- src/laws.rt:25:1
pub returns-clause-first : goal.returns-clause-first
returns-clause-first c = hears
