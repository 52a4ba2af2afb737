use Rattle.alias_faults.proofs.SeekLemmas.{targets_alike}
use Rattle.alias_faults.proofs.laws.bad_targets_as_rows.Goals as goal

pub returns : goal.returns
returns c p roots names ids owners d stands says there = targets_alike p roots names ids owners d stands says there
