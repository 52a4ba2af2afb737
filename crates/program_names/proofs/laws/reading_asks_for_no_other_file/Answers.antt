use Rattle.program_names.proofs.ReadingLemmas.{same_end}
use Rattle.program_names.proofs.laws.reading_asks_for_no_other_file.Goals as goal

pub returns : goal.returns
returns c read other n done queue agree = same_end read other n done queue agree
