use Rattle.names_in_code.proofs.MeantLemmas.{functions_stand}
use Rattle.names_in_code.proofs.laws.functions_stand_under_their_names.Goals as goal

pub returns : goal.returns
returns c sources files = functions_stand sources files
