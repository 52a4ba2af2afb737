use Rattle.load_faults.proofs.FirstLemmas.{any_order}
use Rattle.load_faults.proofs.laws.in_any_order.Goals as goal

pub returns : goal.returns
returns c kept some others = any_order kept some others
