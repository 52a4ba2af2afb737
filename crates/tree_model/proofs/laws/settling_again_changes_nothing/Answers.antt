use Rattle.tree_model.proofs.SettlingLemmas.{fresh_again, settled_again}
use Rattle.tree_model.specs.Settling.{fresh, settled}
use Rattle.tree_model.proofs.TellingLemmas.{no_changes, no_reports}
use Rattle.tree_model.proofs.laws.settling_again_changes_nothing.Goals as goal

pub returns : goal.returns
returns c = record { outcomes = λ world tree none. fresh_again world tree; cells = λ world tree none. settled_again world tree; changes = λ world tree none. rw (settled_again world tree) (no_changes (fresh world tree) 0 tree.cells); reports = λ world tree none. rw (settled_again world tree) (no_reports (settled world tree)) }
