use Rattle.js_progress.proofs.StepFalls.{begun_falls, signs_falls, steps_falls, args_falls, resumed_falls}
use Rattle.js_progress.proofs.StatementFalls.{declares_falls, runs_falls, rests_falls, takes_falls, goes_on_falls, gives_falls, stops_falls, goes_again_falls, targets_falls, spot_falls, found_falls, assigns_falls}
use Rattle.js_progress.proofs.laws.moves_come_to_the_next_node.Goals as goal

pub returns-clause-begun : goal.returns-clause-begun
returns-clause-begun c = begun_falls

pub returns-clause-resumed : goal.returns-clause-resumed
returns-clause-resumed c = resumed_falls

pub returns-clause-stepped : goal.returns-clause-stepped
returns-clause-stepped c = steps_falls

pub returns-clause-signs : goal.returns-clause-signs
returns-clause-signs c = signs_falls

pub returns-clause-arguments : goal.returns-clause-arguments
returns-clause-arguments c = args_falls

pub returns-clause-taken : goal.returns-clause-taken
returns-clause-taken c = takes_falls

pub returns-clause-run : goal.returns-clause-run
returns-clause-run c = runs_falls

pub returns-clause-rested : goal.returns-clause-rested
returns-clause-rested c = rests_falls

pub returns-clause-declared : goal.returns-clause-declared
returns-clause-declared c = declares_falls

pub returns-clause-gone_on : goal.returns-clause-gone_on
returns-clause-gone_on c = goes_on_falls

pub returns-clause-given : goal.returns-clause-given
returns-clause-given c = gives_falls

pub returns-clause-stopped : goal.returns-clause-stopped
returns-clause-stopped c = stops_falls

pub returns-clause-repeated : goal.returns-clause-repeated
returns-clause-repeated c = goes_again_falls

pub returns-clause-targets : goal.returns-clause-targets
returns-clause-targets c = targets_falls

pub returns-clause-spots : goal.returns-clause-spots
returns-clause-spots c = spot_falls

pub returns-clause-found : goal.returns-clause-found
returns-clause-found c = found_falls

pub returns-clause-assigned : goal.returns-clause-assigned
returns-clause-assigned c = assigns_falls
