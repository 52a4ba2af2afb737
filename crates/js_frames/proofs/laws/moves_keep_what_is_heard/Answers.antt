use Rattle.js_frames.proofs.BeginLemmas.{begun_on}
use Rattle.js_frames.proofs.StepLemmas.{resumed_on, steps_on, signs_on}
use Rattle.js_frames.proofs.ArgumentLemmas.{args_on}
use Rattle.js_frames.proofs.SpotLemmas.{targets_on, spot_at_on, found_for_on, assigns_on}
use Rattle.js_frames.proofs.StatementLemmas.{takes_on, runs_on, rests_on, declares_on, goes_on_on, gives_on, stops_on, goes_again_on}
use Rattle.js_frames.proofs.laws.moves_keep_what_is_heard.Goals as goal

pub returns-clause-begun : goal.returns-clause-begun
returns-clause-begun c = begun_on

pub returns-clause-resumed : goal.returns-clause-resumed
returns-clause-resumed c = resumed_on

pub returns-clause-stepped : goal.returns-clause-stepped
returns-clause-stepped c = steps_on

pub returns-clause-signs : goal.returns-clause-signs
returns-clause-signs c = signs_on

pub returns-clause-arguments : goal.returns-clause-arguments
returns-clause-arguments c = args_on

pub returns-clause-taken : goal.returns-clause-taken
returns-clause-taken c = takes_on

pub returns-clause-run : goal.returns-clause-run
returns-clause-run c = runs_on

pub returns-clause-rested : goal.returns-clause-rested
returns-clause-rested c = rests_on

pub returns-clause-declared : goal.returns-clause-declared
returns-clause-declared c = declares_on

pub returns-clause-gone_on : goal.returns-clause-gone_on
returns-clause-gone_on c = goes_on_on

pub returns-clause-given : goal.returns-clause-given
returns-clause-given c = gives_on

pub returns-clause-stopped : goal.returns-clause-stopped
returns-clause-stopped c = stops_on

pub returns-clause-repeated : goal.returns-clause-repeated
returns-clause-repeated c = goes_again_on

pub returns-clause-targets : goal.returns-clause-targets
returns-clause-targets c = targets_on

pub returns-clause-spots : goal.returns-clause-spots
returns-clause-spots c = spot_at_on

pub returns-clause-found : goal.returns-clause-found
returns-clause-found c = found_for_on

pub returns-clause-assigned : goal.returns-clause-assigned
returns-clause-assigned c = assigns_on
