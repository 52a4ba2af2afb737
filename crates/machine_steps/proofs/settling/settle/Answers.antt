use Rattle.std.proofs.Common.{◌∙◌, subst}
use Rattle.machine_steps.specs.Settles.{StopsAt}
use Rattle.machine_steps.proofs.StepLemmas.{settled_well, settled_badly}
use Rattle.machine_steps.proofs.settling.settle.Goals as goal

pub returns-in-Ok-clause-settles : goal.returns-in-Ok-clause-settles
returns-in-Ok-clause-settles g c m h =
    settled_well m (g.R.Rules.asks c.args.rules.now) c.args.tree.now c.settle.new.self c.in-Ok.changed c.in-Ok.ensures.settles c.settle.ensures.objects h

pub returns-in-Err-clause-settles : goal.returns-in-Err-clause-settles
returns-in-Err-clause-settles g c m h =
    let stops_at = subst (λ k. StopsAt k c.in-Err.fault c.unsettled.result) (c.shapes.ensures ∙ c.settle.ensures.known) c.unsettled.ensures in
    settled_badly m (g.R.Rules.asks c.args.rules.now) c.args.tree.now c.settle.new.self c.in-Err.fault c.unsettled.result c.in-Err.ensures.settles c.settle.ensures.objects stops_at h
