use Rattle.std.proofs.Common.{subst}
use Rattle.path_ends.specs.Known.{KnowsUnits}
use Rattle.path_ends.proofs.TestLemmas.{knows_all}
use Rattle.path_ends.proofs.finding.alias_ends.Goals as goal

pub returns-then-holds : goal.returns-then-holds
returns-then-holds c =
    let us = c.args.names.now.units.items in
    let limit = c.in_ok-limit.limit in
    knows_all us c.args.ids.now c.args.aliases.now c.in_ok-known.known.items limit c.in_ok-holds.holds c.in_ok-limit.ensures
    (λ h. subst (λ k. KnowsUnits us c.args.ids.now k limit 0 c.args.aliases.now) c.deref.ensures.value (c.in_ok-holds.ensures h)) c.if-holds.true
