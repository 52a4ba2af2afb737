use Rattle.std.proofs.Common.{◌∙◌, sym}
use Rattle.names_in_code.proofs.OutwardsLemmas.{found_now}
use Rattle.names_in_code.proofs.outwards.name_outwards.Goals as goal

pub returns-then-is_some : goal.returns-then-is_some
returns-then-is_some c =
    found_now c.args.names.now.units.items c.args.ids.now c.args.objects.now c.args.rows.now c.args.document c.args.name.now c.components.left c.components.scope
    c.components.object c.in_ok-found.found _ c.components-test.true c.in_ok-found.ensures (sym c.is_some.ensures ∙ c.if-is_some.true) c.components.invariant
