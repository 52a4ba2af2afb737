use Rattle.std.proofs.Common.{subst}
use Rattle.document_components.specs.Made.{IsMade}
use Rattle.document_components.proofs.MadeLemmas.{of_decisions}
use Rattle.document_components.proofs.components.document_ids.Goals as goal

pub returns-in_ok-ids-in-Some : goal.returns-in_ok-ids-in-Some
returns-in_ok-ids-in-Some c =
    let made = c.in_ok-ids-in-Some.ids in
    of_decisions c.args.names.now.units.items c.args.document c.args.rows.now c.args.objects.now made c.in_ok-found.found c.in-Some.begins c.in_ok-found.ensures c.in-Some.is
    (subst (λ bs. IsMade c.args.rows.now c.args.objects.now bs made) c.deref.ensures.value c.in_ok-ids-in-Some.ensures)
