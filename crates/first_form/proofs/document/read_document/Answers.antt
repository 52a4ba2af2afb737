use Rattle.first_form.proofs.BoundLemmas.{in_order}
use Rattle.first_form.proofs.document.read_document.Goals as goal

pub returns-in-Some-clause-in_order : goal.returns-in-Some-clause-in_order
returns-in-Some-clause-in_order c = in_order c.in-Some.rest.now c.object_under.result c.object_under.ensures
