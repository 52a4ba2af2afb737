use Rattle.unit_code.proofs.CodeLemmas.{begins_at, begins_empty}
use Rattle.unit_code.proofs.code.UnitCodeCode.place.Goals as goal

pub returns-in-Some : goal.returns-in-Some
returns-in-Some c =
    begins_at c.args.self.now.units.now c.args.text c.in-Some.ensures.0 c.in-Some.ensures.1 c.in-Some.places.now.text c.in-Some.places.now.parameters.items c.in-Some.places.now.statements c.in-Some.ensures.2 c.in-Some.ensures.3

pub returns-in-None : goal.returns-in-None
returns-in-None c = begins_empty c.args.self.now.units.now c.args.text c.in-None.ensures
