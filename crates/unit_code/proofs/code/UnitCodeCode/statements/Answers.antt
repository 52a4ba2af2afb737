use Rattle.unit_code.proofs.CodeLemmas.{behind_at}
use Rattle.unit_code.proofs.code.UnitCodeCode.statements.Goals as goal

pub returns-in-Some : goal.returns-in-Some
returns-in-Some c =
    behind_at c.args.self.now.units.now c.args.function c.in-Some.ensures.0 c.in-Some.ensures.1 c.in-Some.places.now.text c.in-Some.places.now.parameters.items c.in-Some.places.now.statements c.in-Some.ensures.2 c.in-Some.ensures.3
