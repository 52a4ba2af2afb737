use Rattle.qml_value.proofs.NamingLemmas.{stands-at}
use Rattle.qml_value.proofs.fields.Row+Field.get.Goals as goal

pub returns-in-Some : goal.returns-in-Some
returns-in-Some c =
    rw (c.parts-in-Some.ensures) (stands-at c.args.self.now c.args.name.now c.in-Some.at c.index-parts-at.result (rw (c.parts.ensures) at c.in-Some.ensures))
