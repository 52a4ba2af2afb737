use Rattle.instance_contents.proofs.LookLemmas.{given_here, named_here}
use Rattle.instance_contents.proofs.lookup.content_at.Goals as goal

pub returns-in_ok-content-in-Some : goal.returns-in_ok-content-in-Some
returns-in_ok-content-in-Some c = given_here c.args.tables.now c.args.given.now c.args.number c.args.place c.in-Some.source c.in_ok-content-in-Some.content c.requires.given c.in-Some.ensures c.in_ok-content-in-Some.ensures

pub returns-in_ok-name-in-None : goal.returns-in_ok-name-in-None
returns-in_ok-name-in-None c = named_here c.args.tables.now c.args.given.now c.args.number c.args.place c.in_ok-name-in-None.name c.requires.given c.in-None.ensures c.in_ok-name-in-None.ensures
