use Rattle.std.proofs.Common.{◌∙◌, sym}
use Rattle.instance_contents.proofs.ObjectLemmas.{none_listed, some_listed_at}
use Rattle.instance_contents.proofs.objects.has_states.Goals as goal

pub returns-in-Some : goal.returns-in-Some
returns-in-Some c = c.gives_some.ensures ∙ sym (some_listed_at c.args.tables.now c.args.given.now c.args.number c.in-Some.source c.requires.given (sym c.in-Some.ensures))

pub returns-in-None : goal.returns-in-None
returns-in-None c = sym (none_listed c.args.tables.now c.args.given.now c.args.number c.requires.given (sym c.in-None.ensures))
