use Rattle.std.proofs.Common.{◌∙◌, ap, sym}
use Rattle.object_tree.proofs.FindLemmas.{stands_found, stands_in_found}
use Rattle.object_tree.proofs.places.stands_in.Goals as goal

pub returns-in-Some : goal.returns-in-Some
returns-in-Some c = sym (stands_found c.args.objects.now c.args.o ∙ ap stands_in_found (sym c.find.ensures ∙ c.in-Some.is))

pub returns-in-None : goal.returns-in-None
returns-in-None c = sym (stands_found c.args.objects.now c.args.o ∙ ap stands_in_found (sym c.find.ensures ∙ c.in-None.is))
