use Rattle.document_members.proofs.PartLemmas.{first_named}
use Rattle.document_members.proofs.parts.first_name.Goals as goal

pub returns-in_ok-name-in-Some : goal.returns-in_ok-name-in-Some
returns-in_ok-name-in-Some c =
    first_named c.args.tree.now c.args.at c.in-Some.part c.in_ok-name-in-Some.name c.root-root.ensures.listing c.in-Some.ensures c.in_ok-name-in-Some.ensures
