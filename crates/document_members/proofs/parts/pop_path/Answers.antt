use Rattle.std.proofs.Common.{◌∙◌, sym}
use Rattle.document_members.proofs.PathLemmas.{path_ends}
use Rattle.document_members.proofs.parts.pop_path.Goals as goal

pub returns-in-None : goal.returns-in-None
returns-in-None c =
    path_ends c.args.tree.now c.parts.rest.items c.parts.parts.items c.pop.new.self.items c.args.parts.now.items c.in-Some.part c.in_ok-name-in-None.name c.path_of.result
    c.parts.invariant c.in-Some.ensures.items (sym c.in-None.is ∙ c.in_ok-dot.ensures) c.in_ok-name-in-None.ensures c.path_of.ensures
