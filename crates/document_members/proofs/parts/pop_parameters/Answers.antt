use Rattle.std.proofs.Common.{◌∙◌, sym, rules}
use Rattle.document_members.proofs.PathLemmas.{parameters_end, parameters_run_out}
use Rattle.document_members.proofs.parts.pop_parameters.Goals as goal

pub returns-in-None : goal.returns-in-None
returns-in-None c =
    parameters_end c.args.tree.now c.parts.names.items c.reverse.new.self.items c.parts.parts.items c.pop.new.self.items c.args.parts.now.items c.in-Some.part
    c.parts.invariant c.in-Some.ensures.items (sym c.in-None.is ∙ c.in_ok-parameter.ensures) c.reverse.ensures.items

pub returns : goal.returns
returns c =
    parameters_run_out c.args.tree.now c.parts.names.items c.reverse-2.new.self.items c.parts.parts.items c.pop.new.self.items c.args.parts.now.items
    c.parts.invariant (search (c.in_default.ensures.cases, c.parts.parts.ok, rules)) (search (c.in_default.ensures.cases, c.pop.new.self.ok, rules)) c.reverse-2.ensures.items
