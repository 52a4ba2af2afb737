use Rattle.std.proofs.Common.{rules, ◌++◌, reverse}
use Rattle.code_deeds.specs.Scopes.{parameter_entries}
use Rattle.code_deeds.proofs.ParameterLemmas.{one_more}
use Rattle.code_deeds.proofs.scopes.push_parameters.Goals as goal

pub parts-preserved : goal.parts-preserved
parts-preserved c =
    one_more c.args.tree.now c.parts.left.now c.in-Some.front.now c.in-Some.last.now (reverse c.parts.entries.items) (reverse c.push_parameter.new.entries.items)
    (parameter_entries c.args.tree.now c.args.parts.now ++ reverse c.args.entries.now.items) c.parts.invariant (search (c.in-Some.ensures.cases, rules)) c.in_ok-push_parameter.ensures
