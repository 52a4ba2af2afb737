use Rattle.std.proofs.Common.{◌∙◌, sym}
use Rattle.js_locals.specs.Laid.{laid}
use Rattle.js_locals.specs.declared.gathering.Inner.TheVariants as inside
use Rattle.js_locals.proofs.GatheringLemmas.{inside_if, nothing_inside}
use Rattle.js_locals.proofs.gathering.inside.Goals as goal

pub returns-in_ok-row-in-Block : goal.returns-in_ok-row-in-Block
returns-in_ok-row-in-Block c =
    inside_if (laid c.args.tree.now) inside.Block c.args.var c.args.at c.in_ok-row-in-Block.row c.in-Some.node.now c.args.names.now.items c.in_ok-row-in-Block.ensures c.in-Some.ensures (sym c.in-Block.is ∙ c.inner_of.ensures)

pub returns-in_ok-row-in-Condition : goal.returns-in_ok-row-in-Condition
returns-in_ok-row-in-Condition c =
    inside_if (laid c.args.tree.now) inside.Condition c.args.var c.args.at c.in_ok-row-in-Condition.row c.in-Some.node.now c.args.names.now.items c.in_ok-row-in-Condition.ensures c.in-Some.ensures (sym c.in-Condition.is ∙ c.inner_of.ensures)

pub returns-in-Nothing : goal.returns-in-Nothing
returns-in-Nothing c = nothing_inside (laid c.args.tree.now) c.args.var c.args.at c.in-Some.node.now c.args.names.now.items c.in-Some.ensures (sym c.inner_of.ensures ∙ c.in-Nothing.is)
