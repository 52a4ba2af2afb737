use Rattle.std.proofs.Common.{true, false, sym, ◌∙◌, ap, arith}
use Rattle.qml_syntax.specs.Taken.{past}
use Rattle.qml_syntax.proofs.PositionLemmas.{edge_is}
use Rattle.qml_syntax.proofs.spans.Spans.back_to.Goals as goal

pub returns-then-found-clause-parts : goal.returns-then-found-clause-parts
returns-then-found-clause-parts c = c.before-start.ensures.parts ∙ sym (edge_is c.args.self.now.nodes.items c.loop-start.start c.index.result.now c.args.edge true c.requires.started.whole (omega (arith, c.requires.started.few)) (omega arith) c.index.ensures (sym c.is_at_edge-found.ensures ∙ c.if-found.true)) ∙ c.loop-start.invariant.1

pub loop-start-preserved : goal.loop-start-preserved
loop-start-preserved c = (omega arith, ap (λ z. past c.args.edge z) c.before-start.ensures.parts ∙ sym (edge_is c.args.self.now.nodes.items c.loop-start.start c.index.result.now c.args.edge false c.requires.started.whole (omega (arith, c.requires.started.few)) (omega arith) c.index.ensures (sym c.is_at_edge-found.ensures ∙ c.if-found.false)) ∙ c.loop-start.invariant.1)
