use Rattle.std.proofs.Common.{ap}
use Rattle.qml_machine.specs.DocumentMoves.{keep}
use Rattle.qml_machine.specs.DocumentTape.{kept}
use Rattle.qml_machine.specs.declared.state.Now.TheVariants as state
use Rattle.qml_parser.proofs.Leading.{leads_as, leads_so}
use Rattle.qml_parser.proofs.steps.in_kind.Goals as goal

pub returns-in-AtKind : goal.returns-in-AtKind
returns-in-AtKind c = leads_as _ _ _ _ _ (ap (λ now. keep (kept c.args.nodes.now c.args.frames.now (state.Kind now)) c.args.token.now) c.in-AtKind.is) (c.kind_start.ensures c.args.frames.now)

pub returns-in-KindNamed : goal.returns-in-KindNamed
returns-in-KindNamed c = leads_as _ _ _ _ _ (ap (λ now. keep (kept c.args.nodes.now c.args.frames.now (state.Kind now)) c.args.token.now) c.in-KindNamed.is) (c.kind_named.ensures c.args.frames.now)

pub returns-in-KindDotted : goal.returns-in-KindDotted
returns-in-KindDotted c = leads_as _ _ _ _ _ (ap (λ now. keep (kept c.args.nodes.now c.args.frames.now (state.Kind now)) c.args.token.now) c.in-KindDotted.is) (c.kind_dotted.ensures c.args.frames.now)

pub returns-in-AtElement : goal.returns-in-AtElement
returns-in-AtElement c = leads_as _ _ _ _ _ (ap (λ now. keep (kept c.args.nodes.now c.args.frames.now (state.Kind now)) c.args.token.now) c.in-AtElement.is) (c.element_name.ensures c.args.frames.now)

pub returns-in-Kinded : goal.returns-in-Kinded
returns-in-Kinded c = leads_as _ _ _ _ _ (ap (λ now. keep (kept c.args.nodes.now c.args.frames.now (state.Kind now)) c.args.token.now) c.in-Kinded.is) (c.kinded.ensures c.args.nodes.now c.args.frames.now)

pub returns-in-ElementNamed : goal.returns-in-ElementNamed
returns-in-ElementNamed c = leads_so _ _ _ _ _ (ap (λ now. keep (kept c.args.nodes.now c.args.frames.now (state.Kind now)) c.args.token.now) c.in-ElementNamed.is) (c.element_end.ensures c.args.nodes.now c.args.frames.now)
