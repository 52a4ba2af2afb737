use Rattle.std.proofs.Common.{ap}
use Rattle.qml_machine.specs.DocumentMoves.{keep}
use Rattle.qml_machine.specs.DocumentTape.{kept}
use Rattle.qml_machine.specs.declared.state.Now.TheVariants as state
use Rattle.qml_parser.proofs.Leading.{leads_as, leads_so}
use Rattle.qml_parser.proofs.steps.in_member.Goals as goal

pub returns-in-PathDotted : goal.returns-in-PathDotted
returns-in-PathDotted c = leads_as _ _ _ _ _ (ap (λ now. keep (kept c.args.nodes.now c.args.frames.now (state.Member now)) c.args.token.now) c.in-PathDotted.is) (c.path_dotted.ensures c.args.frames.now)

pub returns-in-AtId : goal.returns-in-AtId
returns-in-AtId c = leads_as _ _ _ _ _ (ap (λ now. keep (kept c.args.nodes.now c.args.frames.now (state.Member now)) c.args.token.now) c.in-AtId.is) (c.id_name.ensures c.args.frames.now)

pub returns-in-AtTarget : goal.returns-in-AtTarget
returns-in-AtTarget c = leads_as _ _ _ _ _ (ap (λ now. keep (kept c.args.nodes.now c.args.frames.now (state.Member now)) c.args.token.now) c.in-AtTarget.is) (c.target_name.ensures c.args.frames.now)

pub returns-in-TargetDotted : goal.returns-in-TargetDotted
returns-in-TargetDotted c = leads_as _ _ _ _ _ (ap (λ now. keep (kept c.args.nodes.now c.args.frames.now (state.Member now)) c.args.token.now) c.in-TargetDotted.is) (c.target_dotted.ensures c.args.frames.now)

pub returns-in-AtProperty : goal.returns-in-AtProperty
returns-in-AtProperty c = leads_so _ _ _ _ _ (ap (λ now. keep (kept c.args.nodes.now c.args.frames.now (state.Member now)) c.args.token.now) c.in-AtProperty.is) (c.property_word.ensures c.args.nodes.now c.args.frames.now)

pub returns-in-AliasNamed : goal.returns-in-AliasNamed
returns-in-AliasNamed c = leads_so _ _ _ _ _ (ap (λ now. keep (kept c.args.nodes.now c.args.frames.now (state.Member now)) c.args.token.now) c.in-AliasNamed.is) (c.alias_colon.ensures c.args.nodes.now c.args.frames.now)
