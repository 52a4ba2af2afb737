use Rattle.std.proofs.Common.{ap}
use Rattle.qml_machine.specs.DocumentMoves.{keep}
use Rattle.qml_machine.specs.DocumentTape.{kept}
use Rattle.qml_machine.specs.KeptDocument.{kept_text}
use Rattle.qml_machine.specs.declared.state.Now.TheVariants as state
use Rattle.qml_parser.proofs.Leading.{leaves_none}
use Rattle.qml_parser.proofs.steps.in_object.Goals as goal

pub returns-in-AtObject : goal.returns-in-AtObject
returns-in-AtObject c = leaves_none _ _ _ (state.Object c.args.now) _ _ _ (ap (λ now. keep (kept c.args.nodes.now c.args.frames.now (state.Object now)) c.args.token.now) c.in-AtObject.is) (ap (λ now. kept_text (kept c.args.nodes.now c.args.frames.now (state.Object now))) c.in-AtObject.is) (λ s fs. ap (λ now. kept_text (kept s fs (state.Object now))) c.in-AtObject.is) (c.object_name.ensures c.args.frames.now)

pub returns-in-ObjectDotted : goal.returns-in-ObjectDotted
returns-in-ObjectDotted c = leaves_none _ _ _ (state.Object c.args.now) _ _ _ (ap (λ now. keep (kept c.args.nodes.now c.args.frames.now (state.Object now)) c.args.token.now) c.in-ObjectDotted.is) (ap (λ now. kept_text (kept c.args.nodes.now c.args.frames.now (state.Object now))) c.in-ObjectDotted.is) (λ s fs. ap (λ now. kept_text (kept s fs (state.Object now))) c.in-ObjectDotted.is) (c.object_dotted.ensures c.args.frames.now)
