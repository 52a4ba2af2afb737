use Rattle.std.proofs.Common.{◌∙◌, ap, sym}
use Rattle.qml_machine.specs.DocumentMoves.{keep}
use Rattle.qml_machine.specs.DocumentTape.{kept}
use Rattle.qml_machine.specs.KeptDocument.{kept_text}
use Rattle.qml_machine.specs.declared.state.Now.TheVariants as state
use Rattle.qml_parser.proofs.Leading.{leaves_stays, leaves_so}
use Rattle.qml_parser.proofs.steps.in_script.Goals as goal

pub returns-in-ScriptBegun : goal.returns-in-ScriptBegun
returns-in-ScriptBegun c = leaves_stays _ _ _ (state.Script c.args.now) _ _ _ (ap (λ now. keep (kept c.args.nodes.now c.args.frames.now (state.Script now)) c.args.token.now) c.in-ScriptBegun.is) (λ fs. ap (λ now. kept_text (kept c.args.nodes.now fs (state.Script now))) c.in-ScriptBegun.is ∙ sym (ap (λ now. kept_text (kept c.args.nodes.now c.args.frames.now (state.Script now))) c.in-ScriptBegun.is)) (c.script_start.ensures.found c.args.nodes.now)

pub returns-in-AtPragma : goal.returns-in-AtPragma
returns-in-AtPragma c = leaves_so _ _ (state.Script c.args.now) _ _ _ (ap (λ now. keep (kept c.args.nodes.now c.args.frames.now (state.Script now)) c.args.token.now) c.in-AtPragma.is) (c.pragma_word.ensures c.args.nodes.now c.args.frames.now)

pub returns-in-AtLibrary : goal.returns-in-AtLibrary
returns-in-AtLibrary c = leaves_so _ _ (state.Script c.args.now) _ _ _ (ap (λ now. keep (kept c.args.nodes.now c.args.frames.now (state.Script now)) c.args.token.now) c.in-AtLibrary.is) (c.library_word.ensures c.args.nodes.now c.args.frames.now)

pub returns-in-PragmaRead : goal.returns-in-PragmaRead
returns-in-PragmaRead c = leaves_so _ _ (state.Script c.args.now) _ _ _ (ap (λ now. keep (kept c.args.nodes.now c.args.frames.now (state.Script now)) c.args.token.now) c.in-PragmaRead.is) (c.pragma_end.ensures c.args.nodes.now c.args.frames.now)

pub returns-in-Functions : goal.returns-in-Functions
returns-in-Functions c = leaves_so _ _ (state.Script c.args.now) _ _ _ (ap (λ now. keep (kept c.args.nodes.now c.args.frames.now (state.Script now)) c.args.token.now) c.in-Functions.is) (c.functions.ensures c.args.nodes.now c.args.frames.now)
