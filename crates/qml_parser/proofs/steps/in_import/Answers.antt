use Rattle.std.proofs.Common.{ap}
use Rattle.qml_machine.specs.DocumentMoves.{keep}
use Rattle.qml_machine.specs.DocumentTape.{kept}
use Rattle.qml_machine.specs.declared.state.Now.TheVariants as state
use Rattle.qml_parser.proofs.Leading.{leads_as}
use Rattle.qml_parser.proofs.steps.in_import.Goals as goal

pub returns-in-Imports : goal.returns-in-Imports
returns-in-Imports c = leads_as _ _ _ _ _ (ap (λ now. keep (kept c.args.nodes.now c.args.frames.now (state.Import now)) c.args.token.now) c.in-Imports.is) (c.imports.ensures c.args.frames.now)

pub returns-in-AtImport : goal.returns-in-AtImport
returns-in-AtImport c = leads_as _ _ _ _ _ (ap (λ now. keep (kept c.args.nodes.now c.args.frames.now (state.Import now)) c.args.token.now) c.in-AtImport.is) (c.import.ensures c.args.frames.now)

pub returns-in-ModuleNamed : goal.returns-in-ModuleNamed
returns-in-ModuleNamed c = leads_as _ _ _ _ _ (ap (λ now. keep (kept c.args.nodes.now c.args.frames.now (state.Import now)) c.args.token.now) c.in-ModuleNamed.is) (c.module.ensures c.args.frames.now)

pub returns-in-ModuleDotted : goal.returns-in-ModuleDotted
returns-in-ModuleDotted c = leads_as _ _ _ _ _ (ap (λ now. keep (kept c.args.nodes.now c.args.frames.now (state.Import now)) c.args.token.now) c.in-ModuleDotted.is) (c.module_dotted.ensures c.args.frames.now)

pub returns-in-Sourced : goal.returns-in-Sourced
returns-in-Sourced c = leads_as _ _ _ _ _ (ap (λ now. keep (kept c.args.nodes.now c.args.frames.now (state.Import now)) c.args.token.now) c.in-Sourced.is) (c.sourced.ensures c.args.frames.now)

pub returns-in-AtQualifier : goal.returns-in-AtQualifier
returns-in-AtQualifier c = leads_as _ _ _ _ _ (ap (λ now. keep (kept c.args.nodes.now c.args.frames.now (state.Import now)) c.args.token.now) c.in-AtQualifier.is) (c.qualifier.ensures c.args.frames.now)

pub returns-in-Qualified : goal.returns-in-Qualified
returns-in-Qualified c = leads_as _ _ _ _ _ (ap (λ now. keep (kept c.args.nodes.now c.args.frames.now (state.Import now)) c.args.token.now) c.in-Qualified.is) (c.import_end.ensures c.args.frames.now)
