use Rattle.std.proofs.Common.{ap}
use Rattle.qml_machine.specs.DocumentMoves.{keep}
use Rattle.qml_machine.specs.DocumentTape.{kept}
use Rattle.qml_machine.specs.declared.state.Now.TheVariants as state
use Rattle.qml_parser.proofs.Leading.{leads_as, leads_so}
use Rattle.qml_parser.proofs.steps.in_function.Goals as goal

pub returns-in-SignalOpened : goal.returns-in-SignalOpened
returns-in-SignalOpened c = leads_as _ _ _ _ _ (ap (λ now. keep (kept c.args.nodes.now c.args.frames.now (state.Function now)) c.args.token.now) c.in-SignalOpened.is) (c.signal_opened.ensures c.args.frames.now)

pub returns-in-AtFunction : goal.returns-in-AtFunction
returns-in-AtFunction c = leads_as _ _ _ _ _ (ap (λ now. keep (kept c.args.nodes.now c.args.frames.now (state.Function now)) c.args.token.now) c.in-AtFunction.is) (c.function_name.ensures c.args.frames.now)

pub returns-in-FunctionNamed : goal.returns-in-FunctionNamed
returns-in-FunctionNamed c = leads_as _ _ _ _ _ (ap (λ now. keep (kept c.args.nodes.now c.args.frames.now (state.Function now)) c.args.token.now) c.in-FunctionNamed.is) (c.function_named.ensures c.args.frames.now)

pub returns-in-FunctionOpened : goal.returns-in-FunctionOpened
returns-in-FunctionOpened c = leads_as _ _ _ _ _ (ap (λ now. keep (kept c.args.nodes.now c.args.frames.now (state.Function now)) c.args.token.now) c.in-FunctionOpened.is) (c.function_opened.ensures c.args.frames.now)

pub returns-in-AtPar : goal.returns-in-AtPar
returns-in-AtPar c = leads_as _ _ _ _ _ (ap (λ now. keep (kept c.args.nodes.now c.args.frames.now (state.Function now)) c.args.token.now) c.in-AtPar.is) (c.par_name.ensures c.args.frames.now)

pub returns-in-ParNamed : goal.returns-in-ParNamed
returns-in-ParNamed c = leads_as _ _ _ _ _ (ap (λ now. keep (kept c.args.nodes.now c.args.frames.now (state.Function now)) c.args.token.now) c.in-ParNamed.is) (c.par_named.ensures c.args.frames.now)

pub returns-in-FunctionClosed : goal.returns-in-FunctionClosed
returns-in-FunctionClosed c = leads_as _ _ _ _ _ (ap (λ now. keep (kept c.args.nodes.now c.args.frames.now (state.Function now)) c.args.token.now) c.in-FunctionClosed.is) (c.function_closed.ensures c.args.frames.now)

pub returns-in-SignalParNamed : goal.returns-in-SignalParNamed
returns-in-SignalParNamed c = leads_so _ _ _ _ _ (ap (λ now. keep (kept c.args.nodes.now c.args.frames.now (state.Function now)) c.args.token.now) c.in-SignalParNamed.is) (c.signal_par_named.ensures c.args.nodes.now c.args.frames.now)
