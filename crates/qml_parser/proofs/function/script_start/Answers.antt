use Rattle.std.proofs.Common.{◌∙◌, sym}
use Rattle.qml_machine.specs.DocumentMachine.{is_dot}
use Rattle.qml_parser.proofs.Leading.{leads_so, if_false}
use Rattle.qml_parser.proofs.function.script_start.Goals as goal

pub returns-clause-found : goal.returns-clause-found
returns-clause-found c s = leads_so _ _ _ _ _ (if_false (is_dot c.args.token.now.what) _ _ (sym c.is_dot.ensures ∙ c.if-is_dot.false)) (c.functions.ensures s c.args.frames.now)
