use Rattle.std.proofs.Common.{◌∙◌, sym}
use Rattle.qml_parser.proofs.Leading.{leads_as, module_none}
use Rattle.qml_parser.proofs.import.module.Goals as goal

pub returns-in-None : goal.returns-in-None
returns-in-None c fs = leads_as _ _ _ _ _ (module_none c.args.nodes.now fs c.args.token.now c.args.token.now.what (sym c.is_dot.ensures ∙ c.if-is_dot.false) (sym c.version.ensures ∙ c.in-None.is)) (c.sourced.ensures fs)
