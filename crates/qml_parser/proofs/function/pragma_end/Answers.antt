use Rattle.qml_parser.proofs.Leading.{leads_so, if_true}
use Rattle.qml_parser.proofs.function.pragma_end.Goals as goal

pub returns-then-token : goal.returns-then-token
returns-then-token c s fs = leads_so _ _ _ _ _ (if_true c.args.token.now.after_line _ _ c.if-token.true) (c.functions.ensures s fs)
