use Rattle.std.proofs.Common.{◌∙◌, sym}
use Rattle.qml_parser.proofs.Leading.{leads_as, signal_kind}
use Rattle.qml_parser.proofs.function.signal_opened.Goals as goal

pub returns : goal.returns
returns c fs = leads_as _ _ _ _ _ (signal_kind c.args.nodes.now fs c.args.at c.args.place c.args.kind.now (sym c.is_right_paren.ensures ∙ c.if-is_right_paren.false)) (c.kind_start.ensures fs)
