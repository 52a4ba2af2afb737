use Rattle.std.proofs.Common.{◌∙◌, sym, ap}
use Rattle.qml_machine.specs.DocumentMoves.{keep_import_end}
use Rattle.qml_parser.specs.Reached.{that_tail}
use Rattle.qml_parser.proofs.Leading.{leads_as, sourced_end}
use Rattle.qml_parser.proofs.import.sourced.Goals as goal

pub returns : goal.returns
returns c fs = leads_as _ _ _ _ _ (sourced_end (that_tail c.args.tail) c.args.what c.args.nodes.now fs c.args.token.now (sym c.is_as.ensures ∙ c.if-is_as.false) (sym c.needs.ensures ∙ c.if-needs.false) ∙ ap (λ s. keep_import_end (that_tail c.args.tail) c.args.what s fs c.args.token.now) (sym c.in_ok-push.ensures.added)) (c.import_end.ensures fs)
