use Rattle.std.proofs.Common.{◌∙◌, sym, ap}
use Rattle.qml_machine.specs.DocumentMoves.{keep_imports}
use Rattle.qml_parser.specs.Reached.{that_tail}
use Rattle.qml_parser.proofs.Leading.{leads_as, import_stops}
use Rattle.qml_parser.proofs.import.import_end.Goals as goal

pub returns-then-stops : goal.returns-then-stops
returns-then-stops c fs =
    let row = c.in_ok-push-2.ensures.added ∙ c.import_node-then-stops.ensures c.args.nodes.now in
    leads_as _ _ _ _ _ (import_stops (that_tail c.args.tail) c.args.what c.args.nodes.now fs c.args.token.now (sym c.is_semi.ensures ∙ c.if-is_semi.false) (sym c.stops.ensures ∙ c.if-stops.true) ∙ ap (λ s. keep_imports s fs c.args.token.now.place c.args.token.now.what) (sym row)) (c.imports.ensures fs)
