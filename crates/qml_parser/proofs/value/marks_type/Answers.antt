use Rattle.std.proofs.Common.{◌∙◌, sym}
use Rattle.qml_parser.proofs.Shapes.{unmarked}
use Rattle.qml_parser.proofs.value.marks_type.Goals as goal

pub returns-else-is_mark : goal.returns-else-is_mark
returns-else-is_mark c = c.if-is_mark.false ∙ sym (unmarked c.args.nodes.now c.in-Some.rest.now c.in-Some.first.now c.in-Some.ensures.cases.0 (sym c.is_mark.ensures ∙ c.if-is_mark.false))
