use Rattle.std.proofs.Common.{◌∙◌, sym}
use Rattle.js_locals.specs.Laid.{laid}
use Rattle.unit_rows.proofs.PartLemmas.{statements_stand}
use Rattle.unit_rows.proofs.parts.statements_at.Goals as goal

pub returns-in-Some-first_part : goal.returns-in-Some-first_part
returns-in-Some-first_part c =
    statements_stand (laid c.args.tree.now) c.args.at c.in-Some-first_part.mark c.in-Some.node.now (c.in-Some.ensures) (sym c.has_statements.ensures ∙ c.if-not-has_statements.false) (c.in-Some-first_part.ensures)
