use Rattle.std.proofs.Common.{◌∙◌, sym}
use Rattle.js_locals.specs.Laid.{laid}
use Rattle.unit_rows.proofs.PartLemmas.{takes_name}
use Rattle.unit_rows.proofs.parts.parameter_name.Goals as goal

pub returns-in-Some-first_part : goal.returns-in-Some-first_part
returns-in-Some-first_part c =
    takes_name (laid c.args.tree.now) c.args.at c.in-Some-first_part.name c.in-Some.node.now (c.in-Some.ensures) (sym c.is_parameter.ensures ∙ c.if-not-is_parameter.false) (c.in-Some-first_part.ensures)
