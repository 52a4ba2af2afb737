use Rattle.std.proofs.Common.{◌∙◌}
use Rattle.value_reading.proofs.LiteralLemmas.{statement_told}
use Rattle.value_reading.proofs.literals.literal_kind.Goals as goal

pub returns-in-Statement : goal.returns-in-Statement
returns-in-Statement c =
    c.first_kind.ensures ∙ statement_told c.args.tree.now c.args.at c.form_at.result c.root-root.ensures.listing c.form_at.ensures c.in-Statement.is
