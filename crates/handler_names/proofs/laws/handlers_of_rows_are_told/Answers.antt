use Rattle.handler_names.proofs.LayerLemmas.{told_by_rows}
use Rattle.handler_names.proofs.laws.handlers_of_rows_are_told.Goals as goal

pub returns : goal.returns
returns c p names handlers all = told_by_rows p names handlers all
