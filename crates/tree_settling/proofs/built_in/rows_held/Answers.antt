use Rattle.std.proofs.Common.{◌∙◌, ap, sym}
use Rattle.tree_model.specs.Rules.{rows_held}
use Rattle.tree_settling.proofs.AnswerLemmas.{rows-list}
use Rattle.tree_settling.proofs.built_in.rows_held.Goals as goal

pub returns-in-List : goal.returns-in-List
returns-in-List c = c.len.ensures ∙ sym (rows-list c.in-List.rows) ∙ ap rows_held (sym c.in-List.is)
