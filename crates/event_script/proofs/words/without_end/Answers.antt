use Rattle.std.proofs.Common.{◌∙◌, ap, arith}
use Rattle.std.specs.Str.{chars}
use Rattle.event_script.proofs.WordLemmas.{end_short, end_boundary, front_is}
use Rattle.event_script.proofs.words.without_end.Goals as goal

pub overflow_sub-text : goal.overflow_sub-text
overflow_sub-text c = end_short c.args.text.now c.end_blanks-blanks.result.now c.utf8.text c.end_blanks-blanks.utf8 c.end_blanks-blanks.ensures

pub range-requires-clause-end_boundary : goal.range-requires-clause-end_boundary
range-requires-clause-end_boundary c = end_boundary c.args.text.now c.end_blanks-blanks.result.now c.utf8.text c.end_blanks-blanks.utf8 c.end_blanks-blanks.ensures

pub returns-clause-value : goal.returns-clause-value
returns-clause-value c = ap chars (grind (arith, c.range.ensures.value)) ∙ front_is c.args.text.now c.end_blanks-blanks.result.now c.utf8.text c.end_blanks-blanks.utf8 c.end_blanks-blanks.ensures
