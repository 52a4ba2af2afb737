use Rattle.std.proofs.Common.{arith, length, length-append, ap, ◌∙◌}
use Rattle.std.specs.Str.{chars, encode_utf8_all}
use Rattle.qml_lexer.specs.Characters.{run}
use Rattle.qml_lexer.proofs.Utf8Lemmas.{cut_run, boundary_at, run_is_front}
use Rattle.qml_lexer.proofs.characters.split_run.Goals as goal

pub overflow_sub-text : goal.overflow_sub-text
overflow_sub-text g c =
    let text = c.args.text.now in
    let whole = cut_run g.C.Class.holds text c.behind_run-behind.result.now c.utf8.text c.behind_run-behind.utf8 c.behind_run-behind.ensures in
    omega (arith, length-append (encode_utf8_all (run g.C.Class.holds (chars text))) c.behind_run-behind.result.now, ap length whole)

pub range-requires-clause-end_boundary : goal.range-requires-clause-end_boundary
range-requires-clause-end_boundary g c =
    let text = c.args.text.now in
    let whole = cut_run g.C.Class.holds text c.behind_run-behind.result.now c.utf8.text c.behind_run-behind.utf8 c.behind_run-behind.ensures in
    boundary_at text (encode_utf8_all (run g.C.Class.holds (chars text))) c.behind_run-behind.result.now c.behind_run-behind.utf8 whole

pub returns-clause-front : goal.returns-clause-front
returns-clause-front g c =
    ap chars (grind (arith, c.range.ensures.value)) ∙ run_is_front g.C.Class.holds c.args.text.now c.behind_run-behind.result.now c.utf8.text c.behind_run-behind.utf8 c.behind_run-behind.ensures
