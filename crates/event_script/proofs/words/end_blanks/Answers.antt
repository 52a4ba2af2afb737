use Rattle.std.proofs.Common.{arith}
use Rattle.std.proofs.lemmas.Bool.Decides.{nat_tests}
use Rattle.event_script.proofs.WordLemmas.{rest_smaller, words_go_on, words_end}
use Rattle.event_script.proofs.words.end_blanks.Goals as goal

pub words-smaller : goal.words-smaller
words-smaller c =
    rest_smaller c.words.rest.now c.behind_run-blanks-in-words.result.now c.behind_run-rest-in-words.result.now c.words.invariant.0 (grind (arith, nat_tests, c.is_empty.ensures, c.words-test.true))
    c.behind_run-blanks-in-words.ensures c.behind_run-rest-in-words.ensures

pub words-preserved : goal.words-preserved
words-preserved c = (
  c.behind_run-rest-in-words.utf8,
  c.behind_run-blanks-in-words.utf8,
  words_go_on c.args.text.now c.words.blanks.now c.words.rest.now c.behind_run-blanks-in-words.result.now c.words.invariant.0 (grind (arith, nat_tests, c.is_empty.ensures, c.words-test.true))
      c.words.invariant.2 c.words.invariant.3 c.behind_run-blanks-in-words.ensures,
  c.behind_run-rest-in-words.ensures,
)

pub returns : goal.returns
returns c =
    words_end c.args.text.now c.words.blanks.now c.words.rest.now c.words.invariant.0 (grind (arith, nat_tests, c.is_empty.ensures, c.words-test.false)) c.words.invariant.2 c.words.invariant.3
