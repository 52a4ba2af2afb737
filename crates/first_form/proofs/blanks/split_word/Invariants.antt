use Rattle.std.proofs.Common.{◌≡◌, ◌++◌, take, drop}
use Rattle.first_form.specs.Blanks.{word_of, behind_word}
use Rattle.first_form.proofs.blanks.split_word.Given as goal

abbrev pub invariant-bytes : goal.invariant-bytes
invariant-bytes l = record {
  word : take l.i l.bytes ++ word_of (drop l.i l.bytes) ≡ word_of l.bytes;
  rest : behind_word (drop l.i l.bytes) ≡ behind_word l.bytes;
}
