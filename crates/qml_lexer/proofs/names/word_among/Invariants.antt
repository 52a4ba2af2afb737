use Rattle.std.proofs.Common.{◌≡◌, drop}
use Rattle.qml_lexer.specs.Names as s
use Rattle.qml_lexer.proofs.names.word_among.Given as goal

abbrev pub invariant-loop-word : goal.invariant-loop-word
invariant-loop-word l = s.word_among l.words l.name ≡ s.word_among (drop l.word-index l.words) l.name
