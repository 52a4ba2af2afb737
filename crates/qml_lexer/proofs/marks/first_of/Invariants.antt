use Rattle.std.proofs.Common.{◌≡◌, drop}
use Rattle.std.specs.Str.{chars}
use Rattle.qml_lexer.specs.Marks as s
use Rattle.qml_lexer.proofs.marks.first_of.Given as goal

abbrev pub invariant-loop-mark : goal.invariant-loop-mark
invariant-loop-mark l = s.first_of l.marks (chars l.text) ≡ s.first_of (drop l.mark-index l.marks) (chars l.text)
