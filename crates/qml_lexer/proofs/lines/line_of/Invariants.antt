use Rattle.qml_lexer.specs.Places.{IsLineAt}
use Rattle.qml_lexer.proofs.lines.line_of.Given as goal

abbrev pub invariant-loop-at : goal.invariant-loop-at
invariant-loop-at l = IsLineAt l.bytes l.at l.now
