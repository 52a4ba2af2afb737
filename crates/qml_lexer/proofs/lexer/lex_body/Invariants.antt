use Rattle.std.proofs.Common.{◌≡◌, ◌+◌, length}
use denote.Text.{Utf8}
use denote.Shadow.{shadow}
use Rattle.std.specs.Str.{chars}
use Rattle.qml_lexer.specs.Lex.{IsAt}
use Rattle.qml_lexer.specs.Turns.{Leads}
use Rattle.qml_lexer.proofs.lexer.lex_body.Given as goal

abbrev pub invariant-loop-rest : goal.invariant-loop-rest
invariant-loop-rest l = shadow (Utf8 l.rest) × Leads l.body l.cursor (chars l.rest) l.found.items × IsAt l.body l.cursor × (l.cursor.at + length l.rest ≡ length l.body)

abbrev pub decreases-loop-rest : goal.decreases-loop-rest
decreases-loop-rest l = length l.rest
