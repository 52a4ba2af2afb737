use Rattle.std.proofs.Common.{◌≡◌, length}
use denote.Text.{Utf8}
use denote.Shadow.{shadow}
use Rattle.std.specs.Str.{chars}
use Rattle.qml_lexer.specs.Characters.{is_blank, behind}
use Rattle.event_script.specs.Lines.{end_blanks}
use Rattle.event_script.proofs.words.end_blanks.Given as goal

abbrev pub invariant-words : goal.invariant-words
invariant-words l = shadow (Utf8 l.rest) × shadow (Utf8 l.blanks) × (end_blanks (chars l.text) ≡ end_blanks (chars l.blanks)) × (chars l.rest ≡ behind is_blank (chars l.blanks))

abbrev pub decreases-words : goal.decreases-words
decreases-words l = length (chars l.rest)
