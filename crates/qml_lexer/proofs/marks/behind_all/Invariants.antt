use Rattle.std.proofs.Common.{◌≡◌, drop}
use denote.Text.{Utf8}
use denote.Shadow.{shadow}
use Rattle.std.specs.Str.{chars}
use Rattle.qml_lexer.specs.Marks as s
use Rattle.qml_lexer.proofs.marks.behind_all.Given as goal

abbrev pub invariant-loop-character : goal.invariant-loop-character
invariant-loop-character l = shadow (Utf8 l.rest) × (s.behind_all (chars l.text) l.characters ≡ s.behind_all (chars l.rest) (drop l.character-index l.characters))
