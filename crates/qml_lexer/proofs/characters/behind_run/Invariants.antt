use Rattle.std.proofs.Common.{◌≡◌, length}
use denote.Text.{Utf8}
use denote.Shadow.{shadow}
use Rattle.std.specs.Str.{chars}
use Rattle.qml_lexer.specs.Characters as s
use Rattle.qml_lexer.proofs.characters.behind_run.Given as goal

abbrev pub invariant-loop-first : goal.invariant-loop-first
invariant-loop-first g l = shadow (Utf8 l.rest) × (s.behind g.C.Class.holds (chars l.text) ≡ s.behind g.C.Class.holds (chars l.rest))

abbrev pub decreases-loop-first : goal.decreases-loop-first
decreases-loop-first g l = length l.rest
