use Rattle.std.proofs.Common.{◌≡◌, ℕ, length}
use Rattle.std.specs.Char.{is_digit}
use denote.Text.{Utf8}
use denote.Shadow.{shadow}
use Rattle.std.specs.Str.{chars}
use Rattle.qml_lexer.specs.Characters as c
use Rattle.qml_lexer.specs.Numbers as s
use Rattle.qml_lexer.specs.Numbers.{IsCapped}
use Rattle.qml_lexer.proofs.numbers.digits.Given as goal

abbrev pub invariant-loop-digit : goal.invariant-loop-digit
invariant-loop-digit l = shadow (Utf8 l.rest) × ((exact : ℕ) × IsCapped l.value exact × (s.value_from l.radix 0 (chars l.text) ≡ s.value_from l.radix exact (chars l.rest)))
    × (c.behind (λ x. is_digit x l.radix) (chars l.text) ≡ c.behind (λ x. is_digit x l.radix) (chars l.rest))

abbrev pub decreases-loop-digit : goal.decreases-loop-digit
decreases-loop-digit l = length l.rest
