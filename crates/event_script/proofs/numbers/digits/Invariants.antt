use Rattle.std.proofs.Common.{◌≡◌, ℕ, ◌+◌, ◌*◌, length, fold}
use Rattle.std.specs.List.{list_all}
use Rattle.std.specs.Char.{digit_value, is_digit}
use denote.Text.{Utf8}
use denote.Shadow.{shadow}
use Rattle.std.specs.Str.{chars}
use Rattle.qml_lexer.specs.Spells.{value_of}
use Rattle.event_script.specs.Numbers.{IsCapped}
use Rattle.event_script.proofs.numbers.digits.Given as goal

abbrev pub invariant-loop-first : goal.invariant-loop-first
invariant-loop-first l = shadow (Utf8 l.rest) × ((exact : ℕ) × IsCapped l.value exact × (value_of 10 (chars l.text) ≡ fold (λ n d. 10 * n + digit_value d) exact (chars l.rest)))
    × (list_all (λ x. is_digit x 10) (chars l.text) ≡ list_all (λ x. is_digit x 10) (chars l.rest))

abbrev pub decreases-loop-first : goal.decreases-loop-first
decreases-loop-first l = length l.rest
