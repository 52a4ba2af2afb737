-- What a text between quotes at the front says.
use Rattle.std.specs.Prelude.{ℕ, ◌+◌, ◌*◌, Bool, ◌&&◌, ◌==◌, List, [], ◌∷◌, ◌++◌, Option, Some, None, Result, Ok, Err, if◌then◌else◌, option_and_then}
use Rattle.std.specs.Char.{digit_value, is_digit}
use Rattle.std.specs.Char.Escape.{encode_utf16}
use Rattle.qml_lexer.specs.declared.fault.LexCause.{LexCause}
use Rattle.qml_lexer.specs.declared.fault.LexCause.TheVariants as cause
use Rattle.qml_lexer.specs.Characters.{is_line_end}
use Rattle.qml_lexer.specs.Numbers.{first_digit}

abbrev pub simple_escape : ℕ → Option ℕ
simple_escape x = if x == 110 then Some 10 else (if x == 114 then Some 13 else (if x == 116 then Some 9 else (if x == 98 then Some 8 else (if x == 102 then Some 12 else (if x == 118 then Some 11
    else (if x == 48 then Some 0 else (if x == 92 then Some 92 else (if x == 39 then Some 39 else (if x == 34 then Some 34 else None)))))))))

abbrev pub and_digit : ℕ → Option (ℕ × List ℕ) → Option (ℕ × List ℕ)
and_digit n None = None
and_digit n (Some p) = Some (n + p.0, p.1)

abbrev pub two_digits : List ℕ → Option (ℕ × List ℕ)
two_digits xs = option_and_then (λ p. and_digit (16 * p.0) (first_digit 16 p.1)) (first_digit 16 xs)

abbrev pub four_digits : List ℕ → Option (ℕ × List ℕ)
four_digits xs = option_and_then (λ p. and_digit (256 * p.0) (two_digits p.1)) (two_digits xs)

abbrev pub with_rest : List ℕ → Option ℕ → Option (ℕ × List ℕ)
with_rest xs None = None
with_rest xs (Some u) = Some (u, xs)

-- behind a backslash
unfoldable pub escape : List ℕ → Option (ℕ × List ℕ)
escape [] = None
escape (x ∷ xs) = if x == 120 then two_digits xs else (if x == 117 then four_digits xs else with_rest xs (simple_escape x))

abbrev pub ReadsText : Type 0
ReadsText = Result (List ℕ × List ℕ) LexCause

abbrev pub with_units : List ℕ → ReadsText → ReadsText
with_units units (Ok p) = Ok (units ++ p.0, p.1)
with_units units (Err e) = Err e

abbrev pub with_escaped : Option ℕ → ReadsText → ReadsText
with_escaped None rest = Err cause.Escape
with_escaped (Some u) rest = with_units (u ∷ []) rest

abbrev pub is_hex : ℕ → Bool
is_hex x = is_digit x 16

-- behind the opening quote q: the units up to the closing one, and what stands behind it
abbrev mutual
  pub body : ℕ → List ℕ → ReadsText
  body q [] = Err cause.OpenText
  body q (x ∷ xs) = if x == q then Ok ([], xs) else (if is_line_end x then Err cause.OpenText else (if x == 92 then behind_backslash q xs else with_units (encode_utf16 x) (body q xs)))

  pub behind_backslash : ℕ → List ℕ → ReadsText
  behind_backslash q [] = Err cause.Escape
  behind_backslash q (x ∷ xs) = if x == 120 then two_in q xs else (if x == 117 then four_in q xs else with_escaped (simple_escape x) (body q xs))

  pub two_in : ℕ → List ℕ → ReadsText
  two_in q [] = Err cause.Escape
  two_in q (a ∷ []) = Err cause.Escape
  two_in q (a ∷ b ∷ xs) = if is_hex a && is_hex b then with_units ((16 * digit_value a + digit_value b) ∷ []) (body q xs) else Err cause.Escape

  pub four_in : ℕ → List ℕ → ReadsText
  four_in q [] = Err cause.Escape
  four_in q (a ∷ []) = Err cause.Escape
  four_in q (a ∷ b ∷ []) = Err cause.Escape
  four_in q (a ∷ b ∷ c ∷ []) = Err cause.Escape
  four_in q (a ∷ b ∷ c ∷ d ∷ xs) = if (is_hex a && is_hex b) && (is_hex c && is_hex d) then with_units ((256 * (16 * digit_value a + digit_value b) + (16 * digit_value c + digit_value d)) ∷ []) (body q xs) else Err cause.Escape
