-- What a number or a version at the front is.
use Rattle.std.specs.Prelude.{◌≡◌, ℕ, ◌+◌, ◌*◌, ◌^◌, ◌<◌, ◌≤◌, Bool, false, ◌&&◌, ◌||◌, ◌==◌, ◌⊎◌, nat_lt, List, [], ◌∷◌, Option, Some, None, Result, Ok, Err, if◌then◌else◌}
use Rattle.std.specs.Char.{digit_value, is_digit}
use Rattle.qml_syntax.specs.declared.token.TokenKind.{TokenKind}
use Rattle.qml_syntax.specs.declared.token.TokenKind.TheVariants as kind
use Rattle.qml_lexer.specs.declared.fault.LexCause.{LexCause}
use Rattle.qml_lexer.specs.declared.fault.LexCause.TheVariants as cause
use Rattle.qml_lexer.specs.Characters.{begins, behind, is_part}

-- a kind and what stands behind its spelling, or why there is none
abbrev pub ReadsKind : Type 0
ReadsKind = Result (TokenKind × List ℕ) LexCause

abbrev pub first_digit : ℕ → List ℕ → Option (ℕ × List ℕ)
first_digit radix [] = None
first_digit radix (x ∷ xs) = if is_digit x radix then Some (digit_value x, xs) else None

-- the number that goes on with the digits at the front
abbrev pub value_from : ℕ → ℕ → List ℕ → ℕ
value_from radix n [] = n
value_from radix n (x ∷ xs) = if is_digit x radix then value_from radix (radix * n + digit_value x) xs else n

-- the number, or any past the greatest where it is past it
abbrev pub IsCapped : ℕ → ℕ → Type 0
IsCapped n exact = ((n ≡ exact) × (n ≤ 2 ^ 53)) ⊎ ((2 ^ 53 < n) × (2 ^ 53 < exact) × (n < 2 ^ 60))

unfoldable pub whole : ℕ → List ℕ → ReadsKind
whole radix xs = if nat_lt (2 ^ 53) (value_from radix 0 xs) || begins is_part (behind (λ x. is_digit x radix) xs) then Err cause.Number
    else Ok (kind.Number (value_from radix 0 xs), behind (λ x. is_digit x radix) xs)

-- behind `0x` or `0X`
abbrev pub behind_hexadecimal_mark : List ℕ → Option (List ℕ)
behind_hexadecimal_mark [] = None
behind_hexadecimal_mark (x ∷ []) = None
behind_hexadecimal_mark (x ∷ y ∷ xs) = if (x == 48) && ((y == 120) || (y == 88)) then Some xs else None

-- behind a dot that a digit follows
abbrev pub behind_dot : List ℕ → Option (List ℕ)
behind_dot [] = None
behind_dot (x ∷ xs) = if (x == 46) && begins (λ y. is_digit y 10) xs then Some xs else None

abbrev pub begins_with_zero : List ℕ → Bool
begins_with_zero [] = false
begins_with_zero (x ∷ xs) = (x == 48) && begins (λ y. is_digit y 10) xs

abbrev pub hexadecimal_or : Option (List ℕ) → List ℕ → ReadsKind
hexadecimal_or None xs = if begins_with_zero xs then Err cause.Number else whole 10 xs
hexadecimal_or (Some ds) xs = if begins (λ y. is_digit y 16) ds then whole 16 ds else Err cause.Number

abbrev pub plain_number : List ℕ → ReadsKind
plain_number xs = hexadecimal_or (behind_hexadecimal_mark xs) xs

abbrev pub version_or : Option (List ℕ) → List ℕ → ReadsKind
version_or None xs = plain_number xs
version_or (Some fraction) xs = Ok (kind.Version, behind (λ x. is_digit x 10) fraction)

unfoldable pub number : List ℕ → ReadsKind
number xs = version_or (behind_dot (behind (λ x. is_digit x 10) xs)) xs
