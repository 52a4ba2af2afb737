-- The spellings of tokens: which characters are a token of which kind.
use Rattle.std.specs.Prelude.{◌≡◌, ◌≢◌, ℕ, ◌+◌, ◌*◌, ◌^◌, ◌≤◌, ◌⊎◌, Bool, true, false, ◌||◌, ◌&&◌, ◌==◌, List, [], ◌∷◌, ◌++◌, length, fold, Some}
use Rattle.std.specs.List.{list_all}
use Rattle.std.specs.Char.{digit_value, is_digit}
use Rattle.std.specs.Char.Escape.{encode_utf16}
use Rattle.qml_text.specs.Utf.{encode_utf16_all}
use Rattle.qml_syntax.specs.declared.mark.Mark.{Mark}
use Rattle.qml_syntax.specs.declared.word.Word.{Word}
use Rattle.qml_syntax.specs.declared.token.TokenKind.{TokenKind}
use Rattle.qml_syntax.specs.declared.token.TokenKind.TheVariants as kind
use Rattle.qml_lexer.specs.Characters.{begins, is_line_end, is_part, is_quote, is_start}
use Rattle.qml_lexer.specs.Marks.{mark_spelling}
use Rattle.qml_lexer.specs.Names.{word_spelling}
use Rattle.qml_lexer.specs.Texts.{simple_escape}

-- ---- names: a start and then parts (ECMA-262, 12.7)

abbrev pub is_identifier : List ℕ → Bool
is_identifier [] = false
is_identifier (x ∷ xs) = is_start x && list_all is_part xs

-- a name is an identifier and no reserved word
abbrev pub IsName : List ℕ → Type 0
IsName w = (is_identifier w ≡ true) × ((word : Word) → w ≢ word_spelling word)

-- ---- numbers: digits in a radix, one or more, and what they are worth (ECMA-262, 12.9.3)

abbrev pub are_digits : ℕ → List ℕ → Bool
are_digits radix [] = false
are_digits radix (x ∷ xs) = list_all (λ y. is_digit y radix) (x ∷ xs)

abbrev pub value_of : ℕ → List ℕ → ℕ
value_of radix digits = fold (λ n d. radix * n + digit_value d) 0 digits

-- a zero stands before other digits
abbrev pub has_leading_zero : List ℕ → Bool
has_leading_zero [] = false
has_leading_zero (x ∷ []) = false
has_leading_zero (x ∷ y ∷ ys) = x == 48

-- ---- texts (ECMA-262, 12.9.4)

-- the characters behind a backslash, and the unit that they stand for
pub data IsEscape : List ℕ → ℕ → Type 0 where
  simple : {x u : ℕ} → simple_escape x ≡ Some u → IsEscape (x ∷ []) u
  two_digits : {a b : ℕ} → is_digit a 16 ≡ true → is_digit b 16 ≡ true → IsEscape (120 ∷ a ∷ b ∷ []) (16 * digit_value a + digit_value b)
  four_digits : {a b c d : ℕ} → is_digit a 16 ≡ true → is_digit b 16 ≡ true → is_digit c 16 ≡ true → is_digit d 16 ≡ true
      → IsEscape (117 ∷ a ∷ b ∷ c ∷ d ∷ []) (256 * (16 * digit_value a + digit_value b) + (16 * digit_value c + digit_value d))

-- the characters between two quotes, and the units that they stand for
pub data Says (quote : ℕ) : List ℕ → List ℕ → Type 0 where
  nothing : Says quote [] []
  plain : {x : ℕ} {w units : List ℕ} → x ≢ quote → x ≢ 92 → is_line_end x ≡ false → Says quote w units → Says quote (x ∷ w) (encode_utf16 x ++ units)
  escaped : {u : ℕ} {e w units : List ℕ} → IsEscape e u → Says quote w units → Says quote (92 ∷ (e ++ w)) (u ∷ units)

-- ---- tokens

pub data Spells : List ℕ → TokenKind → Type 0 where
  a_name : {w : List ℕ} → is_identifier w ≡ true → ((word : Word) → w ≢ word_spelling word) → Spells w (kind.Name (encode_utf16_all w))
  a_word : {w : List ℕ} (word : Word) → w ≡ word_spelling word → Spells w (kind.Word word)
  a_decimal : {w : List ℕ} → are_digits 10 w ≡ true → has_leading_zero w ≡ false → value_of 10 w ≤ 2 ^ 53 → Spells w (kind.Number (value_of 10 w))
  a_hexadecimal : {w : List ℕ} (x : ℕ) (digits : List ℕ) → w ≡ 48 ∷ x ∷ digits → (x ≡ 120) ⊎ (x ≡ 88) → are_digits 16 digits ≡ true → value_of 16 digits ≤ 2 ^ 53 → Spells w (kind.Number (value_of 16 digits))
  a_version : {w : List ℕ} (whole part : List ℕ) → w ≡ whole ++ 46 ∷ part → are_digits 10 whole ≡ true → are_digits 10 part ≡ true → Spells w kind.Version
  a_text : {w units : List ℕ} (quote : ℕ) (inside : List ℕ) → w ≡ quote ∷ (inside ++ quote ∷ []) → is_quote quote ≡ true → Says quote inside units → Spells w (kind.Text units)
  a_mark : {w : List ℕ} (mark : Mark) → w ≡ mark_spelling mark → Spells w (kind.Mark mark)

-- a number isn't directly followed by a name character
abbrev pub MayStandBefore : TokenKind → List ℕ → Type 0
MayStandBefore (kind.Number n) rest = begins is_part rest ≡ false
MayStandBefore (kind.Name t) rest = Unit {0}
MayStandBefore kind.Version rest = Unit {0}
MayStandBefore (kind.Text t) rest = Unit {0}
MayStandBefore (kind.Mark m) rest = Unit {0}
MayStandBefore (kind.Word w) rest = Unit {0}
MayStandBefore kind.End rest = Unit {0}

-- these characters can be a token of this kind before the rest
pub record Fits (w : List ℕ) (what : TokenKind) (rest : List ℕ) : Type 0 where
  pub spells : Spells w what
  pub before : MayStandBefore what rest

-- `//` and `/*` begin a comment and never a mark
abbrev pub begins_comment : List ℕ → Bool
begins_comment [] = false
begins_comment (x ∷ []) = false
begins_comment (x ∷ y ∷ xs) = (x == 47) && ((y == 47) || (y == 42))

-- these characters are the token of this kind at the front: the longest that can be one
pub record IsToken (w : List ℕ) (what : TokenKind) (rest : List ℕ) : Type 0 where
  pub fits : Fits w what rest
  pub no_comment : begins_comment (w ++ rest) ≡ false
  pub longest : (v more : List ℕ) (other : TokenKind) → w ++ rest ≡ v ++ more → Fits v other more → length v ≤ length w
