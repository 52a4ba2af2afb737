-- What the lines of a script ask for, and which of them is the first that asks for nothing.
use Rattle.std.specs.Prelude.{◌≡◌, ◌≢◌, ℕ, ◌+◌, ◌<◌, ◌≤◌, ◌⊎◌, ◌==◌, Bool, not, true, false, List, [], ◌∷◌, ◌++◌, length, codes, Vec, None, Result, Ok, Err}
use Rattle.std.specs.declared.alloc.Global.{Global}
use Rattle.std.specs.Str.{IsUtf8, chars, encode_utf8_all}
use Rattle.qml_text.specs.Utf.{encode_utf16_all}
use Rattle.qml_syntax.specs.declared.token.TokenKind.TheVariants as k
use Rattle.qml_syntax.specs.declared.token.Token.{Token}
use Rattle.qml_syntax.specs.Depth.{deep_whole}
use Rattle.qml_lexer.specs.Characters.{begins}
use Rattle.qml_lexer.specs.Spells.{are_digits, has_leading_zero, value_of, IsName}
use Rattle.qml_lexer.specs.Places.{body_of}
use Rattle.qml_lexer.specs.Lex.{IsLexed}
use Rattle.js_machine.specs.Machine.{a_body, Whole}
use Rattle.js_machine.specs.Answer.{ReadsWhole}
use Rattle.event_script.specs.Lines.{lines_of, trimmed, word_of, rest_of}
use Rattle.event_script.specs.declared.script.Line.{Line}
use Rattle.event_script.specs.declared.script.LineKind.{LineKind}
use Rattle.event_script.specs.declared.script.LineKind.TheVariants as asks
use Rattle.event_script.specs.declared.script.ScriptFault.{ScriptFault}
use Rattle.event_script.specs.declared.script.ScriptFault.TheVariants as fault

-- ---- what stands behind the word

-- a list of statements reads all of these tokens but the last, which is the end; no node of it is deeper than 100
pub record IsRead (tokens : List Token) : Type 0 where
  pub before : List Token
  pub last : Token
  pub body : Whole
  pub split : tokens ≡ before ++ last ∷ []
  pub ends : last.what ≡ k.End
  pub reads : ReadsWhole a_body body before []
  pub shallow : deep_whole body ≡ None

-- a list of statements stands there and nothing else
pub record IsBody (bytes : List ℕ) : Type 0 where
  pub tokens : List Token
  pub lexed : IsLexed bytes tokens
  pub read : IsRead tokens

abbrev pub is_no_dot : ℕ → Bool
is_no_dot x = not (x == 46)

-- names joined by dots
pub data IsPath : List ℕ → Type 0 where
  one : {w : List ℕ} → IsName w → IsPath w
  joined : {w path : List ℕ} → IsName w → IsPath path → IsPath (w ++ 46 ∷ path)

-- a number in decimal digits, without leading zeros, of at most 1,000,000,000,000
pub record IsTime (n : ℕ) (w : List ℕ) : Type 0 where
  pub digits : are_digits 10 w ≡ true
  pub shortest : has_leading_zero w ≡ false
  pub value : value_of 10 w ≡ n
  pub most : n ≤ 1000000000000

-- the word by which a line asks for something
abbrev pub word_for : LineKind → List ℕ
word_for asks.Do = codes "do"
word_for (asks.Advance n) = codes "advance"
word_for asks.Tick = codes "tick"
word_for asks.Print = codes "print"
word_for asks.PrintPath = codes "print"

-- what stands behind that word
abbrev pub Behind : LineKind → List ℕ → Type 0
Behind asks.Do rest = IsBody (encode_utf8_all rest)
Behind (asks.Advance n) rest = IsTime n rest
Behind asks.Tick rest = rest ≡ []
Behind asks.Print rest = rest ≡ []
Behind asks.PrintPath rest = IsPath rest

-- a word and what stands behind it ask for this
abbrev pub Asks : List ℕ → List ℕ → LineKind → Type 0
Asks word rest kind = (word ≡ word_for kind) × Behind kind rest

-- ---- lines

-- a line that is left out: a comment, or blanks
pub record IsSkipped (line : List ℕ) : Type 0 where
  pub utf8 : IsUtf8 line
  pub skipped : (begins (λ x. x == 35) (chars line) ≡ true) ⊎ (trimmed (chars line) ≡ [])

-- a line that asks for something, and its text without outer blanks
pub record Tells (line : List ℕ) (kind : LineKind) (text : List ℕ) : Type 0 where
  pub utf8 : IsUtf8 line
  pub no_comment : begins (λ x. x == 35) (chars line) ≡ false
  pub some : trimmed (chars line) ≢ []
  pub asks_for : Asks (word_of (trimmed (chars line))) (rest_of (trimmed (chars line))) kind
  pub is_text : text ≡ encode_utf16_all (trimmed (chars line))

-- the lines from a number on say this
pub data Say : ℕ → List (List ℕ) → List Line → Type 0 where
  at_end : {n : ℕ} → Say n [] []
  left_out : {n : ℕ} {line : List ℕ} {lines : List (List ℕ)} {said : List Line} → IsSkipped line → Say (n + 1) lines said → Say n (line ∷ lines) said
  said_line : {n : ℕ} {line text : List ℕ} {kind : LineKind} {lines : List (List ℕ)} {said : List Line} → Tells line kind text → Say (n + 1) lines said
      → Say n (line ∷ lines) (record { number = n; what = kind; text = text } ∷ said)

-- a line that is neither left out nor asks for something
pub record IsBad (line : List ℕ) : Type 0 where
  pub no_skip : IsSkipped line → ⊥
  pub asks_nothing : (kind : LineKind) (text : List ℕ) → Tells line kind text → ⊥

-- of the lines from a number on, the first bad one has the number `bad`
pub data FirstBad : ℕ → List (List ℕ) → ℕ → Type 0 where
  here : {n : ℕ} {line : List ℕ} {lines : List (List ℕ)} → IsBad line → FirstBad n (line ∷ lines) n
  behind_skipped : {n bad : ℕ} {line : List ℕ} {lines : List (List ℕ)} → IsSkipped line → FirstBad (n + 1) lines bad → FirstBad n (line ∷ lines) bad
  behind_told : {n bad : ℕ} {line text : List ℕ} {kind : LineKind} {lines : List (List ℕ)} → Tells line kind text → FirstBad (n + 1) lines bad → FirstBad n (line ∷ lines) bad

-- what reading a script answers; a byte order mark at its start is skipped
abbrev pub IsAnswer : List ℕ → Result (Vec Line Global) ScriptFault → Type 0
IsAnswer bytes (Ok lines) = (length bytes ≤ 4194304) × Say 1 (lines_of (body_of bytes)) lines.items
IsAnswer bytes (Err fault.TooLarge) = 4194304 < length bytes
IsAnswer bytes (Err (fault.BadLine n)) = (length bytes ≤ 4194304) × FirstBad 1 (lines_of (body_of bytes)) n
IsAnswer bytes (Err fault.NoMemory) = length bytes ≤ 4194304
