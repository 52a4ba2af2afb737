-- The tokens of bytes.
use Rattle.std.specs.Prelude.{◌≡◌, ◌≢◌, ℕ, ◌+◌, ◌-◌, nat_lt, List, [], ◌∷◌, ◌++◌, length, ◌⊎◌, Vec, Result, Ok, Err}
use Rattle.std.specs.declared.alloc.Global.{Global}
use Rattle.std.specs.Str.{IsUtf8, IsValidUpTo, chars, encode_utf8_all}
use Rattle.qml_base.specs.declared.numbers.Place.{Place}
use Rattle.qml_syntax.specs.declared.token.TokenKind.{TokenKind}
use Rattle.qml_syntax.specs.declared.token.TokenKind.TheVariants.{End}
use Rattle.qml_syntax.specs.declared.token.Token.{Token}
use Rattle.qml_lexer.specs.declared.fault.LexCause.{LexCause}
use Rattle.qml_lexer.specs.declared.fault.LexCause.TheVariants as cause
use Rattle.qml_lexer.specs.declared.fault.LexFault.{LexFault}
use Rattle.qml_lexer.specs.declared.fault.LexFault.TheVariants as fault
use Rattle.qml_lexer.specs.Items.{Item}
use Rattle.qml_lexer.specs.Items as item
use Rattle.qml_lexer.specs.declared.found.Spot.{Spot}
use Rattle.qml_lexer.specs.declared.lexer.Cursor.{Cursor}
use Rattle.qml_lexer.specs.Causes.{HasCause}
use Rattle.qml_lexer.specs.Gaps.{IsGap}
use Rattle.qml_lexer.specs.Spells.{IsToken}
use Rattle.qml_lexer.specs.Places.{body_of, mark_len, place_at, line_start, IsLineAt}

-- how many bytes these characters take
abbrev pub bytes_of : List ℕ → ℕ
bytes_of characters = length (encode_utf8_all characters)

-- these characters are a gap, or the token of a kind, where the rest follows them
abbrev pub Takes : List ℕ → Item → List ℕ → Type 0
Takes w item.Gap rest = IsGap w rest
Takes w (item.Token what) rest = IsToken w what rest

-- nothing is read at the front of these characters, and why
pub record IsStuck (xs : List ℕ) (c : LexCause) : Type 0 where
  pub some : xs ≢ []
  pub unread : (w rest : List ℕ) (taken : Item) → xs ≡ w ++ rest → ¬ (Takes w taken rest)
  pub because : HasCause xs c

-- the token of this kind at the byte `at`, where the token before it ends at `end`
abbrev pub token_at : List ℕ → ℕ → ℕ → TokenKind → Token
token_at bytes end at what = record { what = what; place = place_at bytes at; after_line = nat_lt end (line_start bytes at) }

-- the characters from the byte `at` on are these tokens, where the token before them ends at `end`
pub data Tokens (bytes : List ℕ) : ℕ → ℕ → List ℕ → List Token → Type 0 where
  at_end : {end at : ℕ} → Tokens bytes end at [] (token_at bytes end at End ∷ [])
  over_gap : {end at : ℕ} {xs : List ℕ} {ts : List Token} (w more : List ℕ) → xs ≡ w ++ more → Takes w item.Gap more
      → Tokens bytes end (at + bytes_of w) more ts → Tokens bytes end at xs ts
  over_token : {end at : ℕ} {xs : List ℕ} {ts : List Token} (w more : List ℕ) (what : TokenKind) → xs ≡ w ++ more → Takes w (item.Token what) more
      → Tokens bytes (at + bytes_of w) (at + bytes_of w) more ts → Tokens bytes end at xs (token_at bytes end at what ∷ ts)

-- reading from the byte `at` on comes to the byte `stop`, where nothing is read
pub data Sticks : ℕ → List ℕ → ℕ → LexCause → Type 0 where
  here : {at : ℕ} {xs : List ℕ} {c : LexCause} → IsStuck xs c → Sticks at xs at c
  later : {at stop : ℕ} {xs : List ℕ} {c : LexCause} (w more : List ℕ) (taken : Item) → xs ≡ w ++ more → Takes w taken more
      → Sticks (at + bytes_of w) more stop c → Sticks at xs stop c

-- the bytes are UTF-8, and behind a byte order mark these tokens
abbrev pub IsLexed : List ℕ → List Token → Type 0
IsLexed bytes ts = IsUtf8 bytes × Tokens (body_of bytes) 0 0 (chars (body_of bytes)) ts

abbrev pub NotUtf8At : List ℕ → Place → LexCause → Type 0
NotUtf8At bytes place c = (at : ℕ) × (¬ (IsUtf8 bytes)) × IsValidUpTo bytes at × (place ≡ place_at (body_of bytes) (at - mark_len bytes)) × (c ≡ cause.NotUtf8)

abbrev pub SticksAt : List ℕ → Place → LexCause → Type 0
SticksAt bytes place c = (at : ℕ) × IsUtf8 bytes × Sticks 0 (chars (body_of bytes)) at c × (place ≡ place_at (body_of bytes) at)

abbrev pub not_utf8 : List ℕ → ℕ → LexFault
not_utf8 bytes at = fault.Bad (place_at (body_of bytes) (at - mark_len bytes)) cause.NotUtf8

-- no token list reads the bytes, and why
abbrev pub IsRefused : List ℕ → Place → LexCause → Type 0
IsRefused bytes place c = NotUtf8At bytes place c ⊎ SticksAt bytes place c

-- what lexing bytes answers
abbrev pub IsAnswer : List ℕ → Result (Vec Token Global) LexFault → Type 0
IsAnswer bytes (Ok ts) = IsLexed bytes ts.items
IsAnswer bytes (Err (fault.Bad place c)) = IsRefused bytes place c
IsAnswer bytes (Err fault.NoMemory) = Unit {0}

-- where the answer is `Bad`, no token list reads the bytes
abbrev pub IsUnread : List ℕ → Result (Vec Token Global) LexFault → Type 0
IsUnread bytes (Ok ts) = Unit {0}
IsUnread bytes (Err (fault.Bad place c)) = (ts : List Token) → ¬ (IsLexed bytes ts)
IsUnread bytes (Err fault.NoMemory) = Unit {0}

-- where a token at a cursor begins
abbrev pub spot : Cursor → Spot
spot cursor = record { place = record { line = cursor.line.number; column = 1 + (cursor.at - cursor.line.start) }; after_line = nat_lt cursor.token_end cursor.line.start }

abbrev pub IsAt : List ℕ → Cursor → Type 0
IsAt bytes cursor = IsLineAt bytes cursor.at cursor.line
