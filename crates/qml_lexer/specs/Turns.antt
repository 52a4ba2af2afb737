-- One turn of the lexer, and its answer for a text without a byte order mark.
use Rattle.std.specs.Prelude.{◌≡◌, ℕ, ◌+◌, ◌<◌, List, ◌++◌, length, Vec, Result, Ok, Err}
use Rattle.std.specs.declared.alloc.Global.{Global}
use Rattle.std.specs.Borrow.{Bor}
use Rattle.std.specs.Str.{chars}
use Rattle.qml_syntax.specs.declared.token.Token.{Token}
use Rattle.qml_lexer.specs.declared.fault.LexCause.{LexCause}
use Rattle.qml_lexer.specs.declared.fault.LexFault.{LexFault}
use Rattle.qml_lexer.specs.declared.fault.LexFault.TheVariants as fault
use Rattle.qml_lexer.specs.declared.lexer.Cursor.{Cursor}
use Rattle.qml_lexer.specs.Lex.{Tokens, Sticks, IsAt}
use Rattle.qml_lexer.specs.Places.{place_at}

-- the tokens read up to a cursor, before `rest`, begin those of the whole body; and where reading sticks from there on,
-- it sticks
pub record Leads (body : List ℕ) (cursor : Cursor) (rest : List ℕ) (found : List Token) : Type 0 where
  pub tokens : (ts : List Token) → Tokens body cursor.token_end cursor.at rest ts → Tokens body 0 0 (chars body) (found ++ ts)
  pub sticks : (stop : ℕ) (c : LexCause) → Sticks cursor.at rest stop c → Sticks 0 (chars body) stop c

-- what one turn does
abbrev pub Turns : List ℕ → List ℕ → Cursor → List Token → List Token → Result (Cursor × Bor (List ℕ)) LexFault → Type 0
Turns body rest cursor old new (Ok r) = (Leads body cursor (chars rest) old → Leads body r.0 (chars r.1.now) new) × IsAt body r.0
    × (r.0.at + length r.1.now ≡ length body) × (length r.1.now < length rest)
Turns body rest cursor old new (Err fault.NoMemory) = Unit {0}
Turns body rest cursor old new (Err (fault.Bad place c)) = (place ≡ place_at body cursor.at) × Sticks cursor.at (chars rest) cursor.at c

-- what lexing a body answers
abbrev pub IsBodyAnswer : List ℕ → Result (Vec Token Global) LexFault → Type 0
IsBodyAnswer body (Ok ts) = Tokens body 0 0 (chars body) ts.items
IsBodyAnswer body (Err fault.NoMemory) = Unit {0}
IsBodyAnswer body (Err (fault.Bad place c)) = (at : ℕ) × Sticks 0 (chars body) at c × (place ≡ place_at body at)
