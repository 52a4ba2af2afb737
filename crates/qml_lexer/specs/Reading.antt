-- What the code's readers answer, as an equation of what the definitions read.
use Rattle.std.specs.Prelude.{◌≡◌, ℕ, List, [], ◌∷◌, ◌++◌, Option, Some, None, Result, Ok, Err}
use Rattle.std.specs.Borrow.{Bor}
use Rattle.std.specs.Str.{chars}
use Rattle.qml_syntax.specs.declared.token.Token.{Token}
use Rattle.qml_syntax.specs.declared.token.TokenKind.{TokenKind}
use Rattle.qml_lexer.specs.declared.fault.LexCause.{LexCause}
use Rattle.qml_lexer.specs.declared.fault.Fault.{Fault}
use Rattle.qml_lexer.specs.declared.fault.Fault.TheVariants as fault
use Rattle.qml_lexer.specs.declared.found.Piece.{Piece}
use Rattle.qml_lexer.specs.declared.found.Piece.TheVariants as piece
use Rattle.qml_lexer.specs.declared.found.Spot.{Spot}
use Rattle.qml_lexer.specs.Front.{ReadsItem}
use Rattle.qml_lexer.specs.Items as item

abbrev pub GivesPart : {A : Type 0} → Option (A × Bor (List ℕ)) → Option (A × List ℕ) → Type 0
GivesPart None read = read ≡ None
GivesPart (Some p) read = read ≡ Some (p.0, chars p.1.now)

abbrev pub GivesKind : Result (TokenKind × Bor (List ℕ)) LexCause → Result (TokenKind × List ℕ) LexCause → Type 0
GivesKind (Ok p) read = read ≡ Ok (p.0, chars p.1.now)
GivesKind (Err c) read = read ≡ Err c

-- want of memory is free
abbrev pub Gives : {A : Type 0} → Result (A × Bor (List ℕ)) Fault → Result (A × List ℕ) LexCause → Type 0
Gives (Ok p) read = read ≡ Ok (p.0, chars p.1.now)
Gives (Err (fault.Bad c)) read = read ≡ Err c
Gives (Err fault.NoMemory) read = Unit {0}

-- the token of a kind on a spot
abbrev pub token_on : Spot → TokenKind → Token
token_on spot what = record { what = what; place = spot.place; after_line = spot.after_line }

abbrev pub PutsPiece : Spot → List Token → List Token → Piece → List ℕ → ReadsItem → Type 0
PutsPiece spot old new piece.Gap rest read = (read ≡ Ok (item.Gap, rest)) × (new ≡ old)
PutsPiece spot old new piece.Token rest read = (what : TokenKind) × (read ≡ Ok (item.Token what, rest)) × (new ≡ old ++ token_on spot what ∷ [])

-- the token that is read is put behind those found before
abbrev pub Puts : Spot → List Token → List Token → Result (Piece × Bor (List ℕ)) Fault → ReadsItem → Type 0
Puts spot old new (Ok p) read = PutsPiece spot old new p.0 (chars p.1.now) read
Puts spot old new (Err (fault.Bad c)) read = read ≡ Err c
Puts spot old new (Err fault.NoMemory) read = Unit {0}
