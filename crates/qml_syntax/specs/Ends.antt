-- Single tokens, and how statements end.
use Rattle.std.specs.Prelude.{◌≡◌, Bool, true, false, ◌⊎◌, List, [], ◌∷◌}
use Rattle.qml_base.specs.declared.numbers.Place.{Place}
use Rattle.qml_syntax.specs.declared.token.TokenKind.{TokenKind}
use Rattle.qml_syntax.specs.declared.token.TokenKind.TheVariants as k
use Rattle.qml_syntax.specs.declared.mark.Mark.{Mark}
use Rattle.qml_syntax.specs.declared.mark.Mark.TheVariants as m
use Rattle.qml_syntax.specs.declared.token.Token.{Token}
use Rattle.qml_syntax.specs.Tree.{Close, semi, auto, Maybe, nothing, just, Vars, last_var, a_var}
use Rattle.qml_syntax.specs.Levels.{is_open}

-- one token of this kind at this place stands before the rest
pub data One : TokenKind → Place → List Token → List Token → Type 0 where
  a_token : {kind : TokenKind} {t : Token} {rest : List Token} → t.what ≡ kind → One kind t.place (t ∷ rest) rest

-- likewise, at any place
pub data Sees : TokenKind → List Token → List Token → Type 0 where
  seen : {kind : TokenKind} {t : Token} {rest : List Token} → t.what ≡ kind → Sees kind (t ∷ rest) rest

-- no line end stands before the first token
abbrev pub OnLine : List Token → Type 0
OnLine [] = Unit {0}
OnLine (t ∷ rest) = t.after_line ≡ false

-- the first token isn't of this kind
abbrev pub Lacks : TokenKind → List Token → Type 0
Lacks kind [] = Unit {0}
Lacks kind (t ∷ rest) = t.what ≡ kind → ⊥

-- what stands last in a statement: a name that is declared without a value, or an expression that a call may follow or not
pub data Last : Type 0 where
  bare : Last
  shut : Last
  callable : Last

abbrev pub last_of : Bool → Last
last_of true = callable
last_of false = shut

abbrev pub last_maybe : Maybe → Last
last_maybe nothing = bare
last_maybe (just e) = last_of (is_open e)

abbrev pub last_vars : Vars → Last
last_vars (last_var n p i) = last_maybe i
last_vars (a_var n p i vs) = last_vars vs

-- whether a token can go on with such a statement; `;` does, as its end
abbrev pub goes_on_mark : Last → Mark → Bool
goes_on_mark callable m.LeftParen = true
goes_on_mark callable m.LeftBracket = true
goes_on_mark _ m.LeftParen = false
goes_on_mark _ m.LeftBracket = false
goes_on_mark bare m.Plus = false
goes_on_mark bare m.Minus = false
goes_on_mark _ m.LeftBrace = false
goes_on_mark _ m.Increment = false
goes_on_mark _ m.Decrement = false
goes_on_mark _ m.Not = false
goes_on_mark _ m.BitNot = false
goes_on_mark _ _ = true

abbrev pub goes_on : Last → TokenKind → Bool
goes_on l (k.Mark x) = goes_on_mark l x
goes_on l _ = false

-- a statement may end before this token without a `;`: at `}`, or at a line end before a token that can't go on with it
abbrev pub EndsBefore : Last → Token → Type 0
EndsBefore l t = (t.what ≡ k.Mark m.RightBrace) ⊎ ((t.after_line ≡ true) × (goes_on l t.what ≡ false))

abbrev pub MayEnd : Last → List Token → Type 0
MayEnd l [] = Unit {0}
MayEnd l (t ∷ rest) = EndsBefore l t

pub data ReadsClose : Last → Close → List Token → List Token → Type 0 where
  c_semi : {l : Last} {a rest : List Token} → Sees (k.Mark m.Semicolon) a rest → ReadsClose l semi a rest
  c_auto : {l : Last} {rest : List Token} → MayEnd l rest → ReadsClose l auto rest rest

-- behind a lone `return`, `break` or `continue` each line end ends the statement
abbrev pub AloneBefore : Token → Type 0
AloneBefore t = (t.what ≡ k.Mark m.RightBrace) ⊎ (t.after_line ≡ true)

abbrev pub EndsAlone : List Token → Type 0
EndsAlone [] = Unit {0}
EndsAlone (t ∷ rest) = AloneBefore t

pub data ClosesAlone : Close → List Token → List Token → Type 0 where
  b_semi : {a rest : List Token} → OnLine a → Sees (k.Mark m.Semicolon) a rest → ClosesAlone semi a rest
  b_auto : {rest : List Token} → EndsAlone rest → ClosesAlone auto rest rest
