-- Marks, and the one at the front.
use Rattle.std.specs.Prelude.{ℕ, ◌==◌, List, [], ◌∷◌, Option, Some, None, if◌then◌else◌}
use Rattle.qml_syntax.specs.declared.mark.Mark.{Mark}
use Rattle.qml_syntax.specs.declared.mark.Mark.TheVariants as mark_kind
use Rattle.qml_lexer.specs.declared.marks.TheConstants.{MARKS}

-- how a mark is written
abbrev pub mark_spelling : Mark → List ℕ
mark_spelling mark_kind.LeftBrace = 123 ∷ []  -- {
mark_spelling mark_kind.RightBrace = 125 ∷ []  -- }
mark_spelling mark_kind.LeftParen = 40 ∷ []  -- (
mark_spelling mark_kind.RightParen = 41 ∷ []  -- )
mark_spelling mark_kind.LeftBracket = 91 ∷ []  -- [
mark_spelling mark_kind.RightBracket = 93 ∷ []  -- ]
mark_spelling mark_kind.Semicolon = 59 ∷ []  -- ;
mark_spelling mark_kind.Comma = 44 ∷ []  -- ,
mark_spelling mark_kind.Dot = 46 ∷ []  -- .
mark_spelling mark_kind.Colon = 58 ∷ []  -- :
mark_spelling mark_kind.Question = 63 ∷ []  -- ?
mark_spelling mark_kind.Coalesce = 63 ∷ 63 ∷ []  -- ??
mark_spelling mark_kind.Plus = 43 ∷ []  -- +
mark_spelling mark_kind.Minus = 45 ∷ []  -- -
mark_spelling mark_kind.Star = 42 ∷ []  -- *
mark_spelling mark_kind.Slash = 47 ∷ []  -- /
mark_spelling mark_kind.Percent = 37 ∷ []  -- %
mark_spelling mark_kind.Increment = 43 ∷ 43 ∷ []  -- ++
mark_spelling mark_kind.Decrement = 45 ∷ 45 ∷ []  -- --
mark_spelling mark_kind.Assign = 61 ∷ []  -- =
mark_spelling mark_kind.PlusAssign = 43 ∷ 61 ∷ []  -- +=
mark_spelling mark_kind.MinusAssign = 45 ∷ 61 ∷ []  -- -=
mark_spelling mark_kind.StarAssign = 42 ∷ 61 ∷ []  -- *=
mark_spelling mark_kind.SlashAssign = 47 ∷ 61 ∷ []  -- /=
mark_spelling mark_kind.PercentAssign = 37 ∷ 61 ∷ []  -- %=
mark_spelling mark_kind.Equal = 61 ∷ 61 ∷ []  -- ==
mark_spelling mark_kind.NotEqual = 33 ∷ 61 ∷ []  -- !=
mark_spelling mark_kind.StrictEqual = 61 ∷ 61 ∷ 61 ∷ []  -- ===
mark_spelling mark_kind.StrictNotEqual = 33 ∷ 61 ∷ 61 ∷ []  -- !==
mark_spelling mark_kind.Less = 60 ∷ []  -- <
mark_spelling mark_kind.Greater = 62 ∷ []  -- >
mark_spelling mark_kind.LessEqual = 60 ∷ 61 ∷ []  -- <=
mark_spelling mark_kind.GreaterEqual = 62 ∷ 61 ∷ []  -- >=
mark_spelling mark_kind.And = 38 ∷ 38 ∷ []  -- &&
mark_spelling mark_kind.Or = 124 ∷ 124 ∷ []  -- ||
mark_spelling mark_kind.Not = 33 ∷ []  -- !
mark_spelling mark_kind.BitAnd = 38 ∷ []  -- &
mark_spelling mark_kind.BitOr = 124 ∷ []  -- |
mark_spelling mark_kind.BitXor = 94 ∷ []  -- ^
mark_spelling mark_kind.BitNot = 126 ∷ []  -- ~
mark_spelling mark_kind.ShiftLeft = 60 ∷ 60 ∷ []  -- <<
mark_spelling mark_kind.ShiftRight = 62 ∷ 62 ∷ []  -- >>
mark_spelling mark_kind.ShiftRightUnsigned = 62 ∷ 62 ∷ 62 ∷ []  -- >>>
mark_spelling mark_kind.BitAndAssign = 38 ∷ 61 ∷ []  -- &=
mark_spelling mark_kind.BitOrAssign = 124 ∷ 61 ∷ []  -- |=
mark_spelling mark_kind.BitXorAssign = 94 ∷ 61 ∷ []  -- ^=
mark_spelling mark_kind.ShiftLeftAssign = 60 ∷ 60 ∷ 61 ∷ []  -- <<=
mark_spelling mark_kind.ShiftRightAssign = 62 ∷ 62 ∷ 61 ∷ []  -- >>=
mark_spelling mark_kind.ShiftRightUnsignedAssign = 62 ∷ 62 ∷ 62 ∷ 61 ∷ []  -- >>>=
mark_spelling mark_kind.Arrow = 61 ∷ 62 ∷ []  -- =>

-- what stands behind these characters
abbrev pub behind_all : List ℕ → List ℕ → Option (List ℕ)
behind_all xs [] = Some xs
behind_all [] (s ∷ ss) = None
behind_all (x ∷ xs) (s ∷ ss) = if x == s then behind_all xs ss else None

abbrev pub found_or : Mark → Option (List ℕ) → Option (Mark × List ℕ) → Option (Mark × List ℕ)
found_or m None others = others
found_or m (Some rest) others = Some (m, rest)

-- the first of these marks that stands at the front
abbrev pub first_of : List Mark → List ℕ → Option (Mark × List ℕ)
first_of [] xs = None
first_of (m ∷ ms) xs = found_or m (behind_all xs (mark_spelling m)) (first_of ms xs)

unfoldable pub mark : List ℕ → Option (Mark × List ℕ)
mark xs = first_of MARKS xs
