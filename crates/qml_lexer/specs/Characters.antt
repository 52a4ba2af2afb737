-- Classes of characters, and runs of one class.
use Rattle.std.specs.Prelude.{ℕ, Bool, false, not, ◌&&◌, ◌||◌, ◌==◌, List, [], ◌∷◌, if◌then◌else◌}
use Rattle.unicode_ident.specs.Ident.{is_xid_start, is_xid_continue}

-- a name begins with a start of an identifier, `_` or `$`
abbrev pub is_start : ℕ → Bool
is_start x = is_xid_start x || (x == 95) || (x == 36)

-- it goes on with what an identifier goes on with, or `$`
abbrev pub is_part : ℕ → Bool
is_part x = is_xid_continue x || (x == 36)

-- LF and CR
abbrev pub is_line_end : ℕ → Bool
is_line_end x = (x == 10) || (x == 13)

abbrev pub is_in_line : ℕ → Bool
is_in_line x = not (is_line_end x)

-- space, tab, VT, FF, line ends, U+00A0 and U+FEFF
abbrev pub is_blank : ℕ → Bool
is_blank x = (x == 32) || (x == 9) || (x == 11) || (x == 12) || is_line_end x || (x == 160) || (x == 65279)

abbrev pub is_quote : ℕ → Bool
is_quote x = (x == 34) || (x == 39)

-- it stands for itself between either quotes
abbrev pub is_plain : ℕ → Bool
is_plain x = (not (is_quote x) && not (is_line_end x)) && not (x == 92)

-- a character of the class stands at the front
abbrev pub begins : (ℕ → Bool) → List ℕ → Bool
begins p [] = false
begins p (x ∷ xs) = p x

-- the characters of the class at the front, and what stands behind them
abbrev pub run : (ℕ → Bool) → List ℕ → List ℕ
run p [] = []
run p (x ∷ xs) = if p x then x ∷ run p xs else []

abbrev pub behind : (ℕ → Bool) → List ℕ → List ℕ
behind p [] = []
behind p (x ∷ xs) = if p x then behind p xs else x ∷ xs
