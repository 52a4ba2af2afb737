-- Texts as UTF-8; a surrogate that stands alone becomes the replacement character.
use Rattle.std.specs.Prelude.{ℕ, ◌+◌, ◌-◌, ◌*◌, Bool, true, false, ◌&&◌, ◌||◌, nat_le, if◌then◌else◌, List, [], ◌∷◌, encode_utf8_all}
use Rattle.qml_syntax.specs.Tree.{Units}

abbrev is_high : ℕ → Bool
is_high u = nat_le 55296 u && nat_le u 56319

abbrev is_low : ℕ → Bool
is_low u = nat_le 56320 u && nat_le u 57343

abbrev alone : ℕ → ℕ
alone u = if is_high u || is_low u then 65533 else u

abbrev paired : ℕ → ℕ → ℕ
paired u v = 65536 + (u - 55296) * 1024 + (v - 56320)

abbrev chars_of : Units → List ℕ
chars_of [] = []
chars_of (u ∷ []) = alone u ∷ []
chars_of (u ∷ v ∷ rest) =
    elim (is_high u && is_low v) [ true ↦ paired u v ∷ chars_of rest | false ↦ alone u ∷ chars_of (v ∷ rest) ]

abbrev pub utf8_of : Units → List ℕ
utf8_of units = encode_utf8_all (chars_of units)
