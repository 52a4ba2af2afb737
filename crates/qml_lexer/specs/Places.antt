-- Lines and places in bytes.
use Rattle.std.specs.Prelude.{◌≡◌, ℕ, zero, suc, ◌+◌, ◌-◌, ◌≤◌, Bool, not, ◌&&◌, ◌||◌, ◌==◌, nat_lt, List, [], ◌∷◌, length, drop, slice_index, if◌then◌else◌}
use Rattle.std.specs.List.{starts_with}
use Rattle.std.specs.Prelude.{nat_eq}
use Rattle.qml_base.specs.declared.numbers.Place.{Place}
use Rattle.qml_lexer.specs.declared.lines.Line.{Line}

-- the byte order mark, U+FEFF in UTF-8
abbrev pub byte_order_mark : List ℕ
byte_order_mark = 239 ∷ 187 ∷ 191 ∷ []

-- the bytes behind a byte order mark at their start, and how many bytes that mark takes
abbrev pub body_of : List ℕ → List ℕ
body_of bytes = if starts_with nat_eq bytes byte_order_mark then drop 3 bytes else bytes

abbrev pub mark_len : List ℕ → ℕ
mark_len bytes = if starts_with nat_eq bytes byte_order_mark then 3 else 0

-- a line ends with the byte `at`: with LF, and with CR where no LF follows it
abbrev pub ends_line : List ℕ → ℕ → Bool
ends_line bytes at = (slice_index bytes at == 10) || ((slice_index bytes at == 13) && not (nat_lt (at + 1) (length bytes) && (slice_index bytes (at + 1) == 10)))

-- of the byte `at`: 1 plus the lines that end before it, and how many bytes stand before its line
abbrev pub line_number : List ℕ → ℕ → ℕ
line_number bytes zero = 1
line_number bytes (suc at) = if ends_line bytes at then line_number bytes at + 1 else line_number bytes at

abbrev pub line_start : List ℕ → ℕ → ℕ
line_start bytes zero = 0
line_start bytes (suc at) = if ends_line bytes at then at + 1 else line_start bytes at

-- the place of the byte `at`
abbrev pub place_at : List ℕ → ℕ → Place
place_at bytes at = record { line = line_number bytes at; column = 1 + (at - line_start bytes at) }

-- the line of the byte `at`
pub record IsLineAt (bytes : List ℕ) (at : ℕ) (line : Line) : Type 0 where
  pub number : line.number ≡ line_number bytes at
  pub start : line.start ≡ line_start bytes at
  pub few : line.number ≤ at + 1
  pub before : line.start ≤ at
