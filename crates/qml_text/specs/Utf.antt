-- Texts and UTF-8.
use Rattle.std.specs.Prelude.{◌≡◌, ℕ, true, List, Result, Ok, Err}
use Rattle.std.specs.List.{flat_map}
use Rattle.std.specs.Char.Escape.{encode_utf16}
use Rattle.std.specs.Str.{IsUtf8, IsValidUpTo, encode_utf8_all, all_scalars}
use Rattle.qml_text.specs.declared.fault.TextFault.{TextFault}
use Rattle.qml_text.specs.declared.fault.TextFault.TheVariants as fault

-- the units of these characters in UTF-16
abbrev pub encode_utf16_all : List ℕ → List ℕ
encode_utf16_all characters = flat_map encode_utf16 characters

-- the bytes and the units spell the same characters, in UTF-8 and in UTF-16
abbrev pub SpellsTheSame : List ℕ → List ℕ → Type 0
SpellsTheSame bytes units = (characters : List ℕ) × (all_scalars characters ≡ true) × (encode_utf8_all characters ≡ bytes) × (encode_utf16_all characters ≡ units)

-- what reading bytes as UTF-8 answers
abbrev pub IsReadFromUtf8 : List ℕ → Result (List ℕ) TextFault → Type 0
IsReadFromUtf8 bytes (Ok units) = SpellsTheSame bytes units
IsReadFromUtf8 bytes (Err (fault.BadByte at)) = (¬ (IsUtf8 bytes)) × IsValidUpTo bytes at
IsReadFromUtf8 bytes (Err fault.NoMemory) = Unit {0}
