-- Texts of which each unit is a character below 128.
use Rattle.std.specs.Prelude.{◌≡◌, ℕ, Bool, false, nat_lt, List, Option, Some, None}
use Rattle.std.specs.declared.alloc.Global.{Global}
use Rattle.std.specs.declared.string.String.{String}
use Rattle.std.specs.String.{string_bytes}
use Rattle.std.specs.List.{list_all}

abbrev pub is_ascii : List ℕ → Bool
is_ascii units = list_all (λ u. nat_lt u 128) units

-- the same characters as UTF-8, where there are no others
abbrev pub SpellsAscii : List ℕ → Option (String Global) → Type 0
SpellsAscii units (Some name) = string_bytes name ≡ units
SpellsAscii units None = is_ascii units ≡ false
