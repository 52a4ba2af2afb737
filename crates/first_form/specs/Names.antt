-- Names of properties, and the cells that they stand for.
use Rattle.std.specs.Prelude.{ℕ, nat_eq, position, is_some, ◌&&◌, ◌||◌, not, Bool, false, List, [], ◌∷◌, codes}
use Rattle.std.specs.declared.option.Option.{Option}
use Rattle.std.specs.List.{list_any, list_all, ends_with}
use Rattle.std.specs.Str.{bytes_eq}
use Rattle.std.specs.Char.{is_ascii_lowercase, is_ascii_alphanumeric}
use Rattle.first_form.specs.declared.names.TheConstants.{RESERVED}

abbrev pub begins_lowercase : List ℕ → Bool
begins_lowercase [] = false
begins_lowercase (b ∷ bs) = is_ascii_lowercase b

abbrev pub is_reserved : List ℕ → Bool
is_reserved word = list_any (λ r. bytes_eq r.now word) RESERVED

-- a letter from a to z, then letters and digits
abbrev pub is_spelled : List ℕ → Bool
is_spelled word = begins_lowercase word && list_all is_ascii_alphanumeric word

-- a word with a meaning of its own
abbrev pub is_kept : List ℕ → Bool
is_kept word = is_reserved word || ends_with nat_eq word (codes "Changed")

-- whether a word may be the name of a property
unfoldable pub is_name : List ℕ → Bool
is_name word = is_spelled word && not (is_kept word)

-- the number of the cell of a name
abbrev pub cell_of : List (List ℕ) → List ℕ → Option ℕ
cell_of names word = position (λ name. bytes_eq word name) names

-- whether a name may be declared after these
abbrev pub is_new_name : List (List ℕ) → List ℕ → Bool
is_new_name names name = is_name name && not (is_some (cell_of names name))
