-- Names, and the names of handlers and of the signals of changes.
use Rattle.std.specs.Prelude.{ℕ, ◌-◌, Bool, false, not, ◌&&◌, ◌||◌, nat_eq, nat_le, if◌then◌else◌, List, [], ◌∷◌, ◌++◌, codes}
use Rattle.std.specs.Str.{bytes_eq}
use Rattle.std.specs.List.{list_any}
use Rattle.qml_syntax.specs.Tree.{Units}

abbrev pub is_in : Units → List Units → Bool
is_in name names = list_any (bytes_eq name) names

abbrev pub is_small_letter : ℕ → Bool
is_small_letter c = nat_le 97 c && nat_le c 122

abbrev pub is_digit : ℕ → Bool
is_digit c = nat_le 48 c && nat_le c 57

-- the name with its first letter raised where that is one of a to z
abbrev pub raised : Units → Units
raised [] = []
raised (c ∷ rest) = (if is_small_letter c then c - 32 else c) ∷ rest

-- the handler of a signal: `on`, then its name raised
abbrev pub handler_of : Units → Units
handler_of signal = 111 ∷ 110 ∷ raised signal

-- whether a raised name of some signal begins so
abbrev pub begins_raised : Units → Bool
begins_raised [] = false
begins_raised (c ∷ rest) = not (is_small_letter c || is_digit c)

-- whether a name is that of the handler of some signal
abbrev pub is_handler_name : Units → Bool
is_handler_name (o ∷ n ∷ rest) = nat_eq o 111 && nat_eq n 110 && begins_raised rest
is_handler_name _ = false

-- the signal that is emitted where a property changes
abbrev pub changed : Units → Units
changed name = name ++ codes "Changed"

-- the last of some names, and those before it
abbrev pub last_name : Units → List Units → Units
last_name name [] = name
last_name name (next ∷ rest) = last_name next rest

abbrev pub front_names : Units → List Units → List Units
front_names name [] = []
front_names name (next ∷ rest) = name ∷ front_names next rest

abbrev pub last_of : List Units → Units
last_of [] = []
last_of (name ∷ rest) = last_name name rest

abbrev pub front_of : List Units → List Units
front_of [] = []
front_of (name ∷ rest) = front_names name rest
