-- Documents of one object with whole numbers.
use Rattle.std.specs.Prelude.{ℕ, ◌==◌, nat_le, Bool, true, false, map, List, [], ◌∷◌, ◌++◌, length, None, Some, if◌then◌else◌, codes}
use Rattle.std.specs.declared.option.Option.{Option}
use Rattle.std.specs.Option.{option_map}
use Rattle.std.specs.Str.{bytes_eq}
use Rattle.first_form.specs.declared.members.Member.{Member}
use Rattle.first_form.specs.Blanks.{◌>>=◌, is_spaces, after_spaces, word_of, behind_word, lone_word, begins_with_line_end, after_gap, without_return, after_front}
use Rattle.first_form.specs.Names.{is_new_name}
use Rattle.first_form.specs.Pieces.{Pieces, last, piece, cut_of, pieces_of}
use Rattle.first_form.specs.Values.{content_of}

-- what follows this word, which stands behind spaces
abbrev pub after_word : List ℕ → List ℕ → Option (List ℕ)
after_word word bytes = if bytes_eq (word_of (after_spaces bytes)) word then Some (behind_word (after_spaces bytes)) else None

-- the name in `property int NAME`
abbrev pub declared_name : List ℕ → Option (List ℕ)
declared_name bytes = after_word (codes "property") bytes >>= after_word (codes "int") >>= lone_word

abbrev pub with_value : List (List ℕ) → List ℕ → List ℕ → Option Member
with_value names name value = if is_new_name names name then option_map (λ content. record { name = name; content = content }) (content_of names value) else None

-- the member that this line is, where names are declared before it
unfoldable pub member_of : List (List ℕ) → List ℕ → Option Member
member_of names line = cut_of (58 ∷ []) line >>= λ c. declared_name c.before >>= λ name. with_value names name c.after

abbrev pub names_of : List Member → List (List ℕ)
names_of members = map (λ m. m.name) members

-- the members in the line that ends the object or is ended by a line end: one, or none where it is empty
abbrev pub members_in : List (List ℕ) → List ℕ → Option (List Member)
members_in names line = if is_spaces line then Some [] else option_map (λ m. m ∷ []) (member_of names line)

-- the members in the line that this mark ends
abbrev pub members_at : List (List ℕ) → ℕ → List ℕ → Option (List Member)
members_at names mark line = if mark == 10 then members_in names (without_return line) else option_map (λ m. m ∷ []) (member_of names line)

-- the members in the lines that `;` and line ends end, where names are declared before
abbrev pub members_of : List (List ℕ) → Pieces → Option (List Member)
members_of names (last line) = members_in names line
members_of names (piece line mark rest) = members_at names mark line >>= λ ms. option_map (λ more. ms ++ more) (members_of (names ++ names_of ms) rest)

abbrev pub is_empty : List ℕ → Bool
is_empty [] = true
is_empty (b ∷ bs) = false

-- the members, from behind the opening brace
abbrev pub in_braces : List ℕ → Option (List Member)
in_braces bytes = cut_of (125 ∷ []) bytes >>= λ c. if is_empty (after_gap c.after) then members_of [] (pieces_of (59 ∷ 10 ∷ []) c.before) else None

-- the object, where a line end stands before it
abbrev pub object_below : List ℕ → Option (List Member)
object_below bytes = if begins_with_line_end (after_spaces bytes)
    then (after_front (codes "QtObject") (after_gap bytes) >>= λ rest. after_front (codes "{") (after_gap rest) >>= in_braces) else None

-- the members of the root, where the bytes are a document of this form
unfoldable pub program_of : List ℕ → Option (List Member)
program_of bytes = if nat_le (length bytes) 4194304 then after_front (codes "import QtQml 2.15") bytes >>= object_below else None
