-- The members of a document with the names of the groups around them put in front.
use Rattle.std.specs.Prelude.{ℕ, List, [], ◌∷◌, ◌++◌, slice_get, Option, Some, None}
use Rattle.std.specs.Option.{unwrap_or}
use Rattle.qml_base.specs.declared.numbers.Place.{Place}
use Rattle.qml_syntax.specs.Tree.{Units, group}
use Rattle.qml_syntax.specs.Nodes.{Item, of_member}
use Rattle.program_names.specs.Written.{WrittenMember, a_stray, member_from, OwnedMember, row}
use Rattle.document_rows.specs.Entries.{MemberEntry}

-- the names that a member adds for those in it
abbrev pub names_added : Item → List Units
names_added (of_member (group n p ns ms) b) = n ∷ ns
names_added _ = []

-- the path of the row of a group, of those of all rows so far
abbrev pub path_at : List (List Units) → Option ℕ → List Units
path_at paths None = []
path_at paths (Some k) = unwrap_or (slice_get paths k) []

abbrev pub nowhere : Place
nowhere = record { line = 0; column = 0 }

abbrev pub member_of : List Units → ℕ → Item → WrittenMember
member_of before n (of_member m b) = member_from before n m
member_of before n _ = a_stray nowhere

-- the rows behind some, whose paths these are
abbrev pub rows_behind : List (List Units) → List MemberEntry → List OwnedMember
rows_behind paths [] = []
rows_behind paths (e ∷ rest) =
    let before = path_at paths e.group in
    row e.object (member_of before e.first e.part) ∷ rows_behind (paths ++ (before ++ names_added e.part) ∷ []) rest
