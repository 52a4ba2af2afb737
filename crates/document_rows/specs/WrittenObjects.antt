-- The objects of a document as its rows say them: the type of each, what it is written as, and its members.
use Rattle.std.specs.Prelude.{ℕ, nat_eq, if◌then◌else◌, List, [], ◌∷◌, ◌++◌, slice_get, Option, Some, None}
use Rattle.std.specs.Option.{option_map, unwrap_or}
use Rattle.std.specs.List.{flat_map}
use Rattle.qml_syntax.specs.Tree.{Units, TypeName, object, property, given, child}
use Rattle.qml_syntax.specs.Nodes.{Item, of_member, of_object, type_named}
use Rattle.program_names.specs.Written.{WrittenMember, WrittenAs, as_root, as_child, as_value, WrittenObject, OwnedMember}
use Rattle.document_rows.specs.Entries.{ObjectEntry, MemberEntry}
use Rattle.document_rows.specs.WholePaths.{names_added, path_at, nowhere}

-- a member's entry with the names of the groups around it
abbrev pub Placed : Type 0
Placed = List Units × MemberEntry

-- the entries behind some, whose paths these are
abbrev pub placed_behind : List (List Units) → List MemberEntry → List Placed
placed_behind paths [] = []
placed_behind paths (e ∷ rest) =
    let before = path_at paths e.group in
    (before, e) ∷ placed_behind (paths ++ (before ++ names_added e.part) ∷ []) rest

-- what an object is written as, of which this is the member
abbrev pub role_in : ℕ → List Units → Item → WrittenAs
role_in o before (of_member (property p a k n q v) b) = as_value o (n ∷ [])
role_in o before (of_member (given n p ns v) b) = as_value o (before ++ n ∷ ns)
role_in o before (of_member (child c) b) = as_child o
role_in o before _ = as_root

abbrev pub role_of_entry : Option Placed → WrittenAs
role_of_entry None = as_root
role_of_entry (Some x) = role_in x.1.object x.0 x.1.part

abbrev pub role_by : List Placed → Option ℕ → WrittenAs
role_by all None = as_root
role_by all (Some k) = role_of_entry (slice_get all k)

abbrev pub type_in : Item → TypeName
type_in (of_object (object t ms)) = t
type_in _ = type_named (([], nowhere), [])

-- the type of an object and what it is written as, of all members
abbrev pub typed_by : List Placed → ObjectEntry → TypeName × WrittenAs
typed_by all e = (type_in e.part, role_by all e.row)

abbrev pub typed : WrittenObject → TypeName × WrittenAs
typed w = (w.type, w.role)

-- ---- members

abbrev pub kept : ℕ → OwnedMember → List WrittenMember
kept o r = if nat_eq r.object o then r.member ∷ [] else []

-- those of the object of a number
abbrev pub members_of_object : ℕ → List OwnedMember → List WrittenMember
members_of_object o rows = flat_map (kept o) rows

abbrev pub members_at : List WrittenObject → ℕ → List WrittenMember
members_at ws o = unwrap_or (option_map (λ w. w.members) (slice_get ws o)) []
