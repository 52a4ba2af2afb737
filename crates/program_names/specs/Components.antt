-- The components of a document: which objects stand together, and their ids.
use Rattle.std.specs.Prelude.{ℕ, zero, suc, Bool, true, false, ◌&&◌, ◌||◌, nat_eq, nat_lt, if◌then◌else◌, List, [], ◌∷◌, length, slice_get, Option, Some, None}
use Rattle.std.specs.Str.{bytes_eq}
use Rattle.std.specs.Option.{option_map, is_some, unwrap_or}
use Rattle.std.specs.List.{filter}
use Rattle.qml_base.specs.declared.numbers.Place.{Place}
use Rattle.qml_syntax.specs.Tree.{Units}
use Rattle.program_names.specs.Written.{WrittenMember, an_id, OwnedMember, WrittenAs, as_root, as_child, as_value}
use Rattle.program_names.specs.Loaded.{Program, unit_at, object_at}

-- Of an object: whether it is the root of a component inside its document, where that is known. Such roots are what a
-- Component holds, and what is written for a Component's property and is no Component; around that a Component is made.
abbrev pub IsRoot : Type 0
IsRoot = Option Bool

-- for each document and each object in it
abbrev pub Roots : Type 0
Roots = List (List IsRoot)

abbrev pub is_root_at : Roots → ℕ → ℕ → IsRoot
is_root_at roots d o = unwrap_or (slice_get (unwrap_or (slice_get roots d) []) o) None

abbrev owner_by : WrittenAs → Option ℕ
owner_by as_root = None
owner_by (as_child w) = Some w
owner_by (as_value w path) = Some w

-- the object in which an object is written
abbrev pub owner : Program → ℕ → ℕ → Option ℕ
owner p d o = owner_by (object_at p d o).role

abbrev pub is_true : IsRoot → Bool
is_true (Some b) = b
is_true None = false

abbrev pub around : {A : Type 0} → A → (ℕ → A) → Option ℕ → A
around last go_on None = last
around last go_on (Some w) = go_on w

-- the root of the component in which an object stands, with this many objects around it at most
abbrev pub root_within : ℕ → Program → Roots → ℕ → ℕ → ℕ
root_within zero p roots d o = 0
root_within (suc n) p roots d o =
    elim (is_true (is_root_at roots d o)) [
      | true ↦ o
      | false ↦ around o (λ w. root_within n p roots d w) (owner p d o)
    ]

abbrev pub root_of : Program → Roots → ℕ → ℕ → ℕ
root_of p roots d o = root_within (length (unit_at p d).objects) p roots d o

-- whether it is known for an object and all around it
abbrev pub known_within : ℕ → Program → Roots → ℕ → ℕ → Bool
known_within zero p roots d o = true
known_within (suc n) p roots d o =
    elim (is_some (is_root_at roots d o)) [
      | false ↦ false
      | true ↦ around true (λ w. known_within n p roots d w) (owner p d o)
    ]

abbrev pub is_known : Program → Roots → ℕ → ℕ → Bool
is_known p roots d o = known_within (length (unit_at p d).objects) p roots d o

-- the root of the component around the one of this root
abbrev pub enclosing : Program → Roots → ℕ → ℕ → Option ℕ
enclosing p roots d root = option_map (λ w. root_of p roots d w) (owner p d root)

-- ---- ids

pub record Id : Type 0 where
  pub word : Place
  pub name : Units
  pub at : Place
  pub object : ℕ

abbrev pub with_id : ℕ → WrittenMember → List Id → List Id
with_id o (an_id word name at) rest = record { word = word; name = name; at = at; object = o } ∷ rest
with_id o m rest = rest

abbrev pub ids_of_rows : List OwnedMember → List Id
ids_of_rows [] = []
ids_of_rows (r ∷ rest) = with_id r.object r.member (ids_of_rows rest)

-- in the order of writing
abbrev pub ids_written : Program → ℕ → List Id
ids_written p d = ids_of_rows (unit_at p d).rows

abbrev pub stands_in : Program → Roots → ℕ → ℕ → Id → Bool
stands_in p roots d root i = is_known p roots d i.object && nat_eq (root_of p roots d i.object) root

-- the ids of a component
abbrev pub ids_in : Program → Roots → ℕ → ℕ → List Id
ids_in p roots d root = filter (stands_in p roots d root) (ids_written p d)

abbrev pub is_before : Place → Place → Bool
is_before a b = nat_lt a.line b.line || (nat_eq a.line b.line && nat_lt a.column b.column)

abbrev pub first_id : List Id → Units → Option ℕ
first_id [] name = None
first_id (i ∷ rest) name = if bytes_eq i.name name then Some i.object else first_id rest name

-- the object of an id in a component: of several the first in the text
abbrev pub id_in : Program → Roots → ℕ → ℕ → Units → Option ℕ
id_in p roots d root name = first_id (ids_in p roots d root) name
