-- The objects of a document and the members of objects and groups, in the order of writing, each before those in it. An
-- object has a number, from 0 on, and so has a member's row.
use Rattle.std.specs.Prelude.{◌≡◌, ℕ, suc, ◌+◌, false, List, [], ◌∷◌, ◌++◌, map, Option, Some, None}
use Rattle.qml_syntax.specs.Tree.{Import, document, Object, object, Members, no_members, a_member, Member, id, property, bare, alias, signal, method, given, group, child, Value, value_object, value_list, value_stmt, Objects, last_object, an_object}
use Rattle.qml_syntax.specs.Nodes.{Item, of_member, of_object, Table}
use Rattle.qml_syntax.specs.Listed.{listed_document}
use Rattle.qml_syntax.specs.Places.{part_at}
use Rattle.program_names.specs.Written.{count_object, count_member}
use Rattle.document_rows.specs.declared.rows.ObjectRow.{ObjectRow}
use Rattle.document_rows.specs.declared.rows.MemberRow.{MemberRow}

-- an object, and the row of the member as which or in the value of which it is written
pub record ObjectEntry : Type 0 where
  pub row : Option ℕ
  pub part : Item

-- a member with the number of its object, the row of the group that it stands in, and the number of the first object in it
pub record MemberEntry : Type 0 where
  pub object : ℕ
  pub group : Option ℕ
  pub first : ℕ
  pub part : Item

abbrev pub an_object_entry : Option ℕ → Object → ObjectEntry
an_object_entry row o = record { row = row; part = of_object o }

abbrev pub a_member_entry : ℕ → Option ℕ → ℕ → Member → MemberEntry
a_member_entry o around n m = record { object = o; group = around; first = n; part = of_member m false }

-- ---- how many rows are in an object, and in a member beside its own

abbrev mutual
  pub rows_in_object : Object → ℕ
  rows_in_object (object t ms) = rows_in_members ms

  pub rows_in_members : Members → ℕ
  rows_in_members no_members = 0
  rows_in_members (a_member m b ms) = suc (rows_in_member m) + rows_in_members ms

  pub rows_in_member : Member → ℕ
  rows_in_member (id p n q c) = 0
  rows_in_member (property p a k n q v) = rows_in_value v
  rows_in_member (bare p a k n q c) = 0
  rows_in_member (alias p d n q t r ns c) = 0
  rows_in_member (signal p n q ps c) = 0
  rows_in_member (method f) = 0
  rows_in_member (given n p ns v) = rows_in_value v
  rows_in_member (group n p ns ms) = rows_in_members ms
  rows_in_member (child o) = rows_in_object o

  pub rows_in_value : Value → ℕ
  rows_in_value (value_object o) = rows_in_object o
  rows_in_value (value_list p os) = rows_in_list os
  rows_in_value (value_stmt s) = 0

  pub rows_in_list : Objects → ℕ
  rows_in_list (last_object o) = rows_in_object o
  rows_in_list (an_object o os) = rows_in_object o + rows_in_list os

-- ---- the objects: `k` is the row of the first member in them

abbrev mutual
  pub objects_with : Option ℕ → ℕ → Object → List ObjectEntry
  objects_with row k (object t ms) = an_object_entry row (object t ms) ∷ objects_of_members k ms

  pub objects_of_members : ℕ → Members → List ObjectEntry
  objects_of_members k no_members = []
  objects_of_members k (a_member m b ms) =
      objects_of_member k m ++ objects_of_members (suc k + rows_in_member m) ms

  -- those in the member of row k
  pub objects_of_member : ℕ → Member → List ObjectEntry
  objects_of_member k (id p n q c) = []
  objects_of_member k (property p a x n q v) = objects_of_value k (suc k) v
  objects_of_member k (bare p a x n q c) = []
  objects_of_member k (alias p d n q t r ns c) = []
  objects_of_member k (signal p n q ps c) = []
  objects_of_member k (method f) = []
  objects_of_member k (given n p ns v) = objects_of_value k (suc k) v
  objects_of_member k (group n p ns ms) = objects_of_members (suc k) ms
  objects_of_member k (child o) = objects_with (Some k) (suc k) o

  pub objects_of_value : ℕ → ℕ → Value → List ObjectEntry
  objects_of_value row k (value_object o) = objects_with (Some row) k o
  objects_of_value row k (value_list p os) = objects_of_list row k os
  objects_of_value row k (value_stmt s) = []

  pub objects_of_list : ℕ → ℕ → Objects → List ObjectEntry
  objects_of_list row k (last_object o) = objects_with (Some row) k o
  objects_of_list row k (an_object o os) = objects_with (Some row) k o ++ objects_of_list row (k + rows_in_object o) os

-- ---- the members: `n` is the number of the first object in them, `k` the row of the first of them

abbrev mutual
  -- those of an object of number n, and of all objects in it
  pub members_with : ℕ → ℕ → Object → List MemberEntry
  members_with n k (object t ms) = members_of n None (suc n) k ms

  pub members_of : ℕ → Option ℕ → ℕ → ℕ → Members → List MemberEntry
  members_of o around n k no_members = []
  members_of o around n k (a_member m b ms) =
      a_member_entry o around n m ∷ members_inside o n k m ++
      members_of o around (n + count_member m) (suc k + rows_in_member m) ms

  -- those in the member of row k
  pub members_inside : ℕ → ℕ → ℕ → Member → List MemberEntry
  members_inside o n k (id p x q c) = []
  members_inside o n k (property p a y x q v) = members_of_value n (suc k) v
  members_inside o n k (bare p a y x q c) = []
  members_inside o n k (alias p d x q t r ns c) = []
  members_inside o n k (signal p x q ps c) = []
  members_inside o n k (method f) = []
  members_inside o n k (given x p ns v) = members_of_value n (suc k) v
  members_inside o n k (group x p ns ms) = members_of o (Some k) n (suc k) ms
  members_inside o n k (child c) = members_with n (suc k) c

  pub members_of_value : ℕ → ℕ → Value → List MemberEntry
  members_of_value n k (value_object c) = members_with n k c
  members_of_value n k (value_list p os) = members_of_list n k os
  members_of_value n k (value_stmt s) = []

  pub members_of_list : ℕ → ℕ → Objects → List MemberEntry
  members_of_list n k (last_object c) = members_with n k c
  members_of_list n k (an_object c os) =
      members_with n k c ++ members_of_list (n + count_object c) (k + rows_in_object c) os

-- ---- rows of a tree

abbrev pub IsDocument : Table → Type 0
IsDocument t = (imports : List Import) × (root : Object) × (listed_document (document imports root) ≡ t)

abbrev pub object_entry : Table → ObjectRow → ObjectEntry
object_entry t r = record { row = r.row; part = part_at t r.node }

abbrev pub member_entry : Table → MemberRow → MemberEntry
member_entry t r = record { object = r.object; group = r.group; first = r.first; part = part_at t r.node }

-- these rows are those of the document of which the tree is
pub record AreRows (t : Table) (objects : List ObjectRow) (members : List MemberRow) : Type 0 where
  pub imports : List Import
  pub root : Object
  pub tree : listed_document (document imports root) ≡ t
  pub all_objects : map (object_entry t) objects ≡ objects_with None 0 root
  pub all_members : map (member_entry t) members ≡ members_with 0 0 root
