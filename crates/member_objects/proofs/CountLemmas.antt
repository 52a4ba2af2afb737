-- How many objects and members a part has.
use Rattle.std.proofs.Common.{◌≡◌, ◌∙◌, ap, refl, ℕ, suc, ◌+◌, arith, List, [], ◌∷◌, ◌++◌, length, Option, Some, None}
use Rattle.qml_syntax.specs.Tree.{Object, object, Members, no_members, a_member, Member, id, property, bare, alias, signal, method, given, group, child, Value, value_object, value_list, value_stmt, Objects, last_object, an_object}
use Rattle.program_names.specs.Written.{count_object, count_members, count_member, count_value, count_list}
use Rattle.document_rows.specs.Entries.{rows_in_object, rows_in_members, rows_in_member, rows_in_value, rows_in_list, objects_with, objects_of_members, objects_of_member, objects_of_value, objects_of_list, members_with, members_of, members_inside, members_of_value, members_of_list}
use Rattle.document_rows.proofs.PathLemmas.{added}

one_more : (a b : ℕ) → suc (a + b) ≡ suc a + b
one_more a b = omega arith

mutual
  pub count_rows : (n k : ℕ) (o : Object) → length (members_with n k o) ≡ rows_in_object o
  count_rows n k (object t ms) = count_rows_of n None (suc n) k ms

  pub count_rows_of : (o : ℕ) (g : Option ℕ) (n k : ℕ) (ms : Members) → length (members_of o g n k ms) ≡ rows_in_members ms
  count_rows_of o g n k no_members = refl
  count_rows_of o g n k (a_member m b ms) =
      ap suc (added (members_inside o n k m) (members_of o g (n + count_member m) (suc k + rows_in_member m) ms) (rows_in_member m) (rows_in_members ms)
      (count_inside o n k m) (count_rows_of o g (n + count_member m) (suc k + rows_in_member m) ms)) ∙ one_more (rows_in_member m) (rows_in_members ms)

  pub count_inside : (o n k : ℕ) (m : Member) → length (members_inside o n k m) ≡ rows_in_member m
  count_inside o n k (id p x q c) = refl
  count_inside o n k (property p a y x q v) = count_value_rows n (suc k) v
  count_inside o n k (bare p a y x q c) = refl
  count_inside o n k (alias p d x q t r ns c) = refl
  count_inside o n k (signal p x q ps c) = refl
  count_inside o n k (method f) = refl
  count_inside o n k (given x p ns v) = count_value_rows n (suc k) v
  count_inside o n k (group x p ns ms) = count_rows_of o (Some k) n (suc k) ms
  count_inside o n k (child c) = count_rows n (suc k) c

  count_value_rows : (n k : ℕ) (v : Value) → length (members_of_value n k v) ≡ rows_in_value v
  count_value_rows n k (value_object c) = count_rows n k c
  count_value_rows n k (value_list p os) = count_list_rows n k os
  count_value_rows n k (value_stmt s) = refl

  count_list_rows : (n k : ℕ) (os : Objects) → length (members_of_list n k os) ≡ rows_in_list os
  count_list_rows n k (last_object c) = count_rows n k c
  count_list_rows n k (an_object c os) =
      added (members_with n k c) (members_of_list (n + count_object c) (k + rows_in_object c) os) (rows_in_object c) (rows_in_list os)
      (count_rows n k c) (count_list_rows (n + count_object c) (k + rows_in_object c) os)

mutual
  pub count_objects : (row : Option ℕ) (k : ℕ) (o : Object) → length (objects_with row k o) ≡ count_object o
  count_objects row k (object t ms) = ap suc (count_objects_of k ms)

  pub count_objects_of : (k : ℕ) (ms : Members) → length (objects_of_members k ms) ≡ count_members ms
  count_objects_of k no_members = refl
  count_objects_of k (a_member m b ms) =
      added (objects_of_member k m) (objects_of_members (suc k + rows_in_member m) ms) (count_member m) (count_members ms)
      (count_in_member k m) (count_objects_of (suc k + rows_in_member m) ms)

  pub count_in_member : (k : ℕ) (m : Member) → length (objects_of_member k m) ≡ count_member m
  count_in_member k (id p x q c) = refl
  count_in_member k (property p a y x q v) = count_in_value k (suc k) v
  count_in_member k (bare p a y x q c) = refl
  count_in_member k (alias p d x q t r ns c) = refl
  count_in_member k (signal p x q ps c) = refl
  count_in_member k (method f) = refl
  count_in_member k (given x p ns v) = count_in_value k (suc k) v
  count_in_member k (group x p ns ms) = count_objects_of (suc k) ms
  count_in_member k (child c) = count_objects (Some k) (suc k) c

  count_in_value : (row k : ℕ) (v : Value) → length (objects_of_value row k v) ≡ count_value v
  count_in_value row k (value_object c) = count_objects (Some row) k c
  count_in_value row k (value_list p os) = count_in_list row k os
  count_in_value row k (value_stmt s) = refl

  count_in_list : (row k : ℕ) (os : Objects) → length (objects_of_list row k os) ≡ count_list os
  count_in_list row k (last_object c) = count_objects (Some row) k c
  count_in_list row k (an_object c os) =
      added (objects_with (Some row) k c) (objects_of_list row (k + rows_in_object c) os) (count_object c) (count_list os)
      (count_objects (Some row) k c) (count_in_list row (k + rows_in_object c) os)
