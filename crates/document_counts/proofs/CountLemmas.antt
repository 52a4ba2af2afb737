-- Counting the rows of a document.
use Rattle.std.proofs.Common.{◌≡◌, ◌∙◌, ap, sym, refl, ℕ, suc, ◌+◌, arith, Bool, false, if◌then◌else◌, nat_lt, ◌||◌, List, [], ◌∷◌, ◌++◌, map, length, Option, Some, None, is_some}
use Rattle.std.proofs.lemmas.List.{length-append}
use Rattle.qml_syntax.specs.Tree.{Units, Import, document, Object, object, Members, no_members, a_member, Member, id, property, bare, alias, signal, method, given, group, child, Value, value_object, value_list, value_stmt, Objects, last_object, an_object, whole_document}
use Rattle.qml_syntax.specs.Nodes.{Table, of_member}
use Rattle.qml_syntax.specs.Listed.{listed_document}
use Rattle.qml_syntax.specs.Opened.{IsListing}
use Rattle.program_names.specs.Written.{WrittenObject, WrittenMember, WrittenAs, as_root, as_child, as_value, count_object, count_members, count_member, count_value, count_list, member_from, members_from, members_in, objects_of, objects_of_members as written_of_members, objects_of_member as written_of_member, objects_of_value as written_of_value, objects_of_list as written_of_list}
use Rattle.document_rows.specs.declared.rows.ObjectRow.{ObjectRow}
use Rattle.document_rows.specs.declared.rows.MemberRow.{MemberRow}
use Rattle.document_rows.specs.Entries.{ObjectEntry, MemberEntry, rows_in_object, rows_in_member, objects_with, objects_of_members, objects_of_member, objects_of_value, objects_of_list, members_with, members_of, members_inside, members_of_value, members_of_list, object_entry, member_entry, AreRows}
use Rattle.type_uses.proofs.MergeLemmas.{same_root}
use Rattle.document_counts.specs.Counts.{is_binding, bindings_in, bindings_of, has_too_many}
use Rattle.document_counts.specs.Bindings.{bindings_in_rows}
use Rattle.document_counts.proofs.ItemLemmas.{binding_item, binding_is, not_nil, grown_path, member_is}

-- ---- sums

abbrev one_if : Bool → ℕ
one_if b = if b then 1 else 0

abbrev counted : List MemberEntry → ℕ
counted [] = 0
counted (e ∷ es) = one_if (binding_item (is_some e.group) e.part) + counted es

counted-append : (a b : List MemberEntry) → counted (a ++ b) ≡ counted a + counted b
counted-append [] b = omega arith
counted-append (e ∷ a) b = ap (λ n. one_if (binding_item (is_some e.group) e.part) + n) (counted-append a b) ∙ grouped (one_if (binding_item (is_some e.group) e.part)) (counted a) (counted b)
  where
    grouped : (x y z : ℕ) → x + (y + z) ≡ (x + y) + z
    grouped x y z = omega arith

in-append : (a b : List WrittenMember) → bindings_in (a ++ b) ≡ bindings_in a + bindings_in b
in-append [] b = omega arith
in-append (m ∷ a) b = ap (λ n. one_if (is_binding m) + n) (in-append a b) ∙ grouped (one_if (is_binding m)) (bindings_in a) (bindings_in b)
  where
    grouped : (x y z : ℕ) → x + (y + z) ≡ (x + y) + z
    grouped x y z = omega arith

of-append : (a b : List WrittenObject) → bindings_of (a ++ b) ≡ bindings_of a + bindings_of b
of-append [] b = omega arith
of-append (o ∷ a) b = ap (λ n. bindings_in o.members + n) (of-append a b) ∙ grouped (bindings_in o.members) (bindings_of a) (bindings_of b)
  where
    grouped : (x y z : ℕ) → x + (y + z) ≡ (x + y) + z
    grouped x y z = omega arith

rows_counted : (t : Table) (ms : List MemberRow) → IsListing t → bindings_in_rows t ms ≡ counted (map (member_entry t) ms)
rows_counted t [] lists = refl
rows_counted t (m ∷ ms) lists =
    ap (λ b. one_if b + bindings_in_rows t ms) (binding_is t m.group m.node lists) ∙
    ap (λ n. one_if (binding_item (is_some (member_entry t m).group) (member_entry t m).part) + n) (rows_counted t ms lists)

-- ---- bindings

plain : (x y : ℕ) → x ≡ y → 0 + x ≡ y
plain x y e = omega (arith, e)

four : (h a b c d x y : ℕ) → a + c ≡ x → b + d ≡ y → (h + (a + b)) + (c + d) ≡ h + (x + y)
four h a b c d x y e f = omega (arith, e, f)

mutual
  object_bindings : (role : WrittenAs) (n k : ℕ) (o : Object) → bindings_of (objects_of role n o) ≡ counted (members_with n k o)
  object_bindings role n k (object x ms) = members_bindings n [] None (suc n) n k ms refl

  members_bindings : (owner : ℕ) (before : List Units) (around : Option ℕ) (n o k : ℕ) (ms : Members) → is_some around ≡ not_nil before
      → bindings_in (members_from before n ms) + bindings_of (written_of_members owner before n ms) ≡ counted (members_of o around n k ms)
  members_bindings owner before around n o k no_members e = refl
  members_bindings owner before around n o k (a_member m c ms) e =
      ap (λ x. (one_if (is_binding (member_from before n m)) + x) + bindings_of (written_of_members owner before n (a_member m c ms)))
      (in-append (members_in before n m) (members_from before (n + count_member m) ms)) ∙
      ap (λ x. (one_if (is_binding (member_from before n m)) + (bindings_in (members_in before n m) + bindings_in (members_from before (n + count_member m) ms))) + x)
      (of-append (written_of_member owner before n m) (written_of_members owner before (n + count_member m) ms)) ∙
      four (one_if (is_binding (member_from before n m))) (bindings_in (members_in before n m)) (bindings_in (members_from before (n + count_member m) ms))
      (bindings_of (written_of_member owner before n m)) (bindings_of (written_of_members owner before (n + count_member m) ms))
      (counted (members_inside o n k m)) (counted (members_of o around (n + count_member m) (suc k + rows_in_member m) ms))
      (inside_bindings owner before n o k m) (members_bindings owner before around (n + count_member m) o (suc k + rows_in_member m) ms e) ∙
      ap (λ b. one_if b + (counted (members_inside o n k m) + counted (members_of o around (n + count_member m) (suc k + rows_in_member m) ms)))
      (sym (ap (λ g. binding_item g (of_member m false)) e ∙ member_is before n m)) ∙
      ap (λ x. one_if (binding_item (is_some around) (of_member m false)) + x)
      (sym (counted-append (members_inside o n k m) (members_of o around (n + count_member m) (suc k + rows_in_member m) ms)))

  inside_bindings : (owner : ℕ) (before : List Units) (n o k : ℕ) (m : Member)
      → bindings_in (members_in before n m) + bindings_of (written_of_member owner before n m) ≡ counted (members_inside o n k m)
  inside_bindings owner before n o k (id p x q c) = refl
  inside_bindings owner before n o k (property p a y x q v) = plain _ _ (value_bindings (as_value owner (x ∷ [])) n (suc k) v)
  inside_bindings owner before n o k (bare p a y x q c) = refl
  inside_bindings owner before n o k (alias p d x q t r ns c) = refl
  inside_bindings owner before n o k (signal p x q ps c) = refl
  inside_bindings owner before n o k (method f) = refl
  inside_bindings owner before n o k (given x p ns v) = plain _ _ (value_bindings (as_value owner (before ++ (x ∷ ns))) n (suc k) v)
  inside_bindings owner before n o k (group x p ns ms) = members_bindings owner (before ++ (x ∷ ns)) (Some k) n o (suc k) ms (sym (grown_path before x ns))
  inside_bindings owner before n o k (child c) = plain _ _ (object_bindings (as_child owner) n (suc k) c)

  value_bindings : (role : WrittenAs) (n k : ℕ) (v : Value) → bindings_of (written_of_value role n v) ≡ counted (members_of_value n k v)
  value_bindings role n k (value_object o) = object_bindings role n k o
  value_bindings role n k (value_list p os) = list_bindings role n k os
  value_bindings role n k (value_stmt s) = refl

  list_bindings : (role : WrittenAs) (n k : ℕ) (os : Objects) → bindings_of (written_of_list role n os) ≡ counted (members_of_list n k os)
  list_bindings role n k (last_object o) = object_bindings role n k o
  list_bindings role n k (an_object o os) =
      of-append (objects_of role n o) (written_of_list role (n + count_object o) os) ∙
      ap (λ x. x + bindings_of (written_of_list role (n + count_object o) os)) (object_bindings role n k o) ∙
      ap (λ x. counted (members_with n k o) + x) (list_bindings role (n + count_object o) (k + rows_in_object o) os) ∙
      sym (counted-append (members_with n k o) (members_of_list (n + count_object o) (k + rows_in_object o) os))

-- ---- objects

abbrev size : List ObjectEntry → ℕ
size es = length es

mutual
  object_size : (row : Option ℕ) (k : ℕ) (o : Object) → size (objects_with row k o) ≡ count_object o
  object_size row k (object x ms) = ap suc (members_size k ms)

  members_size : (k : ℕ) (ms : Members) → size (objects_of_members k ms) ≡ count_members ms
  members_size k no_members = refl
  members_size k (a_member m c ms) =
      length-append (objects_of_member k m) (objects_of_members (suc k + rows_in_member m) ms) ∙
      ap (λ x. x + size (objects_of_members (suc k + rows_in_member m) ms)) (member_size k m) ∙
      ap (λ x. count_member m + x) (members_size (suc k + rows_in_member m) ms)

  member_size : (k : ℕ) (m : Member) → size (objects_of_member k m) ≡ count_member m
  member_size k (id p x q c) = refl
  member_size k (property p a y x q v) = value_size k (suc k) v
  member_size k (bare p a y x q c) = refl
  member_size k (alias p d x q t r ns c) = refl
  member_size k (signal p x q ps c) = refl
  member_size k (method f) = refl
  member_size k (given x p ns v) = value_size k (suc k) v
  member_size k (group x p ns ms) = members_size (suc k) ms
  member_size k (child c) = object_size (Some k) (suc k) c

  value_size : (row k : ℕ) (v : Value) → size (objects_of_value row k v) ≡ count_value v
  value_size row k (value_object o) = object_size (Some row) k o
  value_size row k (value_list p os) = list_size row k os
  value_size row k (value_stmt s) = refl

  list_size : (row k : ℕ) (os : Objects) → size (objects_of_list row k os) ≡ count_list os
  list_size row k (last_object o) = object_size (Some row) k o
  list_size row k (an_object o os) =
      length-append (objects_with (Some row) k o) (objects_of_list row (k + rows_in_object o) os) ∙
      ap (λ x. x + size (objects_of_list row (k + rows_in_object o) os)) (object_size (Some row) k o) ∙
      ap (λ x. count_object o + x) (list_size row (k + rows_in_object o) os)

length_map : {A B : Type 0} (f : A → B) (xs : List A) → length (map f xs) ≡ length xs
length_map f [] = refl
length_map f (x ∷ xs) = ap suc (length_map f xs)

-- ---- the document

pub counts : (t : Table) (os : List ObjectRow) (ms : List MemberRow) (imports : List Import) (root : Object) → AreRows t os ms → listed_document (document imports root) ≡ t
    → (nat_lt 100000 (length os) || nat_lt 400000 (bindings_in_rows t ms)) ≡ has_too_many root
counts t os ms imports root a e =
    ap (λ n. nat_lt 100000 n || nat_lt 400000 (bindings_in_rows t ms))
    (sym (length_map (object_entry t) os) ∙ ap size a.all_objects ∙ object_size None 0 a.root) ∙
    ap (λ n. nat_lt 100000 (count_object a.root) || nat_lt 400000 n)
    (rows_counted t ms (whole_document (document imports root), e) ∙ ap counted a.all_members ∙ sym (object_bindings as_root 0 0 a.root)) ∙
    ap has_too_many (same_root t a.imports imports a.root root a.tree e)
