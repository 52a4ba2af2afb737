-- Tasks and what they stand for.
use Rattle.std.proofs.Common.{◌≡◌, ◌∙◌, ap, sym, refl, ℕ, suc, ◌+◌, arith, List, [], ◌∷◌, ◌++◌, Option, None, Some}
use Rattle.qml_syntax.specs.Tree.{TypeName, Object, object, Members, no_members, a_member, Member, id, property, bare, alias, signal, method, given, group, child, Value, value_object, value_list, value_stmt, Objects, last_object, an_object}
use Rattle.program_names.specs.Written.{count_object, count_members, count_member, count_value, count_list}
use Rattle.document_rows.specs.Entries.{ObjectEntry, MemberEntry, an_object_entry, a_member_entry, rows_in_object, rows_in_members, rows_in_member, rows_in_value, rows_in_list, objects_with, objects_of_members, objects_of_member, objects_of_value, objects_of_list, members_with, members_of, members_inside, members_of_value, members_of_list}

-- ---- what is still to be gone through, the next in front

pub data Work : Type 0 where
  on_object : Option ℕ → Object → Work
  on_member : ℕ → Option ℕ → Member → Work

abbrev pub work_of_members : ℕ → Option ℕ → Members → List Work
work_of_members o around no_members = []
work_of_members o around (a_member m b ms) = on_member o around m ∷ work_of_members o around ms

abbrev pub work_of_objects : ℕ → Objects → List Work
work_of_objects row (last_object o) = on_object (Some row) o ∷ []
work_of_objects row (an_object o os) = on_object (Some row) o ∷ work_of_objects row os

abbrev pub work_of_value : ℕ → Value → List Work
work_of_value row (value_object o) = on_object (Some row) o ∷ []
work_of_value row (value_list p os) = work_of_objects row os
work_of_value row (value_stmt s) = []

abbrev pub work_inside : ℕ → ℕ → Member → List Work
work_inside o row (id p n q c) = []
work_inside o row (property p a k n q v) = work_of_value row v
work_inside o row (bare p a k n q c) = []
work_inside o row (alias p d n q t r ns c) = []
work_inside o row (signal p n q ps c) = []
work_inside o row (method f) = []
work_inside o row (given n p ns v) = work_of_value row v
work_inside o row (group n p ns ms) = work_of_members o (Some row) ms
work_inside o row (child c) = on_object (Some row) c ∷ []

-- the rows that it will give, from this object and this row on
abbrev pub objects_to_come : ℕ → List Work → List ObjectEntry
objects_to_come k [] = []
objects_to_come k (on_object row o ∷ work) = objects_with row k o ++ objects_to_come (k + rows_in_object o) work
objects_to_come k (on_member o around m ∷ work) = objects_of_member k m ++ objects_to_come (suc k + rows_in_member m) work

abbrev pub members_to_come : ℕ → ℕ → List Work → List MemberEntry
members_to_come n k [] = []
members_to_come n k (on_object row o ∷ work) =
    members_with n k o ++ members_to_come (n + count_object o) (k + rows_in_object o) work
members_to_come n k (on_member o around m ∷ work) =
    (a_member_entry o around n m ∷ members_inside o n k m) ++
    members_to_come (n + count_member m) (suc k + rows_in_member m) work

-- ---- sums

assoc : {A : Type 0} (a b c : List A) → (a ++ b) ++ c ≡ a ++ (b ++ c)
assoc [] b c = refl
assoc (x ∷ a) b c = ap (λ xs. x ∷ xs) (assoc a b c)

at_none : (k : ℕ) (work : List Work) → objects_to_come k work ≡ objects_to_come (k + 0) work
at_none k work = ap (λ j. objects_to_come j work) (omega arith)

none_inside : (n k : ℕ) (work : List Work) → members_to_come n k work ≡ members_to_come (n + 0) (k + 0) work
none_inside n k work = ap (λ m. members_to_come m k work) (omega arith) ∙ ap (λ j. members_to_come (n + 0) j work) (omega arith)

moved : (n m k j : ℕ) (work : List Work) → n ≡ m → k ≡ j → members_to_come n k work ≡ members_to_come m j work
moved n m k j work e f = ap (λ x. members_to_come x k work) e ∙ ap (λ y. members_to_come m y work) f

objects_members : (o : ℕ) (around : Option ℕ) (k : ℕ) (ms : Members) (work : List Work)
    → objects_to_come k (work_of_members o around ms ++ work) ≡ objects_of_members k ms ++ objects_to_come (k + rows_in_members ms) work
objects_members o around k no_members work = at_none k work
objects_members o around k (a_member m b ms) work =
    ap (λ xs. objects_of_member k m ++ xs)
    (objects_members o around (suc k + rows_in_member m) ms work ∙
    ap (λ j. objects_of_members (suc k + rows_in_member m) ms ++ objects_to_come j work) (sums k (rows_in_member m) (rows_in_members ms))) ∙
    sym (assoc (objects_of_member k m) (objects_of_members (suc k + rows_in_member m) ms) (objects_to_come (k + (suc (rows_in_member m) + rows_in_members ms)) work))
  where
    sums : (k a b : ℕ) → (suc k + a) + b ≡ k + (suc a + b)
    sums k a b = omega arith

objects_list : (row k : ℕ) (os : Objects) (work : List Work)
    → objects_to_come k (work_of_objects row os ++ work) ≡ objects_of_list row k os ++ objects_to_come (k + rows_in_list os) work
objects_list row k (last_object o) work = refl
objects_list row k (an_object o os) work =
    ap (λ xs. objects_with (Some row) k o ++ xs)
    (objects_list row (k + rows_in_object o) os work ∙
    ap (λ j. objects_of_list row (k + rows_in_object o) os ++ objects_to_come j work) (sums k (rows_in_object o) (rows_in_list os))) ∙
    sym (assoc (objects_with (Some row) k o) (objects_of_list row (k + rows_in_object o) os) (objects_to_come (k + (rows_in_object o + rows_in_list os)) work))
  where
    sums : (k a b : ℕ) → (k + a) + b ≡ k + (a + b)
    sums k a b = omega arith

objects_value : (row k : ℕ) (v : Value) (work : List Work)
    → objects_to_come k (work_of_value row v ++ work) ≡ objects_of_value row k v ++ objects_to_come (k + rows_in_value v) work
objects_value row k (value_object o) work = refl
objects_value row k (value_list p os) work = objects_list row k os work
objects_value row k (value_stmt s) work = at_none k work

pub objects_inside : (o k : ℕ) (m : Member) (work : List Work)
    → objects_to_come (suc k) (work_inside o k m ++ work) ≡ objects_of_member k m ++ objects_to_come (suc k + rows_in_member m) work
objects_inside o k (id p n q c) work = at_none (suc k) work
objects_inside o k (property p a x n q v) work = objects_value k (suc k) v work
objects_inside o k (bare p a x n q c) work = at_none (suc k) work
objects_inside o k (alias p d n q t r ns c) work = at_none (suc k) work
objects_inside o k (signal p n q ps c) work = at_none (suc k) work
objects_inside o k (method f) work = at_none (suc k) work
objects_inside o k (given n p ns v) work = objects_value k (suc k) v work
objects_inside o k (group n p ns ms) work = objects_members o (Some k) (suc k) ms work
objects_inside o k (child c) work = refl

members_members : (o : ℕ) (around : Option ℕ) (n k : ℕ) (ms : Members) (work : List Work)
    → members_to_come n k (work_of_members o around ms ++ work) ≡ members_of o around n k ms ++ members_to_come (n + count_members ms) (k + rows_in_members ms) work
members_members o around n k no_members work = none_inside n k work
members_members o around n k (a_member m b ms) work =
    ap (λ xs. (a_member_entry o around n m ∷ members_inside o n k m) ++ xs)
    (members_members o around (n + count_member m) (suc k + rows_in_member m) ms work ∙
    ap (λ xs. members_of o around (n + count_member m) (suc k + rows_in_member m) ms ++ xs)
    (moved _ _ _ _ work (plain_sums n (count_member m) (count_members ms)) (sums k (rows_in_member m) (rows_in_members ms)))) ∙
    sym (assoc (a_member_entry o around n m ∷ members_inside o n k m) (members_of o around (n + count_member m) (suc k + rows_in_member m) ms) (members_to_come (n + (count_member m + count_members ms)) (k + (suc (rows_in_member m) + rows_in_members ms)) work))
  where
    sums : (k a b : ℕ) → (suc k + a) + b ≡ k + (suc a + b)
    sums k a b = omega arith

    plain_sums : (k a b : ℕ) → (k + a) + b ≡ k + (a + b)
    plain_sums k a b = omega arith

members_list : (row n k : ℕ) (os : Objects) (work : List Work)
    → members_to_come n k (work_of_objects row os ++ work) ≡ members_of_list n k os ++ members_to_come (n + count_list os) (k + rows_in_list os) work
members_list row n k (last_object o) work = refl
members_list row n k (an_object o os) work =
    ap (λ xs. members_with n k o ++ xs)
    (members_list row (n + count_object o) (k + rows_in_object o) os work ∙
    ap (λ xs. members_of_list (n + count_object o) (k + rows_in_object o) os ++ xs)
    (moved _ _ _ _ work (sums n (count_object o) (count_list os)) (sums k (rows_in_object o) (rows_in_list os)))) ∙
    sym (assoc (members_with n k o) (members_of_list (n + count_object o) (k + rows_in_object o) os) (members_to_come (n + (count_object o + count_list os)) (k + (rows_in_object o + rows_in_list os)) work))
  where
    sums : (k a b : ℕ) → (k + a) + b ≡ k + (a + b)
    sums k a b = omega arith

members_value : (row n k : ℕ) (v : Value) (work : List Work)
    → members_to_come n k (work_of_value row v ++ work) ≡ members_of_value n k v ++ members_to_come (n + count_value v) (k + rows_in_value v) work
members_value row n k (value_object o) work = refl
members_value row n k (value_list p os) work = members_list row n k os work
members_value row n k (value_stmt s) work = none_inside n k work

pub members_within : (o n k : ℕ) (m : Member) (work : List Work)
    → members_to_come n (suc k) (work_inside o k m ++ work) ≡ members_inside o n k m ++ members_to_come (n + count_member m) (suc k + rows_in_member m) work
members_within o n k (id p x q c) work = none_inside n (suc k) work
members_within o n k (property p a y x q v) work = members_value k n (suc k) v work
members_within o n k (bare p a y x q c) work = none_inside n (suc k) work
members_within o n k (alias p d x q t r ns c) work = none_inside n (suc k) work
members_within o n k (signal p x q ps c) work = none_inside n (suc k) work
members_within o n k (method f) work = none_inside n (suc k) work
members_within o n k (given x p ns v) work = members_value k n (suc k) v work
members_within o n k (group x p ns ms) work = members_members o (Some k) n (suc k) ms work
members_within o n k (child c) work = refl

-- an object first, then its members
pub objects_first : (row : Option ℕ) (n k : ℕ) (o : Object) (ms : Members) (x : TypeName) (work : List Work) → o ≡ object x ms
    → objects_to_come k (on_object row o ∷ work) ≡ an_object_entry row o ∷ objects_to_come k (work_of_members n None ms ++ work)
objects_first row n k o ms x work e =
    ap (λ c. objects_to_come k (on_object row c ∷ work)) e ∙
    ap (λ xs. an_object_entry row (object x ms) ∷ xs) (sym (objects_members n None k ms work)) ∙
    ap (λ c. an_object_entry row c ∷ objects_to_come k (work_of_members n None ms ++ work)) (sym e)

pub members_first : (row : Option ℕ) (n k : ℕ) (o : Object) (ms : Members) (x : TypeName) (work : List Work) → o ≡ object x ms
    → members_to_come n k (on_object row o ∷ work) ≡ members_to_come (suc n) k (work_of_members n None ms ++ work)
members_first row n k o ms x work e =
    ap (λ c. members_to_come n k (on_object row c ∷ work)) e ∙
    ap (λ xs. members_of n None (suc n) k ms ++ xs) (ap (λ m. members_to_come m (k + rows_in_members ms) work) (sums n (count_members ms))) ∙
    sym (members_members n None (suc n) k ms work)
  where
    sums : (n a : ℕ) → n + suc a ≡ suc n + a
    sums n a = omega arith
