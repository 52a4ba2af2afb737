-- What is told of the objects in the members of a tree is told first alike, member after member or object after object.
use Rattle.std.proofs.Common.{◌≡◌, ◌∙◌, ap, sym, refl, ℕ, suc, ◌+◌, arith, List, [], ◌∷◌, ◌++◌, length, flat_map, Option, Some, None}
use Rattle.qml_syntax.specs.Tree.{Object, object, Members, no_members, a_member, Member, id, property, bare, alias, signal, method, given, group, child, Value, value_object, value_list, value_stmt, Objects, last_object, an_object}
use Rattle.qml_syntax.specs.Nodes.{Item, of_member}
use Rattle.program_names.specs.declared.fault.Fault.{Fault}
use Rattle.program_names.specs.Written.{count_object, count_member, numbers_from, value_from}
use Rattle.load_faults.specs.Faults.{Faults, first_from}
use Rattle.load_faults.proofs.FirstLemmas.{first_from-append, swapped}
use Rattle.document_rows.specs.Entries.{ObjectEntry, MemberEntry, rows_in_object, rows_in_member, objects_with, objects_of_members, objects_of_member, objects_of_value, objects_of_list, members_with, members_of, members_inside, members_of_value, members_of_list}
use Rattle.document_rows.proofs.PathLemmas.{assoc}
use Rattle.member_objects.specs.Objects.{objects_in, with_row}
use Rattle.member_objects.proofs.CountLemmas.{count_rows, count_inside, count_objects, count_in_member}

-- the numbers of the objects of a member
abbrev pub numbers_of_member : ℕ → Member → List ℕ
numbers_of_member n (id p x q c) = []
numbers_of_member n (property p a y x q v) = objects_in (value_from n v)
numbers_of_member n (bare p a y x q c) = []
numbers_of_member n (alias p d x q t r ns c) = []
numbers_of_member n (signal p x q ps c) = []
numbers_of_member n (method f) = []
numbers_of_member n (given x p ns v) = objects_in (value_from n v)
numbers_of_member n (group x p ns ms) = []
numbers_of_member n (child c) = n ∷ []

abbrev pub numbers_in : ℕ → Item → List ℕ
numbers_in n (of_member m b) = numbers_of_member n m
numbers_in n _ = []

abbrev pub by_members : (ℕ → ℕ → Faults) → ℕ → List MemberEntry → Faults
by_members f k [] = []
by_members f k (e ∷ rest) = flat_map (f k) (numbers_in e.first e.part) ++ by_members f (suc k) rest

abbrev pub by_entries : (ℕ → ℕ → Faults) → ℕ → List ObjectEntry → Faults
by_entries f o [] = []
by_entries f o (e ∷ rest) = with_row f o e.row ++ by_entries f (suc o) rest

abbrev pub Alike : Faults → Faults → Type 0
Alike some others = (kept : Option Fault) → first_from kept some ≡ first_from kept others

no_more : (fs : Faults) → fs ++ [] ≡ fs
no_more [] = refl
no_more (x ∷ fs) = ap (λ gs. x ∷ gs) (no_more fs)

both : (a b c e : Faults) → Alike a b → Alike c e → Alike (a ++ c) (b ++ e)
both a b c e h g kept = first_from-append kept a c ∙ ap (λ k. first_from k c) (h kept) ∙ g (first_from kept b) ∙ sym (first_from-append kept b e)

-- what is told of some may be told behind that of others
mixed : (a b c e : Faults) → Alike ((a ++ b) ++ (c ++ e)) (((a ++ []) ++ c) ++ (b ++ e))
mixed a b c e kept =
    first_from-append kept (a ++ b) (c ++ e) ∙ first_from-append (first_from kept (a ++ b)) c e ∙
    ap (λ k. first_from (first_from k c) e) (first_from-append kept a b) ∙
    ap (λ k. first_from k e) (swapped (first_from kept a) b c) ∙
    sym (first_from-append (first_from (first_from kept a) c) b e) ∙
    ap (λ k. first_from k (b ++ e)) (sym (first_from-append kept a c)) ∙
    sym (first_from-append kept (a ++ c) (b ++ e)) ∙
    ap (λ x. first_from kept ((x ++ c) ++ (b ++ e))) (sym (no_more a))

from_none : (k : ℕ) → k ≡ k + 0
from_none k = omega arith

one_on : (k n : ℕ) → suc k + n ≡ k + suc n
one_on k n = omega arith

module _ (f : ℕ → ℕ → Faults) where
  members_split : (k : ℕ) (xs ys : List MemberEntry) → by_members f k (xs ++ ys) ≡ by_members f k xs ++ by_members f (k + length xs) ys
  members_split k [] ys = ap (λ j. by_members f j ys) (from_none k)
  members_split k (x ∷ xs) ys =
      ap (λ zs. flat_map (f k) (numbers_in x.first x.part) ++ zs)
      (members_split (suc k) xs ys ∙ ap (λ j. by_members f (suc k) xs ++ by_members f j ys) (one_on k (length xs))) ∙
      sym (assoc (flat_map (f k) (numbers_in x.first x.part)) (by_members f (suc k) xs) (by_members f (k + suc (length xs)) ys))

  entries_split : (o : ℕ) (xs ys : List ObjectEntry) → by_entries f o (xs ++ ys) ≡ by_entries f o xs ++ by_entries f (o + length xs) ys
  entries_split o [] ys = ap (λ j. by_entries f j ys) (from_none o)
  entries_split o (x ∷ xs) ys =
      ap (λ zs. with_row f o x.row ++ zs)
      (entries_split (suc o) xs ys ∙ ap (λ j. by_entries f (suc o) xs ++ by_entries f j ys) (one_on o (length xs))) ∙
      sym (assoc (with_row f o x.row) (by_entries f (suc o) xs) (by_entries f (o + suc (length xs)) ys))

  mutual
    pub members_alike : (o : ℕ) (g : Option ℕ) (n k : ℕ) (ms : Members) → Alike (by_members f k (members_of o g n k ms)) (by_entries f n (objects_of_members k ms))
    members_alike o g n k no_members = λ kept. refl
    members_alike o g n k (a_member m b ms) = λ kept.
        let own = flat_map (f k) (numbers_of_member n m) in
        let inside = members_inside o n k m in
        let rest = members_of o g (n + count_member m) (suc k + rows_in_member m) ms in
        let here = objects_of_member k m in
        let others = objects_of_members (suc k + rows_in_member m) ms in
        ap (λ xs. first_from kept (own ++ xs))
        (members_split (suc k) inside rest ∙ ap (λ j. by_members f (suc k) inside ++ by_members f (suc k + j) rest) (count_inside o n k m)) ∙
        ap (first_from kept) (sym (assoc own (by_members f (suc k) inside) (by_members f (suc k + rows_in_member m) rest))) ∙
        both (own ++ by_members f (suc k) inside) (by_entries f n here) (by_members f (suc k + rows_in_member m) rest) (by_entries f (n + count_member m) others)
        (member_alike o n k m) (members_alike o g (n + count_member m) (suc k + rows_in_member m) ms) kept ∙
        ap (first_from kept)
        (ap (λ j. by_entries f n here ++ by_entries f (n + j) others) (sym (count_in_member k m)) ∙ sym (entries_split n here others))

    member_alike : (o n k : ℕ) (m : Member) → Alike (flat_map (f k) (numbers_of_member n m) ++ by_members f (suc k) (members_inside o n k m)) (by_entries f n (objects_of_member k m))
    member_alike o n k (id p x q c) = λ kept. refl
    member_alike o n k (property p a y x q v) = value_alike k n (suc k) v
    member_alike o n k (bare p a y x q c) = λ kept. refl
    member_alike o n k (alias p d x q t r ns c) = λ kept. refl
    member_alike o n k (signal p x q ps c) = λ kept. refl
    member_alike o n k (method h) = λ kept. refl
    member_alike o n k (given x p ns v) = value_alike k n (suc k) v
    member_alike o n k (group x p ns ms) = members_alike o (Some k) n (suc k) ms
    member_alike o n k (child c) = one_alike k n (suc k) c

    one_alike : (row n k : ℕ) (o : Object) → Alike ((f row n ++ []) ++ by_members f k (members_with n k o)) (by_entries f n (objects_with (Some row) k o))
    one_alike row n k (object t ms) =
        both (f row n ++ []) (f row n) (by_members f k (members_of n None (suc n) k ms)) (by_entries f (suc n) (objects_of_members k ms))
        (λ kept. ap (first_from kept) (no_more (f row n))) (members_alike n None (suc n) k ms)

    value_alike : (row n k : ℕ) (v : Value) → Alike (flat_map (f row) (objects_in (value_from n v)) ++ by_members f k (members_of_value n k v)) (by_entries f n (objects_of_value row k v))
    value_alike row n k (value_object c) = one_alike row n k c
    value_alike row n k (value_list p os) = list_alike row n k os
    value_alike row n k (value_stmt s) = λ kept. refl

    list_alike : (row n k : ℕ) (os : Objects) → Alike (flat_map (f row) (numbers_from n os) ++ by_members f k (members_of_list n k os)) (by_entries f n (objects_of_list row k os))
    list_alike row n k (last_object c) = one_alike row n k c
    list_alike row n k (an_object c os) = λ kept.
        let first = members_with n k c in
        let rest = members_of_list (n + count_object c) (k + rows_in_object c) os in
        let here = objects_with (Some row) k c in
        let others = objects_of_list row (k + rows_in_object c) os in
        let more = flat_map (f row) (numbers_from (n + count_object c) os) in
        ap (λ xs. first_from kept ((f row n ++ more) ++ xs))
        (members_split k first rest ∙ ap (λ j. by_members f k first ++ by_members f (k + j) rest) (count_rows n k c)) ∙
        mixed (f row n) more (by_members f k first) (by_members f (k + rows_in_object c) rest) kept ∙
        both ((f row n ++ []) ++ by_members f k first) (by_entries f n here) (more ++ by_members f (k + rows_in_object c) rest) (by_entries f (n + count_object c) others)
        (one_alike row n k c) (list_alike row (n + count_object c) (k + rows_in_object c) os) kept ∙
        ap (first_from kept)
        (ap (λ j. by_entries f n here ++ by_entries f (n + j) others) (sym (count_objects (Some row) k c)) ∙ sym (entries_split n here others))

  pub tree_alike : (o : Object) → Alike (by_members f 0 (members_with 0 0 o)) (by_entries f 0 (objects_with None 0 o))
  tree_alike (object t ms) = members_alike 0 None 1 0 ms
