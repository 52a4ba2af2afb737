-- The type of each object, and what it is written as.
use Rattle.std.proofs.Common.{◌≡◌, ◌∙◌, ap, sym, refl, ℕ, suc, ◌+◌, arith, List, [], ◌∷◌, ◌++◌, length, map, Option, None, Some}
use Rattle.std.specs.Prelude.{slice_get}
use Rattle.std.proofs.lemmas.List.{map-append}
use Rattle.qml_syntax.specs.Tree.{Units, TypeName, Object, object, Members, no_members, a_member, Member, id, property, bare, alias, signal, method, given, group, child, Value, value_object, value_list, value_stmt, Objects, last_object, an_object}
use Rattle.program_names.specs.Written.{WrittenAs, as_root, as_child, as_value, WrittenObject, count_object, count_member}
use Rattle.program_names.specs.Written as w
use Rattle.document_rows.specs.Entries.{ObjectEntry, rows_in_object, rows_in_member, objects_with, objects_of_members, objects_of_member, objects_of_value, objects_of_list, members_with}
use Rattle.document_rows.specs.WrittenObjects.{Placed, placed_behind, role_of_entry, role_by, typed_by, typed}
use Rattle.document_rows.proofs.PathLemmas.{a_placed, placed_of, placed_members, placed_in, placed_value, placed_list, count_placed, count_inside, all_placed, assoc, added}

-- all members, of which these come behind so many
record Has (all : List Placed) (k : ℕ) (these : List Placed) : Type 0 where
  front : List Placed
  back : List Placed
  split : all ≡ front ++ (these ++ back)
  behind : length front ≡ k

two : (all : List Placed) (es fs : List ObjectEntry) (a b : List (TypeName × WrittenAs)) → map (typed_by all) es ≡ a → map (typed_by all) fs ≡ b → map (typed_by all) (es ++ fs) ≡ a ++ b
two all es fs a b e f = map-append (typed_by all) es fs ∙ ap (λ x. x ++ map (typed_by all) fs) e ∙ ap (λ y. a ++ y) f

got : (front : List Placed) (x : Placed) (more : List Placed) → slice_get (front ++ x ∷ more) (length front) ≡ Some x
got [] x more = refl
got (y ∷ front) x more = got front x more

one_behind : (k : ℕ) → k + 1 ≡ suc k
one_behind k = omega arith

-- the front part of some members, and the part behind it
first_part : (all : List Placed) (k : ℕ) (a b : List Placed) → Has all k (a ++ b) → Has all k a
first_part all k a b h = record { front = h.front; back = b ++ h.back; split = h.split ∙ ap (λ xs. h.front ++ xs) (assoc a b h.back); behind = h.behind }

second_part : (all : List Placed) (k j : ℕ) (a b : List Placed) → length a ≡ j → Has all k (a ++ b) → Has all (k + j) b
second_part all k j a b e h = record {
  front = h.front ++ a;
  back = h.back;
  split = h.split ∙ ap (λ xs. h.front ++ xs) (assoc a b h.back) ∙ sym (assoc h.front a (b ++ h.back));
  behind = added h.front a k j h.behind e;
}

role_there : (all : List Placed) (k : ℕ) (x : Placed) (xs : List Placed) → Has all k (x ∷ xs) → role_by all (Some k) ≡ role_of_entry (Some x)
role_there all k x xs h =
    ap (λ ps. role_of_entry (slice_get ps k)) h.split ∙
    ap (λ j. role_of_entry (slice_get (h.front ++ x ∷ (xs ++ h.back)) j)) (sym h.behind) ∙ ap role_of_entry (got h.front x (xs ++ h.back))

next_part : (all : List Placed) (k : ℕ) (x : Placed) (xs : List Placed) → Has all k (x ∷ xs) → Has all (suc k) xs
next_part all k x xs h = record {
  front = h.front ++ x ∷ [];
  back = h.back;
  split = h.split ∙ sym (assoc h.front (x ∷ []) (xs ++ h.back));
  behind = added h.front (x ∷ []) k 1 h.behind refl ∙ one_behind k;
}

mutual
  of_object : (all : List Placed) (role : WrittenAs) (row : Option ℕ) (n k : ℕ) (o : Object) → role_by all row ≡ role → Has all k (placed_of n k o)
      → map (typed_by all) (objects_with row k o) ≡ map typed (w.objects_of role n o)
  of_object all role row n k (object t ms) r h = ap (λ x. (t, x) ∷ map (typed_by all) (objects_of_members k ms)) r ∙ ap (λ xs. (t, role) ∷ xs) (of_members all n None [] (suc n) k ms h)

  of_members : (all : List Placed) (o : ℕ) (g : Option ℕ) (before : List Units) (n k : ℕ) (ms : Members) → Has all k (placed_members o g before n k ms)
      → map (typed_by all) (objects_of_members k ms) ≡ map typed (w.objects_of_members o before n ms)
  of_members all o g before n k no_members h = refl
  of_members all o g before n k (a_member m b ms) h =
      let first = a_placed o g before n m in
      let others = placed_members o g before (n + count_member m) (suc k + rows_in_member m) ms in
      two all (objects_of_member k m) (objects_of_members (suc k + rows_in_member m) ms)
      (map typed (w.objects_of_member o before n m)) (map typed (w.objects_of_members o before (n + count_member m) ms))
      (of_member all o g before n k m (role_there all k first (placed_in o before n k m ++ others) h)
      (first_part all (suc k) (placed_in o before n k m) others (next_part all k first (placed_in o before n k m ++ others) h)))
      (of_members all o g before (n + count_member m) (suc k + rows_in_member m) ms
      (second_part all (suc k) (rows_in_member m) (placed_in o before n k m) others (count_inside o before n k m) (next_part all k first (placed_in o before n k m ++ others) h))) ∙
      sym (map-append typed (w.objects_of_member o before n m) (w.objects_of_members o before (n + count_member m) ms))

  of_member : (all : List Placed) (o : ℕ) (g : Option ℕ) (before : List Units) (n k : ℕ) (m : Member) → role_by all (Some k) ≡ role_of_entry (Some (a_placed o g before n m))
      → Has all (suc k) (placed_in o before n k m) → map (typed_by all) (objects_of_member k m) ≡ map typed (w.objects_of_member o before n m)
  of_member all o g before n k (id p x q c) r h = refl
  of_member all o g before n k (property p a y x q v) r h = of_value all (as_value o (x ∷ [])) k n (suc k) v r h
  of_member all o g before n k (bare p a y x q c) r h = refl
  of_member all o g before n k (alias p d x q t s ns c) r h = refl
  of_member all o g before n k (signal p x q ps c) r h = refl
  of_member all o g before n k (method f) r h = refl
  of_member all o g before n k (given x p ns v) r h = of_value all (as_value o (before ++ x ∷ ns)) k n (suc k) v r h
  of_member all o g before n k (group x p ns ms) r h = of_members all o (Some k) (before ++ x ∷ ns) n (suc k) ms h
  of_member all o g before n k (child c) r h = of_object all (as_child o) (Some k) n (suc k) c r h

  of_value : (all : List Placed) (role : WrittenAs) (row n k : ℕ) (v : Value) → role_by all (Some row) ≡ role → Has all k (placed_value n k v)
      → map (typed_by all) (objects_of_value row k v) ≡ map typed (w.objects_of_value role n v)
  of_value all role row n k (value_object c) r h = of_object all role (Some row) n k c r h
  of_value all role row n k (value_list p os) r h = of_list all role row n k os r h
  of_value all role row n k (value_stmt s) r h = refl

  of_list : (all : List Placed) (role : WrittenAs) (row n k : ℕ) (os : Objects) → role_by all (Some row) ≡ role → Has all k (placed_list n k os)
      → map (typed_by all) (objects_of_list row k os) ≡ map typed (w.objects_of_list role n os)
  of_list all role row n k (last_object c) r h = of_object all role (Some row) n k c r h
  of_list all role row n k (an_object c os) r h =
      let others = placed_list (n + count_object c) (k + rows_in_object c) os in
      two all (objects_with (Some row) k c) (objects_of_list row (k + rows_in_object c) os) (map typed (w.objects_of role n c)) (map typed (w.objects_of_list role (n + count_object c) os))
      (of_object all role (Some row) n k c r (first_part all k (placed_of n k c) others h))
      (of_list all role row (n + count_object c) (k + rows_in_object c) os r (second_part all k (rows_in_object c) (placed_of n k c) others (count_placed n k c) h)) ∙
      sym (map-append typed (w.objects_of role n c) (w.objects_of_list role (n + count_object c) os))

pub objects_by_rows : (root : Object) → map (typed_by (placed_behind [] (members_with 0 0 root))) (objects_with None 0 root) ≡ map typed (w.objects_of as_root 0 root)
objects_by_rows root =
    ap (λ all. map (typed_by all) (objects_with None 0 root)) (all_placed root) ∙
    of_object (placed_of 0 0 root) as_root None 0 0 root refl (record { front = []; back = []; split = sym (append_nothing (placed_of 0 0 root)); behind = refl })
  where
    append_nothing : (xs : List Placed) → xs ++ [] ≡ xs
    append_nothing [] = refl
    append_nothing (x ∷ xs) = ap (λ ys. x ∷ ys) (append_nothing xs)
