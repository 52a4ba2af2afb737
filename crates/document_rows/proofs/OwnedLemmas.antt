-- The members of an object are those of the rows with its number.
use Rattle.std.proofs.Common.{◌≡◌, ◌∙◌, ap, sym, refl, ℕ, zero, suc, ◌+◌, ◌<◌, arith, Bool, true, false, List, [], ◌∷◌, ◌++◌, length}
use Rattle.std.specs.Prelude.{nat_eq, if◌then◌else◌}
use Rattle.std.proofs.lemmas.List.{append-nil}
use Rattle.std.proofs.lemmas.Grind.{flat_map-append}
use Rattle.std.proofs.lemmas.Bool.Decides.{nat_tests}
use Rattle.qml_syntax.specs.Tree.{Units, Object, object, Members, no_members, a_member, Member, id, property, bare, alias, signal, method, given, group, child, Value, value_object, value_list, value_stmt, Objects, last_object, an_object}
use Rattle.program_names.specs.Written.{WrittenMember, WrittenObject, WrittenAs, as_root, as_child, as_value, count_object, count_members, count_member, count_value, count_list, member_from, members_from, members_in, objects_of, objects_of_members, objects_of_member, objects_of_value, objects_of_list, OwnedMember, row, rows_of, rows_of_members, rows_in, rows_of_value, rows_of_list}
use Rattle.document_rows.proofs.PathLemmas.{assoc, added}
use Rattle.document_rows.specs.WrittenObjects.{kept, members_of_object, members_at}

-- the members of the object of number j among objects, the first of which has the number n
abbrev owned : ℕ → List WrittenObject → ℕ → List WrittenMember
owned n [] j = []
owned n (w ∷ ws) j = (if nat_eq n j then w.members else []) ++ owned (suc n) ws j

plus_none : (n : ℕ) → n ≡ n + 0
plus_none n = omega arith

one_later : (n k : ℕ) → suc n + k ≡ n + suc k
one_later n k = omega arith

owned-append : (n : ℕ) (ws vs : List WrittenObject) (j : ℕ) → owned n (ws ++ vs) j ≡ owned n ws j ++ owned (n + length ws) vs j
owned-append n [] vs j = ap (λ k. owned k vs j) (plus_none n)
owned-append n (w ∷ ws) vs j =
    ap (λ ms. (if nat_eq n j then w.members else []) ++ ms)
    (owned-append (suc n) ws vs j ∙ ap (λ k. owned (suc n) ws j ++ owned k vs j) (one_later n (length ws))) ∙
    sym (assoc (if nat_eq n j then w.members else []) (owned (suc n) ws j) (owned (n + suc (length ws)) vs j))

not_below : (n j : ℕ) → j < n → nat_eq n j ≡ false
not_below n j h = grind (arith, nat_tests)

less_than_next : (n j : ℕ) → j < n → j < suc n
less_than_next n j h = omega arith

beyond : (n : ℕ) (ws : List WrittenObject) (j : ℕ) → j < n → owned n ws j ≡ []
beyond n [] j h = refl
beyond n (w ∷ ws) j h =
    ap (λ b. (if b then w.members else []) ++ owned (suc n) ws j) (not_below n j h) ∙ beyond (suc n) ws j (less_than_next n j h)

joined : (n c : ℕ) (ws vs : List WrittenObject) (j : ℕ) (a b : List WrittenMember) → length ws ≡ c → a ≡ owned n ws j → b ≡ owned (n + c) vs j
    → a ++ b ≡ owned n (ws ++ vs) j
joined n c ws vs j a b e f g =
    ap (λ x. x ++ b) f ∙ ap (λ x. owned n ws j ++ x) (g ∙ ap (λ k. owned (n + k) vs j) (sym e)) ∙ sym (owned-append n ws vs j)

by_owner : (o j : ℕ) (rows own inside : List WrittenMember) → (nat_eq o j ≡ false → rows ≡ inside) → (nat_eq o j ≡ true → rows ≡ own) → (nat_eq o j ≡ true → inside ≡ [])
    → rows ≡ (if nat_eq o j then own else []) ++ inside
by_owner o j rows own inside f g h = cases (nat_eq o j) f g h
  where
    cases : (b : Bool) → (b ≡ false → rows ≡ inside) → (b ≡ true → rows ≡ own) → (b ≡ true → inside ≡ []) → rows ≡ (if b then own else []) ++ inside
    cases false f g h = f refl
    cases true f g h = g refl ∙ sym (append-nil own) ∙ ap (λ x. own ++ x) (sym (h refl))

-- ---- how many objects there are

mutual
  counted : (role : WrittenAs) (n : ℕ) (o : Object) → length (objects_of role n o) ≡ count_object o
  counted role n (object t ms) = ap suc (counted_members n [] (suc n) ms)

  counted_members : (o : ℕ) (before : List Units) (n : ℕ) (ms : Members) → length (objects_of_members o before n ms) ≡ count_members ms
  counted_members o before n no_members = refl
  counted_members o before n (a_member m b ms) =
      added (objects_of_member o before n m) (objects_of_members o before (n + count_member m) ms) (count_member m) (count_members ms)
      (counted_member o before n m) (counted_members o before (n + count_member m) ms)

  counted_member : (o : ℕ) (before : List Units) (n : ℕ) (m : Member) → length (objects_of_member o before n m) ≡ count_member m
  counted_member o before n (id p x q c) = refl
  counted_member o before n (property p a y x q v) = counted_value (as_value o (x ∷ [])) n v
  counted_member o before n (bare p a y x q c) = refl
  counted_member o before n (alias p d x q t r ns c) = refl
  counted_member o before n (signal p x q ps c) = refl
  counted_member o before n (method f) = refl
  counted_member o before n (given x p ns v) = counted_value (as_value o (before ++ x ∷ ns)) n v
  counted_member o before n (group x p ns ms) = counted_members o (before ++ x ∷ ns) n ms
  counted_member o before n (child c) = counted (as_child o) n c

  counted_value : (role : WrittenAs) (n : ℕ) (v : Value) → length (objects_of_value role n v) ≡ count_value v
  counted_value role n (value_object o) = counted role n o
  counted_value role n (value_list p os) = counted_list role n os
  counted_value role n (value_stmt s) = refl

  counted_list : (role : WrittenAs) (n : ℕ) (os : Objects) → length (objects_of_list role n os) ≡ count_list os
  counted_list role n (last_object o) = counted role n o
  counted_list role n (an_object o os) =
      added (objects_of role n o) (objects_of_list role (n + count_object o) os) (count_object o) (count_list os) (counted role n o) (counted_list role (n + count_object o) os)

-- ---- the members of an object among its rows and among those of the objects in it

both : (j : ℕ) (rows others : List OwnedMember) (a b : List WrittenMember) → members_of_object j rows ≡ a → members_of_object j others ≡ b → members_of_object j (rows ++ others) ≡ a ++ b
both j rows others a b e f = flat_map-append (kept j) rows others ∙ ap (λ x. x ++ members_of_object j others) e ∙ ap (λ y. a ++ y) f

skipped : (o j : ℕ) (m : WrittenMember) (rows : List OwnedMember) (a : List WrittenMember) → nat_eq o j ≡ false → members_of_object j rows ≡ a → members_of_object j (row o m ∷ rows) ≡ a
skipped o j m rows a h e = ap (λ b. (if b then m ∷ [] else []) ++ members_of_object j rows) h ∙ e

taken : (o j : ℕ) (m : WrittenMember) (rows : List OwnedMember) (a : List WrittenMember) → nat_eq o j ≡ true → members_of_object j rows ≡ a → members_of_object j (row o m ∷ rows) ≡ m ∷ a
taken o j m rows a h e = ap (λ b. (if b then m ∷ [] else []) ++ members_of_object j rows) h ∙ ap (λ x. m ∷ x) e

further : (j n c : ℕ) → j < n → j < n + c
further j n c h = omega arith

own_number : (n j : ℕ) → nat_eq n j ≡ true → j < suc n
own_number n j h = grind (arith, nat_tests)

mutual
  of_object : (role : WrittenAs) (n : ℕ) (o : Object) (j : ℕ) → members_of_object j (rows_of n o) ≡ owned n (objects_of role n o) j
  of_object role n (object t ms) j =
      by_owner n j (members_of_object j (rows_of_members n [] (suc n) ms)) (members_from [] (suc n) ms) (owned (suc n) (objects_of_members n [] (suc n) ms) j)
      (λ h. others n [] (suc n) ms j h)
      (λ h. own n [] (suc n) ms j h (own_number n j h))
      (λ h. beyond (suc n) (objects_of_members n [] (suc n) ms) j (own_number n j h))

  others : (o : ℕ) (before : List Units) (n : ℕ) (ms : Members) (j : ℕ) → nat_eq o j ≡ false → members_of_object j (rows_of_members o before n ms) ≡ owned n (objects_of_members o before n ms) j
  others o before n no_members j h = refl
  others o before n (a_member m b ms) j h =
      skipped o j (member_from before n m) (rows_in o before n m ++ rows_of_members o before (n + count_member m) ms) _ h
      (both j (rows_in o before n m) (rows_of_members o before (n + count_member m) ms) (owned n (objects_of_member o before n m) j) (owned (n + count_member m) (objects_of_members o before (n + count_member m) ms) j)
      (others_in o before n m j h) (others o before (n + count_member m) ms j h)) ∙
      joined n (count_member m) (objects_of_member o before n m) (objects_of_members o before (n + count_member m) ms) j _ _ (counted_member o before n m) refl refl

  others_in : (o : ℕ) (before : List Units) (n : ℕ) (m : Member) (j : ℕ) → nat_eq o j ≡ false → members_of_object j (rows_in o before n m) ≡ owned n (objects_of_member o before n m) j
  others_in o before n (id p x q c) j h = refl
  others_in o before n (property p a y x q v) j h = of_value (as_value o (x ∷ [])) n v j
  others_in o before n (bare p a y x q c) j h = refl
  others_in o before n (alias p d x q t r ns c) j h = refl
  others_in o before n (signal p x q ps c) j h = refl
  others_in o before n (method f) j h = refl
  others_in o before n (given x p ns v) j h = of_value (as_value o (before ++ x ∷ ns)) n v j
  others_in o before n (group x p ns ms) j h = others o (before ++ x ∷ ns) n ms j h
  others_in o before n (child c) j h = of_object (as_child o) n c j

  own : (o : ℕ) (before : List Units) (n : ℕ) (ms : Members) (j : ℕ) → nat_eq o j ≡ true → j < n → members_of_object j (rows_of_members o before n ms) ≡ members_from before n ms
  own o before n no_members j h l = refl
  own o before n (a_member m b ms) j h l =
      taken o j (member_from before n m) (rows_in o before n m ++ rows_of_members o before (n + count_member m) ms) _ h
      (both j (rows_in o before n m) (rows_of_members o before (n + count_member m) ms) (members_in before n m) (members_from before (n + count_member m) ms)
      (own_in o before n m j h l) (own o before (n + count_member m) ms j h (further j n (count_member m) l)))

  own_in : (o : ℕ) (before : List Units) (n : ℕ) (m : Member) (j : ℕ) → nat_eq o j ≡ true → j < n → members_of_object j (rows_in o before n m) ≡ members_in before n m
  own_in o before n (id p x q c) j h l = refl
  own_in o before n (property p a y x q v) j h l = of_value (as_value o (x ∷ [])) n v j ∙ beyond n (objects_of_value (as_value o (x ∷ [])) n v) j l
  own_in o before n (bare p a y x q c) j h l = refl
  own_in o before n (alias p d x q t r ns c) j h l = refl
  own_in o before n (signal p x q ps c) j h l = refl
  own_in o before n (method f) j h l = refl
  own_in o before n (given x p ns v) j h l = of_value (as_value o (before ++ x ∷ ns)) n v j ∙ beyond n (objects_of_value (as_value o (before ++ x ∷ ns)) n v) j l
  own_in o before n (group x p ns ms) j h l = own o (before ++ x ∷ ns) n ms j h l
  own_in o before n (child c) j h l = of_object (as_child o) n c j ∙ beyond n (objects_of (as_child o) n c) j l

  of_value : (role : WrittenAs) (n : ℕ) (v : Value) (j : ℕ) → members_of_object j (rows_of_value n v) ≡ owned n (objects_of_value role n v) j
  of_value role n (value_object o) j = of_object role n o j
  of_value role n (value_list p os) j = of_list role n os j
  of_value role n (value_stmt s) j = refl

  of_list : (role : WrittenAs) (n : ℕ) (os : Objects) (j : ℕ) → members_of_object j (rows_of_list n os) ≡ owned n (objects_of_list role n os) j
  of_list role n (last_object o) j = of_object role n o j
  of_list role n (an_object o os) j =
      both j (rows_of n o) (rows_of_list (n + count_object o) os) (owned n (objects_of role n o) j) (owned (n + count_object o) (objects_of_list role (n + count_object o) os) j)
      (of_object role n o j) (of_list role (n + count_object o) os j) ∙
      joined n (count_object o) (objects_of role n o) (objects_of_list role (n + count_object o) os) j _ _ (counted role n o) refl refl

-- ---- by number

same_number : (n : ℕ) → nat_eq n (n + 0) ≡ true
same_number n = grind (arith, nat_tests)

at_once : (n : ℕ) → n + 0 < suc n
at_once n = omega arith

later_number : (n i : ℕ) → nat_eq n (n + suc i) ≡ false
later_number n i = grind (arith, nat_tests)

at_number : (n i : ℕ) (ws : List WrittenObject) → owned n ws (n + i) ≡ members_at ws i
at_number n i [] = refl
at_number n zero (w ∷ ws) =
    ap (λ b. (if b then w.members else []) ++ owned (suc n) ws (n + 0)) (same_number n) ∙
    ap (λ ms. w.members ++ ms) (beyond (suc n) ws (n + 0) (at_once n)) ∙ append-nil w.members
at_number n (suc i) (w ∷ ws) =
    ap (λ b. (if b then w.members else []) ++ owned (suc n) ws (n + suc i)) (later_number n i) ∙
    ap (owned (suc n) ws) (sym (one_later n i)) ∙ at_number (suc n) i ws

from_none : (i : ℕ) → i ≡ 0 + i
from_none i = omega arith

pub members_by_rows : (root : Object) (o : ℕ) → members_at (objects_of as_root 0 root) o ≡ members_of_object o (rows_of 0 root)
members_by_rows root o =
    sym (at_number 0 o (objects_of as_root 0 root)) ∙ ap (owned 0 (objects_of as_root 0 root)) (sym (from_none o)) ∙ sym (of_object as_root 0 root o)
