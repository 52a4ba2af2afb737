-- Rows of members with the names of their groups in front.
use Rattle.std.proofs.Common.{◌≡◌, ◌∙◌, ap, sym, refl, ℕ, suc, ◌+◌, arith, false, List, [], ◌∷◌, ◌++◌, length, map, Option, None, Some}
use Rattle.std.specs.Prelude.{slice_get, unwrap_or}
use Rattle.std.proofs.lemmas.List.{length-append, append-nil, map-append}
use Rattle.qml_syntax.specs.Tree.{Units, Object, object, Members, no_members, a_member, Member, id, property, bare, alias, signal, method, given, group, child, Value, value_object, value_list, value_stmt, Objects, last_object, an_object}
use Rattle.qml_syntax.specs.Nodes.{of_member}
use Rattle.program_names.specs.Written.{count_object, count_member, member_from, OwnedMember, row, rows_of, rows_of_members, rows_in, rows_of_value, rows_of_list}
use Rattle.document_rows.specs.Entries.{MemberEntry, a_member_entry, rows_in_object, rows_in_members, rows_in_member, rows_in_value, rows_in_list, members_with, members_of, members_inside, members_of_value, members_of_list}
use Rattle.document_rows.specs.WholePaths.{names_added, path_at, member_of, rows_behind}
use Rattle.document_rows.specs.WrittenObjects.{Placed, placed_behind}

abbrev Paths : Type 0
Paths = List (List Units)

abbrev own : Placed → List Units
own x = x.0 ++ names_added x.1.part

abbrev row_of : Placed → OwnedMember
row_of x = row x.1.object (member_of x.0 x.1.first x.1.part)

-- ---- the entries of a document, each with the names of the groups around it

abbrev pub a_placed : ℕ → Option ℕ → List Units → ℕ → Member → Placed
a_placed o g before n m = (before, a_member_entry o g n m)

abbrev mutual
  pub placed_of : ℕ → ℕ → Object → List Placed
  placed_of n k (object t ms) = placed_members n None [] (suc n) k ms

  pub placed_members : ℕ → Option ℕ → List Units → ℕ → ℕ → Members → List Placed
  placed_members o g before n k no_members = []
  placed_members o g before n k (a_member m b ms) =
      a_placed o g before n m ∷ placed_in o before n k m ++ placed_members o g before (n + count_member m) (suc k + rows_in_member m) ms

  pub placed_in : ℕ → List Units → ℕ → ℕ → Member → List Placed
  placed_in o before n k (id p x q c) = []
  placed_in o before n k (property p a y x q v) = placed_value n (suc k) v
  placed_in o before n k (bare p a y x q c) = []
  placed_in o before n k (alias p d x q t r ns c) = []
  placed_in o before n k (signal p x q ps c) = []
  placed_in o before n k (method f) = []
  placed_in o before n k (given x p ns v) = placed_value n (suc k) v
  placed_in o before n k (group x p ns ms) = placed_members o (Some k) (before ++ x ∷ ns) n (suc k) ms
  placed_in o before n k (child c) = placed_of n (suc k) c

  pub placed_value : ℕ → ℕ → Value → List Placed
  placed_value n k (value_object c) = placed_of n k c
  placed_value n k (value_list p os) = placed_list n k os
  placed_value n k (value_stmt s) = []

  pub placed_list : ℕ → ℕ → Objects → List Placed
  placed_list n k (last_object c) = placed_of n k c
  placed_list n k (an_object c os) = placed_of n k c ++ placed_list (n + count_object c) (k + rows_in_object c) os

one_more : (a b : ℕ) → suc (a + b) ≡ suc a + b
one_more a b = omega arith

pub added : {A : Type 0} (a b : List A) (j k : ℕ) → length a ≡ j → length b ≡ k → length (a ++ b) ≡ j + k
added a b j k e f = length-append a b ∙ ap (λ x. x + length b) e ∙ ap (λ y. j + y) f

mutual
  pub count_placed : (n k : ℕ) (o : Object) → length (placed_of n k o) ≡ rows_in_object o
  count_placed n k (object t ms) = count_members_placed n None [] (suc n) k ms

  pub count_members_placed : (o : ℕ) (g : Option ℕ) (before : List Units) (n k : ℕ) (ms : Members) → length (placed_members o g before n k ms) ≡ rows_in_members ms
  count_members_placed o g before n k no_members = refl
  count_members_placed o g before n k (a_member m b ms) =
      ap suc (added (placed_in o before n k m) (placed_members o g before (n + count_member m) (suc k + rows_in_member m) ms) (rows_in_member m) (rows_in_members ms)
      (count_inside o before n k m) (count_members_placed o g before (n + count_member m) (suc k + rows_in_member m) ms)) ∙ one_more (rows_in_member m) (rows_in_members ms)

  pub count_inside : (o : ℕ) (before : List Units) (n k : ℕ) (m : Member) → length (placed_in o before n k m) ≡ rows_in_member m
  count_inside o before n k (id p x q c) = refl
  count_inside o before n k (property p a y x q v) = count_value_placed n (suc k) v
  count_inside o before n k (bare p a y x q c) = refl
  count_inside o before n k (alias p d x q t r ns c) = refl
  count_inside o before n k (signal p x q ps c) = refl
  count_inside o before n k (method f) = refl
  count_inside o before n k (given x p ns v) = count_value_placed n (suc k) v
  count_inside o before n k (group x p ns ms) = count_members_placed o (Some k) (before ++ x ∷ ns) n (suc k) ms
  count_inside o before n k (child c) = count_placed n (suc k) c

  count_value_placed : (n k : ℕ) (v : Value) → length (placed_value n k v) ≡ rows_in_value v
  count_value_placed n k (value_object c) = count_placed n k c
  count_value_placed n k (value_list p os) = count_list_placed n k os
  count_value_placed n k (value_stmt s) = refl

  count_list_placed : (n k : ℕ) (os : Objects) → length (placed_list n k os) ≡ rows_in_list os
  count_list_placed n k (last_object c) = count_placed n k c
  count_list_placed n k (an_object c os) =
      added (placed_of n k c) (placed_list (n + count_object c) (k + rows_in_object c) os) (rows_in_object c) (rows_in_list os)
      (count_placed n k c) (count_list_placed (n + count_object c) (k + rows_in_object c) os)

-- ---- finding the path of a group

pub assoc : {A : Type 0} (a b c : List A) → (a ++ b) ++ c ≡ a ++ (b ++ c)
assoc [] b c = refl
assoc (x ∷ a) b c = ap (λ xs. x ∷ xs) (assoc a b c)

-- a group's path, however many rows come behind
abbrev Around : Paths → Option ℕ → List Units → Type 0
Around paths g before = (more : Paths) → path_at (paths ++ more) g ≡ before

around_now : (paths : Paths) (g : Option ℕ) (before : List Units) → Around paths g before → path_at paths g ≡ before
around_now paths g before h = ap (λ ps. path_at ps g) (sym (append-nil paths)) ∙ h []

around_more : (paths extra : Paths) (g : Option ℕ) (before : List Units) → Around paths g before → Around (paths ++ extra) g before
around_more paths extra g before h more = ap (λ ps. path_at ps g) (assoc paths extra more) ∙ h (extra ++ more)

got_next : (paths : Paths) (x : List Units) (more : Paths) → slice_get ((paths ++ x ∷ []) ++ more) (length paths) ≡ Some x
got_next [] x more = refl
got_next (y ∷ paths) x more = got_next paths x more

around_next : (paths : Paths) (k : ℕ) (x : List Units) → length paths ≡ k → Around (paths ++ x ∷ []) (Some k) x
around_next paths k x e more = ap (λ j. unwrap_or (slice_get ((paths ++ x ∷ []) ++ more) j) []) (sym e) ∙ ap (λ o. unwrap_or o []) (got_next paths x more)

no_group : (paths : Paths) → Around paths None []
no_group paths more = refl

longer : (paths extra : Paths) (k j : ℕ) → length paths ≡ k → length extra ≡ j → length (paths ++ extra) ≡ k + j
longer paths extra k j e f = added paths extra k j e f

one_longer : (paths : Paths) (x : List Units) (k : ℕ) → length paths ≡ k → length (paths ++ x ∷ []) ≡ suc k
one_longer paths x k e = longer paths (x ∷ []) k 1 e refl ∙ plus_one k
  where
    plus_one : (k : ℕ) → k + 1 ≡ suc k
    plus_one k = omega arith

-- ---- rows

nothing_inside : (paths : Paths) (rest : List MemberEntry) → placed_behind paths rest ≡ placed_behind (paths ++ []) rest
nothing_inside paths rest = ap (λ ps. placed_behind ps rest) (sym (append-nil paths))

joined : (paths : Paths) (a b : List Placed) (rest : List MemberEntry) → placed_behind ((paths ++ map own a) ++ map own b) rest ≡ placed_behind (paths ++ map own (a ++ b)) rest
joined paths a b rest = ap (λ ps. placed_behind ps rest) (assoc paths (map own a) (map own b) ∙ ap (λ ps. paths ++ ps) (sym (map-append own a b)))

counted : (xs : List Placed) (j : ℕ) → length xs ≡ j → length (map own xs) ≡ j
counted [] j e = e
counted (x ∷ xs) j e = ap suc (counted xs (length xs) refl) ∙ e

-- what comes behind some pieces comes behind both
split_in_two : (paths : Paths) (a b : List Placed) (es fs : List MemberEntry) (rest : List MemberEntry)
    → placed_behind paths (es ++ (fs ++ rest)) ≡ a ++ placed_behind (paths ++ map own a) (fs ++ rest)
    → placed_behind (paths ++ map own a) (fs ++ rest) ≡ b ++ placed_behind ((paths ++ map own a) ++ map own b) rest
    → placed_behind paths ((es ++ fs) ++ rest) ≡ (a ++ b) ++ placed_behind (paths ++ map own (a ++ b)) rest
split_in_two paths a b es fs rest e f =
    ap (λ xs. placed_behind paths xs) (assoc es fs rest) ∙ e ∙ ap (λ xs. a ++ xs) (f ∙ ap (λ xs. b ++ xs) (joined paths a b rest)) ∙
    sym (assoc a b (placed_behind (paths ++ map own (a ++ b)) rest))

mutual
  object_rows : (paths : Paths) (n k : ℕ) (o : Object) (rest : List MemberEntry) → length paths ≡ k
      → placed_behind paths (members_with n k o ++ rest) ≡ placed_of n k o ++ placed_behind (paths ++ map own (placed_of n k o)) rest
  object_rows paths n k (object t ms) rest e = members_rows paths n None [] (suc n) k ms rest e (no_group paths)

  members_rows : (paths : Paths) (o : ℕ) (g : Option ℕ) (before : List Units) (n k : ℕ) (ms : Members) (rest : List MemberEntry) → length paths ≡ k → Around paths g before
      → placed_behind paths (members_of o g n k ms ++ rest) ≡ placed_members o g before n k ms ++ placed_behind (paths ++ map own (placed_members o g before n k ms)) rest
  members_rows paths o g before n k no_members rest e h = nothing_inside paths rest
  members_rows paths o g before n k (a_member m b ms) rest e h =
      let first = a_placed o g before n m in
      let behind : Paths = paths ++ own first ∷ [] in
      ap (λ path. (path, a_member_entry o g n m) ∷ placed_behind (paths ++ (path ++ names_added (of_member m false)) ∷ []) ((members_inside o n k m ++ members_of o g (n + count_member m) (suc k + rows_in_member m) ms) ++ rest))
      (around_now paths g before h) ∙
      ap (λ xs. first ∷ xs)
      (split_in_two behind (placed_in o before n k m) (placed_members o g before (n + count_member m) (suc k + rows_in_member m) ms)
      (members_inside o n k m) (members_of o g (n + count_member m) (suc k + rows_in_member m) ms) rest
      (inside_rows behind o before n k m (members_of o g (n + count_member m) (suc k + rows_in_member m) ms ++ rest) (one_longer paths (own first) k e) (around_next paths k (own first) e))
      (members_rows (behind ++ map own (placed_in o before n k m)) o g before (n + count_member m) (suc k + rows_in_member m) ms rest
      (longer behind (map own (placed_in o before n k m)) (suc k) (rows_in_member m) (one_longer paths (own first) k e) (counted (placed_in o before n k m) (rows_in_member m) (count_inside o before n k m)))
      (around_more behind (map own (placed_in o before n k m)) g before (around_more paths (own first ∷ []) g before h))) ∙
      ap (λ xs. (placed_in o before n k m ++ placed_members o g before (n + count_member m) (suc k + rows_in_member m) ms) ++ xs)
      (ap (λ ps. placed_behind ps rest) (assoc paths (own first ∷ []) (map own (placed_in o before n k m ++ placed_members o g before (n + count_member m) (suc k + rows_in_member m) ms)))))

  inside_rows : (paths : Paths) (o : ℕ) (before : List Units) (n k : ℕ) (m : Member) (rest : List MemberEntry) → length paths ≡ suc k → Around paths (Some k) (before ++ names_added (of_member m false))
      → placed_behind paths (members_inside o n k m ++ rest) ≡ placed_in o before n k m ++ placed_behind (paths ++ map own (placed_in o before n k m)) rest
  inside_rows paths o before n k (id p x q c) rest e h = nothing_inside paths rest
  inside_rows paths o before n k (property p a y x q v) rest e h = value_rows paths n (suc k) v rest e
  inside_rows paths o before n k (bare p a y x q c) rest e h = nothing_inside paths rest
  inside_rows paths o before n k (alias p d x q t r ns c) rest e h = nothing_inside paths rest
  inside_rows paths o before n k (signal p x q ps c) rest e h = nothing_inside paths rest
  inside_rows paths o before n k (method f) rest e h = nothing_inside paths rest
  inside_rows paths o before n k (given x p ns v) rest e h = value_rows paths n (suc k) v rest e
  inside_rows paths o before n k (group x p ns ms) rest e h = members_rows paths o (Some k) (before ++ x ∷ ns) n (suc k) ms rest e h
  inside_rows paths o before n k (child c) rest e h = object_rows paths n (suc k) c rest e

  value_rows : (paths : Paths) (n k : ℕ) (v : Value) (rest : List MemberEntry) → length paths ≡ k
      → placed_behind paths (members_of_value n k v ++ rest) ≡ placed_value n k v ++ placed_behind (paths ++ map own (placed_value n k v)) rest
  value_rows paths n k (value_object c) rest e = object_rows paths n k c rest e
  value_rows paths n k (value_list p os) rest e = list_rows paths n k os rest e
  value_rows paths n k (value_stmt s) rest e = nothing_inside paths rest

  list_rows : (paths : Paths) (n k : ℕ) (os : Objects) (rest : List MemberEntry) → length paths ≡ k
      → placed_behind paths (members_of_list n k os ++ rest) ≡ placed_list n k os ++ placed_behind (paths ++ map own (placed_list n k os)) rest
  list_rows paths n k (last_object c) rest e = object_rows paths n k c rest e
  list_rows paths n k (an_object c os) rest e =
      split_in_two paths (placed_of n k c) (placed_list (n + count_object c) (k + rows_in_object c) os) (members_with n k c) (members_of_list (n + count_object c) (k + rows_in_object c) os) rest
      (object_rows paths n k c (members_of_list (n + count_object c) (k + rows_in_object c) os ++ rest) e)
      (list_rows (paths ++ map own (placed_of n k c)) (n + count_object c) (k + rows_in_object c) os rest
      (longer paths (map own (placed_of n k c)) k (rows_in_object c) e (counted (placed_of n k c) (rows_in_object c) (count_placed n k c))))

pub all_placed : (root : Object) → placed_behind [] (members_with 0 0 root) ≡ placed_of 0 0 root
all_placed root = ap (placed_behind []) (sym (append-nil (members_with 0 0 root))) ∙ object_rows [] 0 0 root [] refl ∙ append-nil (placed_of 0 0 root)

-- ---- the members with whole paths

as_rows : (paths : Paths) (es : List MemberEntry) → rows_behind paths es ≡ map row_of (placed_behind paths es)
as_rows paths [] = refl
as_rows paths (e ∷ rest) =
    ap (λ rows. row e.object (member_of (path_at paths e.group) e.first e.part) ∷ rows) (as_rows (paths ++ (path_at paths e.group ++ names_added e.part) ∷ []) rest)

two_rows : (a b : List Placed) (x y : List OwnedMember) → map row_of a ≡ x → map row_of b ≡ y → map row_of (a ++ b) ≡ x ++ y
two_rows a b x y e f = map-append row_of a b ∙ ap (λ z. z ++ map row_of b) e ∙ ap (λ z. x ++ z) f

mutual
  rows_placed : (n k : ℕ) (o : Object) → map row_of (placed_of n k o) ≡ rows_of n o
  rows_placed n k (object t ms) = rows_placed_members n None [] (suc n) k ms

  rows_placed_members : (o : ℕ) (g : Option ℕ) (before : List Units) (n k : ℕ) (ms : Members) → map row_of (placed_members o g before n k ms) ≡ rows_of_members o before n ms
  rows_placed_members o g before n k no_members = refl
  rows_placed_members o g before n k (a_member m b ms) =
      ap (λ rows. row o (member_from before n m) ∷ rows)
      (two_rows (placed_in o before n k m) (placed_members o g before (n + count_member m) (suc k + rows_in_member m) ms) (rows_in o before n m) (rows_of_members o before (n + count_member m) ms)
      (rows_placed_in o before n k m) (rows_placed_members o g before (n + count_member m) (suc k + rows_in_member m) ms))

  rows_placed_in : (o : ℕ) (before : List Units) (n k : ℕ) (m : Member) → map row_of (placed_in o before n k m) ≡ rows_in o before n m
  rows_placed_in o before n k (id p x q c) = refl
  rows_placed_in o before n k (property p a y x q v) = rows_placed_value n (suc k) v
  rows_placed_in o before n k (bare p a y x q c) = refl
  rows_placed_in o before n k (alias p d x q t r ns c) = refl
  rows_placed_in o before n k (signal p x q ps c) = refl
  rows_placed_in o before n k (method f) = refl
  rows_placed_in o before n k (given x p ns v) = rows_placed_value n (suc k) v
  rows_placed_in o before n k (group x p ns ms) = rows_placed_members o (Some k) (before ++ x ∷ ns) n (suc k) ms
  rows_placed_in o before n k (child c) = rows_placed n (suc k) c

  rows_placed_value : (n k : ℕ) (v : Value) → map row_of (placed_value n k v) ≡ rows_of_value n v
  rows_placed_value n k (value_object c) = rows_placed n k c
  rows_placed_value n k (value_list p os) = rows_placed_list n k os
  rows_placed_value n k (value_stmt s) = refl

  rows_placed_list : (n k : ℕ) (os : Objects) → map row_of (placed_list n k os) ≡ rows_of_list n os
  rows_placed_list n k (last_object c) = rows_placed n k c
  rows_placed_list n k (an_object c os) =
      two_rows (placed_of n k c) (placed_list (n + count_object c) (k + rows_in_object c) os) (rows_of n c) (rows_of_list (n + count_object c) os)
      (rows_placed n k c) (rows_placed_list (n + count_object c) (k + rows_in_object c) os)

pub whole_paths : (root : Object) → rows_behind [] (members_with 0 0 root) ≡ rows_of 0 root
whole_paths root = as_rows [] (members_with 0 0 root) ∙ ap (map row_of) (all_placed root) ∙ rows_placed 0 0 root
