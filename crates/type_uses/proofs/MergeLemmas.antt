-- Objects and members, merged by how many objects stand before each member, are in the order of writing.
use Rattle.std.proofs.Common.{◌≡◌, ◌∙◌, ap, sym, refl, subst, ℕ, zero, suc, ◌+◌, ◌-◌, ◌≤◌, min, arith, false, List, [], ◌∷◌, ◌++◌, map, take, drop, get_or, length, ◌<◌, Option, Some, None}
use Rattle.std.specs.Option.{option_to_list}
use Rattle.std.proofs.lemmas.List.{append-nil}
use Rattle.std.proofs.Math.Seq.{drop-cons}
use Rattle.qml_syntax.specs.Tree.{Import, document, Object, object, Members, no_members, a_member, Member, id, property, bare, alias, signal, method, given, group, child, Value, value_object, value_list, value_stmt, Objects, last_object, an_object, Whole, whole_document}
use Rattle.qml_syntax.specs.Nodes.{of_object, of_member, no_object, Table}
use Rattle.qml_syntax.specs.Listed.{listed_document}
use Rattle.qml_syntax.specs.Opened.{IsListing}
use Rattle.qml_syntax.proofs.RootLemmas.{listed_once}
use Rattle.program_names.specs.Types.{TypeUse, type_uses, uses_in, uses_by, uses_of_value, uses_of_objects}
use Rattle.program_names.specs.Written.{count_object, count_members, count_member, count_value, count_list}
use Rattle.document_rows.specs.declared.rows.ObjectRow.{ObjectRow}
use Rattle.document_rows.specs.declared.rows.MemberRow.{MemberRow}
use Rattle.document_rows.specs.Entries.{ObjectEntry, MemberEntry, an_object_entry, a_member_entry, rows_in_object, rows_in_member, objects_with, objects_of_members, objects_of_member, objects_of_value, objects_of_list, members_with, members_of, members_inside, members_of_value, members_of_list, object_entry, member_entry, AreRows}
use Rattle.type_uses.specs.Uses.{object_use, member_use, merged, uses_in_rows}
use Rattle.type_uses.proofs.PartLemmas.{object_item, member_item, object_at, member_at, named, uses_inside, by_member}

abbrev uses_told : ℕ → List ObjectEntry → List MemberEntry → List TypeUse
uses_told n os ms = merged (λ (e : ObjectEntry). object_item e.part) (λ (e : MemberEntry). member_item e.part) (λ (e : MemberEntry). e.first) n os ms

-- ---- rows and what they stand for

take_map : {A B : Type 0} (f : A → B) (k : ℕ) (xs : List A) → take k (map f xs) ≡ map f (take k xs)
take_map f zero xs = refl
take_map f (suc k) [] = refl
take_map f (suc k) (x ∷ xs) = ap (λ ys. f x ∷ ys) (take_map f k xs)

drop_map : {A B : Type 0} (f : A → B) (k : ℕ) (xs : List A) → drop k (map f xs) ≡ map f (drop k xs)
drop_map f zero xs = refl
drop_map f (suc k) [] = refl
drop_map f (suc k) (x ∷ xs) = drop_map f k xs

length_map : {A B : Type 0} (f : A → B) (xs : List A) → length (map f xs) ≡ length xs
length_map f [] = refl
length_map f (x ∷ xs) = ap suc (length_map f xs)

objects_alike : (t : Table) (os : List ObjectRow) → IsListing t → map (λ (o : ObjectRow). object_use t o.node) os ≡ map (λ (e : ObjectEntry). object_item e.part) (map (object_entry t) os)
objects_alike t [] lists = refl
objects_alike t (o ∷ os) lists = ap (λ u. u ∷ map (λ (r : ObjectRow). object_use t r.node) os) (object_at t o.node lists) ∙ ap (λ us. object_item (object_entry t o).part ∷ us) (objects_alike t os lists)

rows_alike : (t : Table) (n : ℕ) (os : List ObjectRow) (ms : List MemberRow) → IsListing t → uses_in_rows t n os ms ≡ uses_told n (map (object_entry t) os) (map (member_entry t) ms)
rows_alike t n os [] lists = objects_alike t os lists
rows_alike t n os (m ∷ ms) lists =
    let k : ℕ = min (m.first - n) (length os) in
    ap (λ us. us ++ (option_to_list (member_use t m.node) ++ uses_in_rows t m.first (drop k os) ms))
    (objects_alike t (take k os) lists ∙ ap (map (λ (e : ObjectEntry). object_item e.part)) (sym (take_map (object_entry t) k os))) ∙
    ap (λ us. map (λ (e : ObjectEntry). object_item e.part) (take k (map (object_entry t) os)) ++ (option_to_list us ++ uses_in_rows t m.first (drop k os) ms)) (member_at t m.node lists) ∙
    ap (λ us. map (λ (e : ObjectEntry). object_item e.part) (take k (map (object_entry t) os)) ++ (option_to_list (member_item (member_entry t m).part) ++ us))
    (rows_alike t m.first (drop k os) ms lists ∙ ap (λ xs. uses_told m.first xs (map (member_entry t) ms)) (sym (drop_map (object_entry t) k os))) ∙
    ap (λ l. map (λ (e : ObjectEntry). object_item e.part) (take (min (m.first - n) l) (map (object_entry t) os)) ++
    (option_to_list (member_item (member_entry t m).part) ++ uses_told m.first (drop (min (m.first - n) l) (map (object_entry t) os)) (map (member_entry t) ms)))
    (sym (length_map (object_entry t) os))

-- ---- one step

-- at least so many objects stand before the first of these
abbrev Behind : ℕ → List MemberEntry → Type 0
Behind n [] = Unit {0}
Behind n (m ∷ ms) = n ≤ m.first

one_less : (a n l : ℕ) → suc n ≤ a → min (a - n) (suc l) ≡ suc (min (a - suc n) l)
one_less a n l h = omega arith

object_told : (n : ℕ) (e : ObjectEntry) (os : List ObjectEntry) (ms : List MemberEntry) → Behind (suc n) ms → uses_told n (e ∷ os) ms ≡ object_item e.part ∷ uses_told (suc n) os ms
object_told n e os [] h = refl
object_told n e os (m ∷ ms) h =
    ap (λ k. map (λ (x : ObjectEntry). object_item x.part) (take k (e ∷ os)) ++ (option_to_list (member_item m.part) ++ uses_told m.first (drop k (e ∷ os)) ms))
    (one_less m.first n (length os) h)

none_before : (n l : ℕ) → min (n - n) l ≡ 0
none_before n l = omega arith

member_told : (n : ℕ) (m : MemberEntry) (os : List ObjectEntry) (ms : List MemberEntry) → m.first ≡ n → uses_told n os (m ∷ ms) ≡ option_to_list (member_item m.part) ++ uses_told n os ms
member_told n m os ms e =
    ap (λ a. map (λ (x : ObjectEntry). object_item x.part) (take (min (a - n) (length os)) os) ++ (option_to_list (member_item m.part) ++ uses_told a (drop (min (a - n) (length os)) os) ms)) e ∙
    ap (λ k. map (λ (x : ObjectEntry). object_item x.part) (take k os) ++ (option_to_list (member_item m.part) ++ uses_told n (drop k os) ms)) (none_before n (length os))

-- ---- where members begin

more : (n m : ℕ) (ms : List MemberEntry) → n ≤ m → Behind m ms → Behind n ms
more n m [] h b = tt
more n m (x ∷ ms) h b = omega arith

members_behind : (o : ℕ) (around : Option ℕ) (l n k : ℕ) (ms : Members) (rest : List MemberEntry) → l ≤ n → Behind (n + count_members ms) rest → Behind l (members_of o around n k ms ++ rest)
members_behind o around l n k no_members rest h b = more l (n + 0) rest (omega arith) b
members_behind o around l n k (a_member m c ms) rest h b = h

object_behind : (l n k : ℕ) (o : Object) (rest : List MemberEntry) → l ≤ n → Behind (n + count_object o) rest → Behind l (members_with n k o ++ rest)
object_behind l n k (object x ms) rest h b =
    members_behind n None l (suc n) k ms rest (omega arith) (more (suc n + count_members ms) (n + suc (count_members ms)) rest (omega arith) b)

assoc : {A : Type 0} (a b c : List A) → (a ++ b) ++ c ≡ a ++ (b ++ c)
assoc [] b c = refl
assoc (x ∷ a) b c = ap (λ xs. x ∷ xs) (assoc a b c)

list_behind : (l n k : ℕ) (os : Objects) (rest : List MemberEntry) → l ≤ n → Behind (n + count_list os) rest → Behind l (members_of_list n k os ++ rest)
list_behind l n k (last_object o) rest h b = object_behind l n k o rest h b
list_behind l n k (an_object o os) rest h b =
    subst (Behind l) (sym (assoc (members_with n k o) (members_of_list (n + count_object o) (k + rows_in_object o) os) rest))
    (object_behind l n k o (members_of_list (n + count_object o) (k + rows_in_object o) os ++ rest) h
    (list_behind (n + count_object o) (n + count_object o) (k + rows_in_object o) os rest (omega arith) (more _ _ rest (omega arith) b)))

-- ---- all of them

moved : (n m : ℕ) (os : List ObjectEntry) (ms : List MemberEntry) → n ≡ m → uses_told n os ms ≡ uses_told m os ms
moved n m os ms e = ap (λ x. uses_told x os ms) e

nothing : (n : ℕ) (os : List ObjectEntry) (ms : List MemberEntry) → uses_told n os ms ≡ uses_told (n + 0) os ms
nothing n os ms = moved n (n + 0) os ms (omega arith)

joined_up : (m : Member) (us rest : List TypeUse) → option_to_list (member_item (of_member m false)) ++ (uses_inside m ++ (us ++ rest)) ≡ (uses_by m ++ us) ++ rest
joined_up m us rest =
    sym (assoc (option_to_list (member_item (of_member m false))) (uses_inside m) (us ++ rest)) ∙ ap (λ xs. xs ++ (us ++ rest)) (by_member m) ∙ sym (assoc (uses_by m) us rest)

mutual
  object_merged : (row : Option ℕ) (n k : ℕ) (o : Object) (os : List ObjectEntry) (ms : List MemberEntry) → Behind (n + count_object o) ms
      → uses_told n (objects_with row k o ++ os) (members_with n k o ++ ms) ≡ type_uses o ++ uses_told (n + count_object o) os ms
  object_merged row n k (object x xs) os ms b =
      object_told n (an_object_entry row (object x xs)) (objects_of_members k xs ++ os) (members_of n None (suc n) k xs ++ ms)
      (members_behind n None (suc n) (suc n) k xs ms (omega arith) (more (suc n + count_members xs) (n + suc (count_members xs)) ms (omega arith) b)) ∙
      ap (λ us. object_item (of_object (object x xs)) ∷ us)
      (members_merged n None (suc n) k xs os ms (more (suc n + count_members xs) (n + suc (count_members xs)) ms (omega arith) b) ∙
      ap (λ us. uses_in xs ++ us) (moved (suc n + count_members xs) (n + suc (count_members xs)) os ms (omega arith))) ∙
      named x xs (uses_told (n + suc (count_members xs)) os ms)

  members_merged : (o : ℕ) (around : Option ℕ) (n k : ℕ) (xs : Members) (os : List ObjectEntry) (ms : List MemberEntry) → Behind (n + count_members xs) ms
      → uses_told n (objects_of_members k xs ++ os) (members_of o around n k xs ++ ms) ≡ uses_in xs ++ uses_told (n + count_members xs) os ms
  members_merged o around n k no_members os ms b = nothing n os ms
  members_merged o around n k (a_member m c xs) os ms b =
      member_told n (a_member_entry o around n m) (objects_of_members k (a_member m c xs) ++ os)
      ((members_inside o n k m ++ members_of o around (n + count_member m) (suc k + rows_in_member m) xs) ++ ms) refl ∙
      ap (λ us. option_to_list (member_item (of_member m false)) ++ us)
      (ap (λ es. uses_told n es ((members_inside o n k m ++ members_of o around (n + count_member m) (suc k + rows_in_member m) xs) ++ ms))
      (assoc (objects_of_member k m) (objects_of_members (suc k + rows_in_member m) xs) os) ∙
      ap (uses_told n (objects_of_member k m ++ (objects_of_members (suc k + rows_in_member m) xs ++ os)))
      (assoc (members_inside o n k m) (members_of o around (n + count_member m) (suc k + rows_in_member m) xs) ms) ∙
      inside_merged o n k m (objects_of_members (suc k + rows_in_member m) xs ++ os) (members_of o around (n + count_member m) (suc k + rows_in_member m) xs ++ ms)
      (members_behind o around (n + count_member m) (n + count_member m) (suc k + rows_in_member m) xs ms (omega arith) (more _ _ ms (omega arith) b)) ∙
      ap (λ us. uses_inside m ++ us)
      (members_merged o around (n + count_member m) (suc k + rows_in_member m) xs os ms (more _ _ ms (omega arith) b) ∙
      ap (λ us. uses_in xs ++ us) (moved ((n + count_member m) + count_members xs) (n + (count_member m + count_members xs)) os ms (omega arith)))) ∙
      joined_up m (uses_in xs) (uses_told (n + (count_member m + count_members xs)) os ms)

  inside_merged : (o n k : ℕ) (m : Member) (os : List ObjectEntry) (ms : List MemberEntry) → Behind (n + count_member m) ms
      → uses_told n (objects_of_member k m ++ os) (members_inside o n k m ++ ms) ≡ uses_inside m ++ uses_told (n + count_member m) os ms
  inside_merged o n k (id p x q c) os ms b = nothing n os ms
  inside_merged o n k (property p a y x q v) os ms b = value_merged k n (suc k) v os ms b
  inside_merged o n k (bare p a y x q c) os ms b = nothing n os ms
  inside_merged o n k (alias p d x q t r ns c) os ms b = nothing n os ms
  inside_merged o n k (signal p x q ps c) os ms b = nothing n os ms
  inside_merged o n k (method f) os ms b = nothing n os ms
  inside_merged o n k (given x p ns v) os ms b = value_merged k n (suc k) v os ms b
  inside_merged o n k (group x p ns xs) os ms b = members_merged o (Some k) n (suc k) xs os ms b
  inside_merged o n k (child c) os ms b = object_merged (Some k) n (suc k) c os ms b

  value_merged : (row n k : ℕ) (v : Value) (os : List ObjectEntry) (ms : List MemberEntry) → Behind (n + count_value v) ms
      → uses_told n (objects_of_value row k v ++ os) (members_of_value n k v ++ ms) ≡ uses_of_value v ++ uses_told (n + count_value v) os ms
  value_merged row n k (value_object o) os ms b = object_merged (Some row) n k o os ms b
  value_merged row n k (value_list p xs) os ms b = list_merged row n k xs os ms b
  value_merged row n k (value_stmt s) os ms b = nothing n os ms

  list_merged : (row n k : ℕ) (xs : Objects) (os : List ObjectEntry) (ms : List MemberEntry) → Behind (n + count_list xs) ms
      → uses_told n (objects_of_list row k xs ++ os) (members_of_list n k xs ++ ms) ≡ uses_of_objects xs ++ uses_told (n + count_list xs) os ms
  list_merged row n k (last_object o) os ms b = object_merged (Some row) n k o os ms b
  list_merged row n k (an_object o xs) os ms b =
      ap (λ es. uses_told n es ((members_with n k o ++ members_of_list (n + count_object o) (k + rows_in_object o) xs) ++ ms))
      (assoc (objects_with (Some row) k o) (objects_of_list row (k + rows_in_object o) xs) os) ∙
      ap (uses_told n (objects_with (Some row) k o ++ (objects_of_list row (k + rows_in_object o) xs ++ os)))
      (assoc (members_with n k o) (members_of_list (n + count_object o) (k + rows_in_object o) xs) ms) ∙
      object_merged (Some row) n k o (objects_of_list row (k + rows_in_object o) xs ++ os) (members_of_list (n + count_object o) (k + rows_in_object o) xs ++ ms)
      (list_behind (n + count_object o) (n + count_object o) (k + rows_in_object o) xs ms (omega arith) (more _ _ ms (omega arith) b)) ∙
      ap (λ us. type_uses o ++ us)
      (list_merged row (n + count_object o) (k + rows_in_object o) xs os ms (more _ _ ms (omega arith) b) ∙
      ap (λ us. uses_of_objects xs ++ us) (moved ((n + count_object o) + count_list xs) (n + (count_object o + count_list xs)) os ms (omega arith))) ∙
      sym (assoc (type_uses o) (uses_of_objects xs) (uses_told (n + (count_object o + count_list xs)) os ms))

-- ---- the document

abbrev root_in : Whole → Object
root_in (whole_document (document imports root)) = root
root_in _ = no_object

pub same_root : (t : Table) (imports others : List Import) (root other : Object) → listed_document (document imports root) ≡ t → listed_document (document others other) ≡ t → root ≡ other
same_root t imports others root other e f = ap root_in (listed_once (whole_document (document imports root)) (whole_document (document others other)) (e ∙ sym f))

pub all_uses : (t : Table) (os : List ObjectRow) (ms : List MemberRow) (imports : List Import) (root : Object) → AreRows t os ms → listed_document (document imports root) ≡ t
    → uses_in_rows t 0 os ms ≡ type_uses root
all_uses t os ms imports root a e =
    rows_alike t 0 os ms (whole_document (document imports root), e) ∙
    ap (λ es. uses_told 0 es (map (member_entry t) ms)) (a.all_objects ∙ sym (append-nil (objects_with None 0 a.root))) ∙
    ap (uses_told 0 (objects_with None 0 a.root ++ [])) (a.all_members ∙ sym (append-nil (members_with 0 0 a.root))) ∙
    object_merged None 0 0 a.root [] [] tt ∙ append-nil (type_uses a.root) ∙ ap type_uses (same_root t a.imports imports a.root root a.tree e)

-- ---- the code

one_more : (i : ℕ) → suc i ≡ i + 1
one_more i = omega arith

pub stepped : (t : Table) (before between after all : List TypeUse) (done k i : ℕ) (rest behind : List ObjectRow) (ms items : List MemberRow) (d : MemberRow)
    → before ++ uses_in_rows t done rest (drop i ms) ≡ all → items ≡ ms → i < length items → k ≡ min ((get_or items i d).first - done) (length rest)
    → between ≡ before ++ map (λ (o : ObjectRow). object_use t o.node) (take k rest)
    → after ≡ between ++ option_to_list (member_use t (get_or items i d).node) → behind ≡ drop k rest
    → after ++ uses_in_rows t (get_or items i d).first behind (drop (i + 1) ms) ≡ all
stepped t before between after all done k i rest behind ms items d h same within e f g b =
    let m : MemberRow = get_or items i d in
    let next : drop i ms ≡ m ∷ drop (i + 1) ms = ap (drop i) (sym same) ∙ drop-cons items i d within ∙ ap (λ j. m ∷ drop j items) (one_more i) ∙ ap (λ xs. m ∷ drop (i + 1) xs) same in
    ap (λ xs. xs ++ uses_in_rows t m.first behind (drop (i + 1) ms)) (g ∙ ap (λ xs. xs ++ option_to_list (member_use t m.node)) f) ∙
    ap (λ os. ((before ++ map (λ (o : ObjectRow). object_use t o.node) (take k rest)) ++ option_to_list (member_use t m.node)) ++ uses_in_rows t m.first os (drop (i + 1) ms)) b ∙
    assoc (before ++ map (λ (o : ObjectRow). object_use t o.node) (take k rest)) (option_to_list (member_use t m.node)) (uses_in_rows t m.first (drop k rest) (drop (i + 1) ms)) ∙
    assoc before (map (λ (o : ObjectRow). object_use t o.node) (take k rest)) (option_to_list (member_use t m.node) ++ uses_in_rows t m.first (drop k rest) (drop (i + 1) ms)) ∙
    ap (λ j. before ++ (map (λ (o : ObjectRow). object_use t o.node) (take j rest) ++ (option_to_list (member_use t m.node) ++ uses_in_rows t m.first (drop j rest) (drop (i + 1) ms)))) e ∙
    ap (λ xs. before ++ uses_in_rows t done rest xs) (sym next) ∙ h
