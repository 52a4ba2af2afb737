-- Names that an object may use once, in the order of writing.
use Rattle.std.proofs.Common.{◌≡◌, ◌∙◌, ap, sym, refl, ℕ, suc, ◌+◌, arith, Bool, true, false, ◌&&◌, ◌||◌, if◌then◌else◌, List, [], ◌∷◌, ◌++◌, map, flat_map}
use Rattle.std.specs.Prelude.{slice_get}
use Rattle.std.specs.Option.{unwrap_or}
use Rattle.std.specs.List.{list_any}
use Rattle.std.specs.Str.{bytes_eq}
use Rattle.std.proofs.lemmas.List.{map-append}
use Rattle.std.proofs.lemmas.List.Folds.{list_any-append}
use Rattle.qml_base.specs.declared.load_cause.LoadCause.{LoadCause}
use Rattle.qml_base.specs.declared.load_cause.LoadCause.TheVariants as cause
use Rattle.qml_base.specs.declared.numbers.Place.{Place}
use Rattle.qml_syntax.specs.Tree.{Units}
use Rattle.qml_types.specs.declared.kind.TypeNo.TheVariants as no
use Rattle.program_names.specs.Written.{WrittenObject, WrittenMember, a_property}
use Rattle.program_names.specs.Loaded.{Program, unit_at, object_at, no_object}
use Rattle.program_names.specs.Layers.{own_names, is_type, names_of_member, cells_of_member, names_of_members}
use Rattle.load_faults.specs.Faults.{Faults, first_from, fault_if}
use Rattle.load_faults.specs.Duplicates.{declared_twice, second_ids, roles_twice}
use Rattle.load_passes.specs.declared.repeated.NameRow.{NameRow}
use Rattle.load_passes.specs.Rows.{same_name, repeated, owner_row, rows_of_objects, id_word, second_id_rows, role_name, roles_in, role_rows as all_role_rows, declared_row as row_of_named, declared_rows_from, declared_rows as all_declared_rows}
use Rattle.written_order.specs.InOrder.{HasMembers, ToldAlike, names_written, id_rows, role_rows, names_declared, declared_row, declared_rows}
use Rattle.written_order.proofs.KeyLemmas.{told, Apart}
use Rattle.written_order.proofs.MemberLemmas.{AllOwned, Owned, by_object, in_both_orders}

abbrev owner_of : NameRow → ℕ
owner_of r = r.owner

abbrev again : LoadCause → List NameRow → NameRow → Faults
again why seen r = fault_if (list_any (same_name r) seen || r.taken) r.at why

told_again : (why : LoadCause) (seen rows : List NameRow) → repeated why seen rows ≡ told (again why) seen rows
told_again why seen [] = refl
told_again why seen (r ∷ rs) = ap (λ t. again why seen r ++ t) (told_again why (r ∷ seen) rs)

and_false : (a : Bool) → (a && false) ≡ false
and_false true = refl
and_false false = refl

apart : (why : LoadCause) → Apart owner_of (again why)
apart why x y latest seen e =
    ap (λ b. fault_if (b || y.taken) y.at why)
    (list_any-append (same_name y) latest (x ∷ seen) ∙
    ap (λ b. list_any (same_name y) latest || (b || list_any (same_name y) seen)) (ap (λ b. bytes_eq y.name x.name && b) e ∙ and_false (bytes_eq y.name x.name)) ∙
    sym (list_any-append (same_name y) latest seen))

names_alike : (g : ℕ → WrittenMember → List NameRow) → Owned owner_of g → (p : Program) (d : ℕ) → HasMembers p d → (rows : List NameRow) (faults : Faults)
    → rows ≡ by_object g 0 (unit_at p d).objects → repeated cause.DuplicateName [] rows ≡ faults
    → ToldAlike (repeated cause.DuplicateName [] (names_written p d g)) faults
names_alike g own p d h rows faults same are kept =
    ap (first_from kept) (told_again cause.DuplicateName [] (names_written p d g)) ∙
    in_both_orders owner_of (again cause.DuplicateName) (apart cause.DuplicateName) g own p d h kept ∙
    ap (first_from kept)
    (sym (told_again cause.DuplicateName [] (by_object g 0 (unit_at p d).objects)) ∙ ap (repeated cause.DuplicateName []) (sym same) ∙ are)

map_flat : {A B C : Type 0} (h : B → C) (q : A → List B) (xs : List A) → map h (flat_map q xs) ≡ flat_map (λ x. map h (q x)) xs
map_flat h q [] = refl
map_flat h q (x ∷ xs) = map-append h (q x) (flat_map q xs) ∙ ap (λ t. map h (q x) ++ t) (map_flat h q xs)

own_uses : (o : ℕ) (xs : List (Units × Place)) → AllOwned owner_of o (map (owner_row o) xs)
own_uses o [] = tt
own_uses o (x ∷ xs) = (refl, own_uses o xs)

-- ---- ids

own_ids : Owned owner_of id_rows
own_ids o m = own_uses o (id_word m)

ids_by_object : (o : ℕ) (ws : List WrittenObject) → rows_of_objects (λ o w. flat_map id_word w.members) o ws ≡ by_object id_rows o ws
ids_by_object o [] = refl
ids_by_object o (w ∷ ws) =
    ap (λ t. t ++ rows_of_objects (λ o w. flat_map id_word w.members) (suc o) ws) (map_flat (owner_row o) id_word w.members) ∙
    ap (λ t. flat_map (id_rows o) w.members ++ t) (ids_by_object (suc o) ws)

pub ids_written_alike : (p : Program) (d : ℕ) → HasMembers p d → repeated cause.DuplicateName [] (second_id_rows p d) ≡ second_ids p d → ToldAlike (repeated cause.DuplicateName [] (names_written p d id_rows)) (second_ids p d)
ids_written_alike p d h are =
    names_alike id_rows own_ids p d h (second_id_rows p d) (second_ids p d) (ids_by_object 0 (unit_at p d).objects) are

-- ---- roles

own_roles : (p : Program) (d : ℕ) → Owned owner_of (role_rows p d)
own_roles p d o m = by_type (is_type p d o no.ListElement)
  where
    by_type : (b : Bool) → AllOwned owner_of o (if b then map (owner_row o) (role_name m) else [])
    by_type true = own_uses o (role_name m)
    by_type false = tt

none_told : {A B : Type 0} (xs : List A) → Path (List B) [] (flat_map (λ x. []) xs)
none_told [] = refl
none_told (x ∷ xs) = none_told xs

roles_of_members : (o : ℕ) (b : Bool) (ms : List WrittenMember)
    → map (owner_row o) (if b then flat_map role_name ms else []) ≡ flat_map (λ m. if b then map (owner_row o) (role_name m) else []) ms
roles_of_members o true ms = map_flat (owner_row o) role_name ms
roles_of_members o false ms = none_told ms

roles_by_object : (p : Program) (d o : ℕ) (ws : List WrittenObject) → rows_of_objects (roles_in p d) o ws ≡ by_object (role_rows p d) o ws
roles_by_object p d o [] = refl
roles_by_object p d o (w ∷ ws) =
    ap (λ t. t ++ rows_of_objects (roles_in p d) (suc o) ws) (roles_of_members o (is_type p d o no.ListElement) w.members) ∙
    ap (λ t. flat_map (role_rows p d o) w.members ++ t) (roles_by_object p d (suc o) ws)

pub roles_written_alike : (p : Program) (d : ℕ) → HasMembers p d → repeated cause.DuplicateName [] (all_role_rows p d) ≡ roles_twice p d → ToldAlike (repeated cause.DuplicateName [] (names_written p d (role_rows p d))) (roles_twice p d)
roles_written_alike p d h are =
    names_alike (role_rows p d) (own_roles p d) p d h (all_role_rows p d) (roles_twice p d) (roles_by_object p d 0 (unit_at p d).objects) are

-- ---- declared names

own_names_declared : (p : Program) (d o : ℕ) (xs : List (Units × Place)) → AllOwned owner_of o (map (declared_row p d o) xs)
own_names_declared p d o [] = tt
own_names_declared p d o (x ∷ xs) = (refl, own_names_declared p d o xs)

own_declared : (p : Program) (d : ℕ) → Owned owner_of (declared_rows p d)
own_declared p d o m = own_names_declared p d o (names_declared m)

-- the definition of an object's own names, by the words that it is made of

own_names_so : (p : Program) (d o : ℕ) → own_names p d o ≡ names_of_members p d o 0 (object_at p d o).members
own_names_so p d o = refl

member_declared : (p : Program) (d o place : ℕ) (m : WrittenMember) → map (row_of_named p d o) (names_of_member p d o place m) ≡ declared_rows p d o m
member_declared p d o place (a_property q a k n at v) = refl
member_declared p d o place _ = refl

members_declared : (p : Program) (d o place : ℕ) (ms : List WrittenMember) → map (row_of_named p d o) (names_of_members p d o place ms) ≡ flat_map (declared_rows p d o) ms
members_declared p d o place [] = refl
members_declared p d o place (m ∷ ms) =
    map-append (row_of_named p d o) (names_of_member p d o place m) (names_of_members p d o (place + cells_of_member m) ms) ∙
    ap (λ t. t ++ map (row_of_named p d o) (names_of_members p d o (place + cells_of_member m) ms)) (member_declared p d o place m) ∙
    ap (λ t. declared_rows p d o m ++ t) (members_declared p d o (place + cells_of_member m) ms)

-- these objects are those from a number on
abbrev FromNumber : Program → ℕ → ℕ → List WrittenObject → Type 0
FromNumber p d o ws = (j k : ℕ) → k ≡ o + j → (unwrap_or (slice_get ws j) no_object).members ≡ (object_at p d k).members

number_here : (o : ℕ) → o ≡ o + 0
number_here o = omega arith

number_further : (o j k : ℕ) → k ≡ suc o + j → k ≡ o + suc j
number_further o j k e = omega arith

from_none : (j k : ℕ) → k ≡ 0 + j → j ≡ k
from_none j k e = omega arith

declared_by_object : (p : Program) (d o : ℕ) (ws : List WrittenObject) → FromNumber p d o ws → declared_rows_from p d o ws ≡ by_object (declared_rows p d) o ws
declared_by_object p d o [] h = refl
declared_by_object p d o (w ∷ ws) h =
    ap (λ t. t ++ declared_rows_from p d (suc o) ws)
    (members_declared p d o 0 (object_at p d o).members ∙ ap (flat_map (declared_rows p d o)) (sym (h 0 o (number_here o)))) ∙
    ap (λ t. flat_map (declared_rows p d o) w.members ++ t) (declared_by_object p d (suc o) ws (λ j k e. h (suc j) k (number_further o j k e)))

pub declared_written_alike : (p : Program) (d : ℕ) → HasMembers p d → repeated cause.DuplicateName [] (all_declared_rows p d) ≡ declared_twice p d → ToldAlike (repeated cause.DuplicateName [] (names_written p d (declared_rows p d))) (declared_twice p d)
declared_written_alike p d h are =
    names_alike (declared_rows p d) (own_declared p d) p d h (all_declared_rows p d) (declared_twice p d)
    (declared_by_object p d 0 (unit_at p d).objects (λ j k e. ap (λ i. (object_at p d i).members) (from_none j k e))) are
