-- Names that an object may use once, as rows of all objects.
use Rattle.std.proofs.Common.{◌≡◌, ◌∙◌, ap, sym, refl, ℕ, suc, ◌<◌, arith, Bool, true, false, ◌&&◌, ◌||◌, nat_eq, if◌then◌else◌, List, [], ◌∷◌, ◌++◌, map, flat_map}
use Rattle.std.specs.List.{list_any}
use Rattle.std.specs.Str.{bytes_eq}
use Rattle.std.proofs.lemmas.List.Folds.{list_any-append}
use Rattle.std.proofs.lemmas.Bool.Decides.{nat_tests}
use Rattle.qml_base.specs.declared.load_cause.LoadCause.{LoadCause}
use Rattle.qml_base.specs.declared.load_cause.LoadCause.TheVariants as cause
use Rattle.qml_base.specs.declared.numbers.Place.{Place}
use Rattle.qml_syntax.specs.Tree.{Units}
use Rattle.qml_types.specs.declared.kind.TypeNo.TheVariants as no
use Rattle.program_names.specs.Names.{is_in}
use Rattle.program_names.specs.Written.{WrittenObject, WrittenMember, an_id, a_value}
use Rattle.program_names.specs.Loaded.{Program, unit_at}
use Rattle.program_names.specs.Layers.{Named, type_names, own_names, is_type}
use Rattle.load_faults.specs.Faults.{Faults, fault_if, objects_from}
use Rattle.load_faults.specs.Duplicates.{declared_twice, second_ids, roles_twice}
use Rattle.load_passes.specs.declared.repeated.NameRow.{NameRow}
use Rattle.load_passes.specs.Rows.{same_name, repeated, declared_row, declared_rows_from, declared_rows, owner_row, rows_of_objects, id_word, second_id_rows, role_name, roles_in, role_rows}

abbrev Use : Type 0
Use = Units × Place

abbrev name_of : Use → Units
name_of x = x.0

-- the names that are used again, over those that were seen
abbrev again : LoadCause → List Units → List Use → Faults
again why seen [] = []
again why seen (x ∷ rest) = fault_if (is_in x.0 seen) x.1 why ++ again why (x.0 ∷ seen) rest

-- rows of objects before one
abbrev Before : ℕ → List NameRow → Type 0
Before o [] = Unit {0}
Before o (r ∷ rs) = (r.owner < o) × Before o rs

or_nothing : (a : Bool) → (a || false) ≡ a
or_nothing true = refl
or_nothing false = refl

and_false : (a : Bool) → (a && false) ≡ false
and_false true = refl
and_false false = refl

and_true : (a : Bool) → (a && true) ≡ a
and_true true = refl
and_true false = refl

another : (o k : ℕ) → k < o → nat_eq o k ≡ false
another o k h = grind (arith, nat_tests)

itself : (o : ℕ) → nat_eq o o ≡ true
itself o = grind (arith, nat_tests)

none_before : (o : ℕ) (x : Use) (rs : List NameRow) → Before o rs → list_any (same_name (owner_row o x)) rs ≡ false
none_before o x [] h = refl
none_before o x (r ∷ rs) h =
    ap (λ b. (bytes_eq x.0 r.name && b) || list_any (same_name (owner_row o x)) rs) (another o r.owner h.0) ∙
    ap (λ b. b || list_any (same_name (owner_row o x)) rs) (and_false (bytes_eq x.0 r.name)) ∙ none_before o x rs h.1

among_own : (o : ℕ) (x : Use) (own : List Use) → list_any (same_name (owner_row o x)) (map (owner_row o) own) ≡ is_in x.0 (map name_of own)
among_own o x [] = refl
among_own o x (y ∷ own) =
    ap (λ b. (bytes_eq x.0 y.0 && b) || list_any (same_name (owner_row o x)) (map (owner_row o) own)) (itself o) ∙
    ap (λ b. b || list_any (same_name (owner_row o x)) (map (owner_row o) own)) (and_true (bytes_eq x.0 y.0)) ∙
    ap (λ b. bytes_eq x.0 y.0 || b) (among_own o x own)

seen_so : (o : ℕ) (x : Use) (own : List Use) (rs : List NameRow) → Before o rs → list_any (same_name (owner_row o x)) (map (owner_row o) own ++ rs) ≡ is_in x.0 (map name_of own)
seen_so o x own rs h =
    list_any-append (same_name (owner_row o x)) (map (owner_row o) own) rs ∙ ap (λ b. list_any (same_name (owner_row o x)) (map (owner_row o) own) || b) (none_before o x rs h) ∙
    or_nothing (list_any (same_name (owner_row o x)) (map (owner_row o) own)) ∙ among_own o x own

-- the latest in front
abbrev back : List Use → List Use → List Use
back [] own = own
back (x ∷ xs) own = back xs (x ∷ own)

assoc : {A : Type 0} (a b c : List A) → (a ++ b) ++ c ≡ a ++ (b ++ c)
assoc [] b c = refl
assoc (x ∷ a) b c = ap (λ xs. x ∷ xs) (assoc a b c)

of_one : (why : LoadCause) (o : ℕ) (xs own : List Use) (rs more : List NameRow) → Before o rs
    → repeated why (map (owner_row o) own ++ rs) (map (owner_row o) xs ++ more) ≡ again why (map name_of own) xs ++ repeated why (map (owner_row o) (back xs own) ++ rs) more
of_one why o [] own rs more h = refl
of_one why o (x ∷ xs) own rs more h =
    ap (λ b. fault_if b x.1 why ++ repeated why (map (owner_row o) (x ∷ own) ++ rs) (map (owner_row o) xs ++ more))
    (or_nothing (list_any (same_name (owner_row o x)) (map (owner_row o) own ++ rs)) ∙ seen_so o x own rs h) ∙
    ap (λ faults. fault_if (is_in x.0 (map name_of own)) x.1 why ++ faults) (of_one why o xs (x ∷ own) rs more h) ∙
    sym (assoc (fault_if (is_in x.0 (map name_of own)) x.1 why) (again why (x.0 ∷ map name_of own) xs) (repeated why (map (owner_row o) (back xs (x ∷ own)) ++ rs) more))

later : (o k : ℕ) → k < o → k < suc o
later o k h = omega arith

own_number : (o : ℕ) → o < suc o
own_number o = omega arith

all_later : (o : ℕ) (rs : List NameRow) → Before o rs → Before (suc o) rs
all_later o [] h = tt
all_later o (r ∷ rs) h = (later o r.owner h.0, all_later o rs h.1)

own_before : (o : ℕ) (own : List Use) (rs : List NameRow) → Before (suc o) rs → Before (suc o) (map (owner_row o) own ++ rs)
own_before o [] rs h = h
own_before o (x ∷ own) rs h = (own_number o, own_before o own rs h)

of_all : (why : LoadCause) (f : ℕ → WrittenObject → List Use) (o : ℕ) (ws : List WrittenObject) (rs : List NameRow) → Before o rs
    → repeated why rs (rows_of_objects f o ws) ≡ objects_from o ws (λ o w. again why [] (f o w))
of_all why f o [] rs h = refl
of_all why f o (w ∷ ws) rs h =
    of_one why o (f o w) [] rs (rows_of_objects f (suc o) ws) h ∙
    ap (λ faults. again why [] (f o w) ++ faults) (of_all why f (suc o) ws (map (owner_row o) (back (f o w) []) ++ rs) (own_before o (back (f o w) []) rs (all_later o rs h)))

same_objects : (f g : ℕ → WrittenObject → Faults) → ((o : ℕ) (w : WrittenObject) → f o w ≡ g o w) → (o : ℕ) (ws : List WrittenObject) → objects_from o ws f ≡ objects_from o ws g
same_objects f g same o [] = refl
same_objects f g same o (w ∷ ws) = ap (λ a. a ++ objects_from (suc o) ws f) (same o w) ∙ ap (λ b. g o w ++ b) (same_objects f g same (suc o) ws)

-- ---- the two causes, by the words that they are made of

abbrev ids_again : Bool → List WrittenMember → Faults
ids_again seen [] = []
ids_again seen (an_id word n at ∷ rest) = fault_if seen word cause.DuplicateName ++ ids_again true rest
ids_again seen (m ∷ rest) = ids_again seen rest

ids_alone : (seen : List Units) (ms : List WrittenMember) → again cause.DuplicateName seen (flat_map id_word ms) ≡ ids_again (is_in [] seen) ms
ids_alone seen [] = refl
ids_alone seen (an_id word n at ∷ ms) = ap (λ faults. fault_if (is_in [] seen) word cause.DuplicateName ++ faults) (ids_alone ([] ∷ seen) ms)
ids_alone seen (_ ∷ ms) = ids_alone seen ms

pub second_ids_alike : (p : Program) (d : ℕ) → repeated cause.DuplicateName [] (second_id_rows p d) ≡ second_ids p d
second_ids_alike p d =
    of_all cause.DuplicateName (λ o w. flat_map id_word w.members) 0 (unit_at p d).objects [] tt ∙
    same_objects (λ o w. again cause.DuplicateName [] (flat_map id_word w.members)) (λ o w. ids_again false w.members) (λ o w. ids_alone [] w.members) 0 (unit_at p d).objects

abbrev roles_again : List Units → List WrittenMember → Faults
roles_again seen [] = []
roles_again seen (a_value at (n ∷ []) v ∷ rest) = fault_if (is_in n seen) at cause.DuplicateName ++ roles_again (n ∷ seen) rest
roles_again seen (m ∷ rest) = roles_again seen rest

roles_alone : (seen : List Units) (ms : List WrittenMember) → again cause.DuplicateName seen (flat_map role_name ms) ≡ roles_again seen ms
roles_alone seen [] = refl
roles_alone seen (a_value at (n ∷ []) v ∷ ms) = ap (λ faults. fault_if (is_in n seen) at cause.DuplicateName ++ faults) (roles_alone (n ∷ seen) ms)
roles_alone seen (_ ∷ ms) = roles_alone seen ms

roles_of_object : (b : Bool) (ms : List WrittenMember) → again cause.DuplicateName [] (if b then flat_map role_name ms else []) ≡ (if b then roles_again [] ms else [])
roles_of_object true ms = roles_alone [] ms
roles_of_object false ms = refl

pub roles_alike : (p : Program) (d : ℕ) → repeated cause.DuplicateName [] (role_rows p d) ≡ roles_twice p d
roles_alike p d =
    of_all cause.DuplicateName (roles_in p d) 0 (unit_at p d).objects [] tt ∙
    same_objects (λ o w. again cause.DuplicateName [] (roles_in p d o w)) (λ o w. if is_type p d o no.ListElement then roles_again [] w.members else [])
    (λ o w. roles_of_object (is_type p d o no.ListElement) w.members) 0 (unit_at p d).objects

-- ---- names that an object declares

abbrev declared_use : Named → Use
declared_use n = (n.name, n.at)

abbrev named : Named → Units
named n = n.name

abbrev names_again : List Units → List Named → Faults
names_again seen [] = []
names_again seen (n ∷ rest) = fault_if (is_in n.name seen) n.at cause.DuplicateName ++ names_again (n.name ∷ seen) rest

abbrev behind : List Named → List Named → List Named
behind [] own = own
behind (x ∷ xs) own = behind xs (x ∷ own)

declared_none_before : (p : Program) (d o : ℕ) (x : Named) (rs : List NameRow) → Before o rs → list_any (same_name (declared_row p d o x)) rs ≡ false
declared_none_before p d o x rs h = none_before o (declared_use x) rs h

declared_among_own : (p : Program) (d o : ℕ) (x : Named) (own : List Named) → list_any (same_name (declared_row p d o x)) (map (declared_row p d o) own) ≡ is_in x.name (map named own)
declared_among_own p d o x [] = refl
declared_among_own p d o x (y ∷ own) =
    ap (λ b. (bytes_eq x.name y.name && b) || list_any (same_name (declared_row p d o x)) (map (declared_row p d o) own)) (itself o) ∙
    ap (λ b. b || list_any (same_name (declared_row p d o x)) (map (declared_row p d o) own)) (and_true (bytes_eq x.name y.name)) ∙
    ap (λ b. bytes_eq x.name y.name || b) (declared_among_own p d o x own)

declared_seen : (p : Program) (d o : ℕ) (x : Named) (own : List Named) (rs : List NameRow) → Before o rs
    → list_any (same_name (declared_row p d o x)) (map (declared_row p d o) own ++ rs) ≡ is_in x.name (map named own)
declared_seen p d o x own rs h =
    list_any-append (same_name (declared_row p d o x)) (map (declared_row p d o) own) rs ∙
    ap (λ b. list_any (same_name (declared_row p d o x)) (map (declared_row p d o) own) || b) (declared_none_before p d o x rs h) ∙
    or_nothing (list_any (same_name (declared_row p d o x)) (map (declared_row p d o) own)) ∙ declared_among_own p d o x own

declared_before : (p : Program) (d o : ℕ) (own : List Named) (rs : List NameRow) → Before (suc o) rs → Before (suc o) (map (declared_row p d o) own ++ rs)
declared_before p d o [] rs h = h
declared_before p d o (x ∷ own) rs h = (own_number o, declared_before p d o own rs h)

-- rows of one object, of which these were seen, the latest in front
declared_of_one : (p : Program) (d o : ℕ) (xs own : List Named) (rs more : List NameRow) → Before o rs
    → repeated cause.DuplicateName (map (declared_row p d o) own ++ rs) (map (declared_row p d o) xs ++ more) ≡
    names_again (map named own ++ map named (type_names p d o)) xs ++ repeated cause.DuplicateName (map (declared_row p d o) (behind xs own) ++ rs) more
declared_of_one p d o [] own rs more h = refl
declared_of_one p d o (x ∷ xs) own rs more h =
    ap (λ b. fault_if b x.at cause.DuplicateName ++ repeated cause.DuplicateName (map (declared_row p d o) (x ∷ own) ++ rs) (map (declared_row p d o) xs ++ more))
    (ap (λ b. b || is_in x.name (map named (type_names p d o))) (declared_seen p d o x own rs h) ∙ sym (list_any-append (bytes_eq x.name) (map named own) (map named (type_names p d o)))) ∙
    ap (λ faults. fault_if (is_in x.name (map named own ++ map named (type_names p d o))) x.at cause.DuplicateName ++ faults) (declared_of_one p d o xs (x ∷ own) rs more h) ∙
    sym (assoc (fault_if (is_in x.name (map named own ++ map named (type_names p d o))) x.at cause.DuplicateName) (names_again (x.name ∷ (map named own ++ map named (type_names p d o))) xs)
    (repeated cause.DuplicateName (map (declared_row p d o) (behind xs (x ∷ own)) ++ rs) more))

declared_of_all : (p : Program) (d o : ℕ) (ws : List WrittenObject) (rs : List NameRow) → Before o rs
    → repeated cause.DuplicateName rs (declared_rows_from p d o ws) ≡ objects_from o ws (λ o w. names_again (map named (type_names p d o)) (own_names p d o))
declared_of_all p d o [] rs h = refl
declared_of_all p d o (w ∷ ws) rs h =
    declared_of_one p d o (own_names p d o) [] rs (declared_rows_from p d (suc o) ws) h ∙
    ap (λ faults. names_again (map named (type_names p d o)) (own_names p d o) ++ faults)
    (declared_of_all p d (suc o) ws (map (declared_row p d o) (behind (own_names p d o) []) ++ rs) (declared_before p d o (behind (own_names p d o) []) rs (all_later o rs h)))

pub declared_alike : (p : Program) (d : ℕ) → repeated cause.DuplicateName [] (declared_rows p d) ≡ declared_twice p d
declared_alike p d = declared_of_all p d 0 (unit_at p d).objects [] tt
