-- There are no more aliases in the tables than the objects of a program declare.
use Rattle.std.proofs.Common.{◌≡◌, ◌∙◌, ap, sym, refl, subst, ℕ, zero, suc, ◌+◌, ◌<◌, ◌≤◌, arith, Bool, true, false, List, [], ◌∷◌, ◌++◌, length, map, Option, Some, None, is_some}
use Rattle.std.specs.Prelude.{◌||◌, nat_eq, if◌then◌else◌, slice_get}
use Rattle.std.specs.Option.{option_map, unwrap_or}
use Rattle.std.specs.List.{sum_by}
use Rattle.std.proofs.lemmas.Bool.{false≢true}
use Rattle.std.proofs.lemmas.Bool.Decides.{nat_tests}
use Rattle.std.proofs.lemmas.List.{map-append}
use Rattle.std.proofs.lemmas.List.Sums.{sum_by-cons}
use Rattle.qml_syntax.specs.Tree.{Units}
use Rattle.qml_syntax.specs.Nodes.{Table}
use Rattle.program_names.specs.Written.{WrittenObject, WrittenMember, an_alias, OwnedMember}
use Rattle.program_names.specs.Loaded.{Program, Unit as AUnit, unit_at, object_at, no_object, no_unit}
use Rattle.program_names.specs.PathMeanings.{aliases_of_unit, count_aliases}
use Rattle.document_rows.specs.WholePaths.{path_at}
use Rattle.document_rows.specs.WrittenObjects.{kept, members_of_object}
use Rattle.document_members.specs.declared.member.Member.{Member}
use Rattle.document_members.specs.declared.member.Member.TheVariants as m
use Rattle.document_members.specs.Members.{written_in, added_by}
use Rattle.program_tables.specs.declared.names.UnitNames.{UnitNames}
use Rattle.program_tables.specs.declared.building.UnitRow.{UnitRow}
use Rattle.program_tables.specs.Building.{is_group, is_inside}
use Rattle.program_tables.specs.RowsSay.{RowsSay}
use Rattle.program_tables.proofs.GroupLemmas.{is_filled, inside_alike, filled_by}
use Rattle.path_ends.specs.declared.aliases.Alias.{Alias}
use Rattle.path_ends.specs.declared.aliases.UnitAliases.{UnitAliases}
use Rattle.path_ends.specs.Said.{count_in, count_of, SaidAlias, told, said, target_given, told_by, aliases_told}
use Rattle.path_ends.specs.Known.{SaysUnit}

-- ---- of rows

abbrev one : WrittenMember → ℕ
one (an_alias q c n at t v) = 1
one _ = 0

abbrev written : List OwnedMember → ℕ
written [] = 0
written (w ∷ ws) = one w.member + written ws

abbrev told_count : List (Option SaidAlias) → ℕ
told_count [] = 0
told_count (Some s ∷ rest) = suc (told_count rest)
told_count (None ∷ rest) = told_count rest

count_said : (own : List (Option Alias)) → count_in own ≡ told_count (map said own)
count_said [] = refl
count_said (Some a ∷ own) = ap suc (count_said own)
count_said (None ∷ own) = count_said own

abbrev some_one : Option SaidAlias → ℕ
some_one None = 0
some_one (Some s) = 1

told_one : (x : Option SaidAlias) (rest : List (Option SaidAlias)) → told_count (x ∷ rest) ≡ some_one x + told_count rest
told_one None rest = nothing (told_count rest)
  where
    nothing : (n : ℕ) → n ≡ 0 + n
    nothing n = omega arith
told_one (Some s) rest = one_on (told_count rest)
  where
    one_on : (n : ℕ) → suc n ≡ 1 + n
    one_on n = omega arith

by_member : (o : ℕ) (t : Table) (before : List Units) (first : ℕ) (x : Member) → some_one (option_map (told o) (target_given (is_filled before) x)) ≡ one (written_in t before first x)
by_member o t [] first (m.Alias q c n at target) = refl
by_member o t (n ∷ ns) first (m.Alias q c name at target) = refl
by_member o t [] first (m.Id w n at) = refl
by_member o t (n ∷ ns) first (m.Id w name at) = refl
by_member o t [] first _ = refl
by_member o t (n ∷ ns) first _ = refl

count_rows : (p : Program) (u : ℕ) (t : Table) (grouping : List Bool) (paths : List (List Units)) (rows : List UnitRow) (ws : List OwnedMember) → RowsSay p u t paths rows ws → grouping ≡ map is_filled paths
    → told_count (aliases_told grouping rows) ≡ written ws
count_rows p u t grouping paths [] [] h e = refl
count_rows p u t grouping paths [] (w ∷ ws) h e = absurd h
count_rows p u t grouping paths (r ∷ rs) [] h e = absurd h
count_rows p u t grouping paths (r ∷ rs) (w ∷ ws) h e =
    let before = path_at paths r.row.group in
    let inside : is_inside grouping r.row.group ≡ is_filled before = ap (λ g. is_inside g r.row.group) e ∙ inside_alike paths r.row.group in
    told_one (told_by (is_inside grouping r.row.group) r) (aliases_told (grouping ++ (is_inside grouping r.row.group || is_group r.member) ∷ []) rs) ∙
    ap (λ n. n + told_count (aliases_told (grouping ++ (is_inside grouping r.row.group || is_group r.member) ∷ []) rs))
    (ap (λ c. some_one (told_by c r)) inside ∙ by_member r.row.object t before r.row.first r.member ∙ ap one h.0.member) ∙
    ap (λ n. one w.member + n)
    (count_rows p u t (grouping ++ (is_inside grouping r.row.group || is_group r.member) ∷ []) (paths ++ (before ++ added_by r.member) ∷ []) rs ws h.1
    (ap (λ g. g ++ (is_inside grouping r.row.group || is_group r.member) ∷ []) e ∙
    ap (λ c. map is_filled paths ++ c ∷ []) (ap (λ c. c || is_group r.member) inside ∙ sym (filled_by before r.member)) ∙
    sym (map-append is_filled paths ((before ++ added_by r.member) ∷ []))))

-- ---- of objects

count_one : (x : WrittenMember) (rest : List WrittenMember) → count_aliases (x ∷ rest) ≡ one x + count_aliases rest
count_one (an_alias q c n at t v) rest = one_on (count_aliases rest)
  where
    one_on : (n : ℕ) → suc n ≡ 1 + n
    one_on n = omega arith
count_one _ rest = nothing (count_aliases rest)
  where
    nothing : (n : ℕ) → n ≡ 0 + n
    nothing n = omega arith

-- in the n objects from number o on
abbrev in_objects : ℕ → ℕ → List OwnedMember → ℕ
in_objects o zero ws = 0
in_objects o (suc n) ws = count_aliases (members_of_object o ws) + in_objects (suc o) n ws

abbrev owned : ℕ → ℕ → ℕ → ℕ → ℕ
owned o zero k x = 0
owned o (suc n) k x = (if nat_eq k o then x else 0) + owned (suc o) n k x

kept_count : (o : ℕ) (w : OwnedMember) (rest : List WrittenMember) → count_aliases (kept o w ++ rest) ≡ (if nat_eq w.object o then one w.member else 0) + count_aliases rest
kept_count o w rest = by_test (nat_eq w.object o)
  where
    nothing : (n : ℕ) → n ≡ 0 + n
    nothing n = omega arith

    by_test : (c : Bool) → count_aliases ((if c then w.member ∷ [] else []) ++ rest) ≡ (if c then one w.member else 0) + count_aliases rest
    by_test true = count_one w.member rest
    by_test false = nothing (count_aliases rest)

swapped : (a b c d : ℕ) → (a + b) + (c + d) ≡ (a + c) + (b + d)
swapped a b c d = omega arith

one_row : (o n : ℕ) (w : OwnedMember) (ws : List OwnedMember) → in_objects o n (w ∷ ws) ≡ owned o n w.object (one w.member) + in_objects o n ws
one_row o zero w ws = refl
one_row o (suc n) w ws =
    ap (λ c. c + in_objects (suc o) n (w ∷ ws)) (kept_count o w (members_of_object o ws)) ∙
    ap (λ c. ((if nat_eq w.object o then one w.member else 0) + count_aliases (members_of_object o ws)) + c) (one_row (suc o) n w ws) ∙
    swapped (if nat_eq w.object o then one w.member else 0) (count_aliases (members_of_object o ws)) (owned (suc o) n w.object (one w.member)) (in_objects (suc o) n ws)

some_owned : (o n k x : ℕ) → o ≤ k → k < o + n → x ≤ owned o n k x
some_owned o zero k x h g = absurd (none o k h g)
  where
    none : (o k : ℕ) → o ≤ k → k < o + 0 → ⊥
    none o k h g = omega arith
some_owned o (suc n) k x h g = by_test (λ a c. some_owned (suc o) n k x a c) (nat_eq k o) refl
  where
    first : (x y : ℕ) → x ≤ x + y
    first x y = omega arith

    further : (o k : ℕ) → o ≤ k → nat_eq k o ≡ false → suc o ≤ k
    further o k h e = grind (arith, nat_tests)

    moved : (o n k : ℕ) → k < o + suc n → k < suc o + n
    moved o n k g = omega arith

    second : (x y : ℕ) → x ≤ y → x ≤ 0 + y
    second x y h = omega arith

    by_test : (suc o ≤ k → k < suc o + n → x ≤ owned (suc o) n k x) → (c : Bool) → nat_eq k o ≡ c → x ≤ (if c then x else 0) + owned (suc o) n k x
    by_test rest true e = first x (owned (suc o) n k x)
    by_test rest false e = second x (owned (suc o) n k x) (rest (further o k h e) (moved o n k g))

at_most : (n : ℕ) (ws : List OwnedMember) → ((k : ℕ) (w : OwnedMember) → slice_get ws k ≡ Some w → w.object < n) → written ws ≤ in_objects 0 n ws
at_most n [] h = nothing_less (in_objects 0 n [])
  where
    nothing_less : (k : ℕ) → 0 ≤ k
    nothing_less k = omega arith
at_most n (w ∷ ws) h =
    subst (λ k. one w.member + written ws ≤ k) (sym (one_row 0 n w ws))
    (both (one w.member) (written ws) (owned 0 n w.object (one w.member)) (in_objects 0 n ws)
    (some_owned 0 n w.object (one w.member) (from_none w.object) (below w.object n (h 0 w refl))) (at_most n ws (λ k x e. h (suc k) x e)))
  where
    both : (a b c d : ℕ) → a ≤ c → b ≤ d → a + b ≤ c + d
    both a b c d h g = omega arith

    from_none : (k : ℕ) → 0 ≤ k
    from_none k = omega arith

    below : (k n : ℕ) → k < n → k < 0 + n
    below k n h = omega arith

in_all : (ws : List OwnedMember) (o : ℕ) (objects : List WrittenObject) → ((k : ℕ) (w : WrittenObject) → slice_get objects k ≡ Some w → w.members ≡ members_of_object (o + k) ws)
    → in_objects o (length objects) ws ≡ sum_by (λ (w : WrittenObject). count_aliases w.members) objects
in_all ws o [] h = refl
in_all ws o (w ∷ objects) h =
    ap (λ k. count_aliases (members_of_object k ws) + in_objects (suc o) (length objects) ws) (no_more o) ∙
    ap (λ ms. count_aliases ms + in_objects (suc o) (length objects) ws) (sym (h 0 w refl)) ∙
    ap (λ n. count_aliases w.members + n) (in_all ws (suc o) objects (λ k x e. h (suc k) x e ∙ ap (λ j. members_of_object j ws) (sym (one_on o k)))) ∙
    sym (sum_by-cons (λ (x : WrittenObject). count_aliases x.members) w objects)
  where
    no_more : (o : ℕ) → o ≡ o + 0
    no_more o = omega arith

    one_on : (o k : ℕ) → suc o + k ≡ o + suc k
    one_on o k = omega arith

-- ---- of documents

object_there : (p : Program) (u o : ℕ) (w : WrittenObject) → slice_get (unit_at p u).objects o ≡ Some w → (object_at p u o).members ≡ w.members
object_there p u o w e = ap (λ x. (unwrap_or x no_object).members) e

pub few_in_unit : (p : Program) (u : ℕ) (t : Table) (rows : List UnitRow) (own : List (Option Alias)) → RowsSay p u t [] rows (unit_at p u).rows → map said own ≡ aliases_told [] rows
    → ((o : ℕ) → (object_at p u o).members ≡ members_of_object o (unit_at p u).rows)
    → ((k : ℕ) (w : OwnedMember) → slice_get (unit_at p u).rows k ≡ Some w → w.object < length (unit_at p u).objects) → count_in own ≤ aliases_of_unit (unit_at p u)
few_in_unit p u t rows own says told members range =
    subst (λ n. n ≤ aliases_of_unit (unit_at p u)) (sym (count_said own ∙ ap told_count told ∙ count_rows p u t [] [] rows (unit_at p u).rows says refl))
    (subst (λ n. written (unit_at p u).rows ≤ n)
    (in_all (unit_at p u).rows 0 (unit_at p u).objects (λ k w e. sym (object_there p u k w e) ∙ members k ∙ ap (λ j. members_of_object j (unit_at p u).rows) (from_none k)))
    (at_most (length (unit_at p u).objects) (unit_at p u).rows range))
  where
    from_none : (k : ℕ) → k ≡ 0 + k
    from_none k = omega arith

pub few_in_all : (aliases : List UnitAliases) (p : List AUnit) → length aliases ≡ length p
    → ((u : ℕ) (a : UnitAliases) (v : AUnit) → slice_get aliases u ≡ Some a → slice_get p u ≡ Some v → count_in a.rows.items ≤ aliases_of_unit v)
    → count_of aliases ≤ sum_by aliases_of_unit p
few_in_all [] [] l h = omega arith
few_in_all [] (v ∷ p) l h = absurd (omega arith)
few_in_all (a ∷ aliases) [] l h = absurd (omega arith)
few_in_all (a ∷ aliases) (v ∷ p) l h =
    let same : length aliases ≡ length p = omega arith in
    subst (λ n. count_in a.rows.items + count_of aliases ≤ n) (sym (sum_by-cons aliases_of_unit v p))
    (both (count_in a.rows.items) (count_of aliases) (aliases_of_unit v) (sum_by aliases_of_unit p) (h 0 a v refl refl) (few_in_all aliases p same (λ u x y i j. h (suc u) x y i j)))
  where
    both : (a b c d : ℕ) → a ≤ c → b ≤ d → a + b ≤ c + d
    both a b c d h g = omega arith

unit_there : (p : Program) (u : ℕ) (v : AUnit) → slice_get p u ≡ Some v → unit_at p u ≡ v
unit_there p u v e = ap (λ x. unwrap_or x no_unit) e

kept_at : (aliases : List UnitAliases) (u : ℕ) (a b : UnitAliases) → slice_get aliases u ≡ Some a → slice_get aliases u ≡ Some b → b.rows.items ≡ a.rows.items
kept_at aliases u a b i j = ap (λ x. rows_in x) (sym j ∙ i)
  where
    rows_in : Option UnitAliases → List (Option Alias)
    rows_in None = []
    rows_in (Some x) = x.rows.items

names_there : (us : List UnitNames) (u : ℕ) → u < length us → (unit : UnitNames) × (slice_get us u ≡ Some unit)
names_there [] u h = absurd (omega arith)
names_there (x ∷ us) zero h = (x, refl)
names_there (x ∷ us) (suc u) h = let less : u < length us = omega arith in names_there us u less

in_list : {A : Type 0} (xs : List A) (k : ℕ) (x : A) → slice_get xs k ≡ Some x → k < length xs
in_list [] k x e = absurd (false≢true (ap is_some e))
in_list (y ∷ xs) zero x e = omega arith
in_list (y ∷ xs) (suc k) x e = let less : k < length xs = in_list xs k x e in omega arith

pub few_aliases : (p : Program) (us : List UnitNames) (aliases : List UnitAliases) → length us ≡ length p → length aliases ≡ length p
    → ((u : ℕ) (unit : UnitNames) → slice_get us u ≡ Some unit → SaysUnit p aliases u unit)
    → ((u k : ℕ) (w : OwnedMember) → slice_get (unit_at p u).rows k ≡ Some w → w.object < length (unit_at p u).objects) → count_of aliases ≤ sum_by aliases_of_unit p
few_aliases p us aliases l n says range = few_in_all aliases p n one_unit
  where
    one_unit : (u : ℕ) (a : UnitAliases) (v : AUnit) → slice_get aliases u ≡ Some a → slice_get p u ≡ Some v → count_in a.rows.items ≤ aliases_of_unit v
    one_unit u a v i j =
        let there = names_there us u (subst (λ k. u < k) (sym l) (in_list p u v j)) in
        let s = says u there.0 there.1 in
        subst (λ x. count_in a.rows.items ≤ aliases_of_unit x) (unit_there p u v j)
        (few_in_unit p u s.says.tree s.says.rows a.rows.items s.says.says (ap (map said) (sym (kept_at aliases u a s.own i s.kept)) ∙ s.told) s.says.members (range u))
