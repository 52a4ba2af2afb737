-- Names, aliases and ids that are made from the rows of documents tell the program's.
use Rattle.std.proofs.Common.{◌≡◌, ◌∙◌, ap, sym, refl, subst, ℕ, zero, suc, ◌+◌, ◌<◌, arith, Bool, true, false, List, [], ◌∷◌, ◌++◌, length, map, Option, Some, None, is_some}
use Rattle.std.specs.Prelude.{◌||◌, ◌&&◌, nat_eq, if◌then◌else◌, slice_get}
use Rattle.std.specs.Option.{option_map, option_or, option_and_then, unwrap_or}
use Rattle.std.specs.List.{filter}
use Rattle.std.specs.Str.{bytes_eq}
use Rattle.std.proofs.lemmas.Bool.{false≢true}
use Rattle.std.proofs.lemmas.List.{map-append}
use Rattle.qml_syntax.specs.Tree.{Units}
use Rattle.qml_syntax.specs.Nodes.{Table}
use Rattle.name_table.specs.Named.{under}
use Rattle.qml_types.specs.declared.kind.PropKind.{PropKind}
use Rattle.qml_types.specs.declared.kind.TypeRef.{TypeRef}
use Rattle.program_names.specs.Names.{changed}
use Rattle.program_names.specs.Layers.{access_of}
use Rattle.program_names.specs.Written.{WrittenMember, an_id, OwnedMember}
use Rattle.program_names.specs.Loaded.{Program, unit_at}
use Rattle.program_names.specs.Components.{Roots, root_of, is_known, Id, id_in}
use Rattle.document_rows.specs.WholePaths.{path_at}
use Rattle.document_members.specs.declared.member.Member.{Member}
use Rattle.document_members.specs.declared.member.Member.TheVariants as m
use Rattle.document_members.specs.declared.member.NamePath.{NamePath}
use Rattle.document_members.specs.Members.{written_in, added_by}
use Rattle.program_tables.specs.declared.names.Declared.{Declared}
use Rattle.program_tables.specs.declared.names.Declared.TheVariants as d
use Rattle.program_tables.specs.declared.names.ObjectNames.{ObjectNames}
use Rattle.program_tables.specs.declared.names.UnitNames.{UnitNames}
use Rattle.program_tables.specs.declared.building.UnitRow.{UnitRow}
use Rattle.program_tables.specs.Building.{nothing_declared, with_name, declared, is_group, is_inside, changed_at, row_added, rows_added}
use Rattle.program_tables.specs.RowsSay.{RowsSay}
use Rattle.program_tables.specs.Stands.{is_there, target_in}
use Rattle.program_tables.specs.Walk.{object_in}
use Rattle.program_tables.proofs.NameLemmas.{under_put}
use Rattle.program_tables.proofs.GroupLemmas.{is_filled, inside_alike, filled_by}
use Rattle.alias_tables.specs.Roots.{root_at}
use Rattle.alias_tables.specs.Ids.{id_found}
use Rattle.alias_tables.proofs.IdLemmas.{ids_as_meant}
use Rattle.path_ends.specs.declared.aliases.Alias.{Alias}
use Rattle.path_ends.specs.declared.aliases.UnitAliases.{UnitAliases}
use Rattle.path_ends.specs.declared.aliases.UnitIds.{UnitIds}
use Rattle.path_ends.specs.Said.{joined, target_of, id_seen, SaidAlias, told, said, target_given, told_by, aliases_told}
use Rattle.path_ends.specs.Known.{SaysAlias, AliasesTold, IdsTold, SaysUnit, SaysIds}

none_some : {A : Type 0} {X : Type 0} (x : A) → Path (Option A) None (Some x) → X
none_some x e = absurd (false≢true (ap is_some e))

-- ---- the alias of a row, of all that are told

pub record IsTold (all : List (Option SaidAlias)) (o row : ℕ) : Type 0 where
  pub what : SaidAlias
  pub there : slice_get all row ≡ Some (Some what)
  pub object : what.object ≡ o

abbrev Only : List (Option SaidAlias) → ℕ → ObjectNames → Type 0
Only all o x = (name : Units) (row : ℕ) → under x.names name ≡ Some (d.Alias row) → IsTold all o row

abbrev AllOnly : List (Option SaidAlias) → List ObjectNames → Type 0
AllOnly all xs = (o : ℕ) (x : ObjectNames) → slice_get xs o ≡ Some x → Only all o x

abbrev row_of : Option Declared → ℕ
row_of (Some (d.Alias row)) = row
row_of _ = 0

abbrev is_alias : Option Declared → Bool
is_alias (Some (d.Alias row)) = true
is_alias _ = false

-- one name more
put_only : (all : List (Option SaidAlias)) (o : ℕ) (x : ObjectNames) (n : Units) (y : Declared) → Only all o x → ((row : ℕ) → y ≡ d.Alias row → IsTold all o row) → Only all o (with_name n y x)
put_only all o x n y h g name row i = cases (under x.names name) refl (bytes_eq name n) (sym (under_put x.names n y name) ∙ i)
  where
    cases : (v : Option Declared) → under x.names name ≡ v → (b : Bool) → option_or v (if b then Some y else None) ≡ Some (d.Alias row) → IsTold all o row
    cases (Some v) j b k = h name row (j ∙ k)
    cases None j true k = g row (ap (λ v. unwrap_or v y) k)
    cases None j false k = none_some (d.Alias row) k

no_alias : {X : Type 0} (y : Declared) (row : ℕ) → is_alias (Some y) ≡ false → y ≡ d.Alias row → X
no_alias y row i e = absurd (false≢true (sym i ∙ ap (λ v. is_alias (Some v)) e))

-- what a row declares outside groups
declared_only : (all : List (Option SaidAlias)) (o i : ℕ) (kind : PropKind) (y : Member) (x : ObjectNames) → Only all o x
    → ((target : NamePath) → target_given false y ≡ Some target → IsTold all o i) → Only all o (declared i kind y x)
declared_only all o i kind (m.Property q a k n at v) x h g =
    put_only all o (with_name n (d.Cell x.cells kind (access_of a)) x) (changed n) d.Changed
    (put_only all o x n (d.Cell x.cells kind (access_of a)) h (λ row e. no_alias (d.Cell x.cells kind (access_of a)) row refl e)) (λ row e. no_alias d.Changed row refl e)
declared_only all o i kind (m.Alias q c n at target) x h g =
    put_only all o x n (d.Alias i) h (λ row e. subst (IsTold all o) (ap (λ v. row_of (Some v)) e) (g target refl))
declared_only all o i kind (m.Signal q n at names) x h g = put_only all o x n (d.Signal i) h (λ row e. no_alias (d.Signal i) row refl e)
declared_only all o i kind (m.Method q f n at) x h g = put_only all o x n (d.Function i) h (λ row e. no_alias (d.Function i) row refl e)
declared_only all o i kind (m.Id w n at) x h g = h
declared_only all o i kind (m.Given path value) x h g = h
declared_only all o i kind (m.Group path) x h g = h
declared_only all o i kind (m.Child c) x h g = h

changed_only : (all : List (Option SaidAlias)) (n : ℕ) (xs : List ObjectNames) (k : ℕ) (f : ObjectNames → ObjectNames) → ((o : ℕ) (x : ObjectNames) → slice_get xs o ≡ Some x → Only all (n + o) x)
    → ((x : ObjectNames) → Only all (n + k) x → Only all (n + k) (f x)) → (o : ℕ) (x : ObjectNames) → slice_get (changed_at xs k f) o ≡ Some x → Only all (n + o) x
changed_only all n [] k f h g o x i = h o x i
changed_only all n (y ∷ xs) zero f h g zero x i = subst (Only all (n + 0)) (ap (λ v. unwrap_or v x) i) (g y (h 0 y refl))
changed_only all n (y ∷ xs) zero f h g (suc o) x i = h (suc o) x i
changed_only all n (y ∷ xs) (suc k) f h g zero x i = h 0 x i
changed_only all n (y ∷ xs) (suc k) f h g (suc o) x i =
    subst (λ j. Only all j x) (one_on n o)
    (changed_only all (suc n) xs k f (λ o x j. subst (λ e. Only all e x) (sym (one_on n o)) (h (suc o) x j))
    (λ x j. subst (λ e. Only all e (f x)) (sym (one_on n k)) (g x (subst (λ e. Only all e x) (one_on n k) j))) o x i)
  where
    one_on : (n o : ℕ) → suc n + o ≡ n + suc o
    one_on n o = omega arith

from_none : (k : ℕ) → 0 + k ≡ k
from_none k = omega arith

row_only : (all : List (Option SaidAlias)) (inside : Bool) (i : ℕ) (r : UnitRow) (xs : List ObjectNames) → AllOnly all xs → slice_get all i ≡ Some (told_by inside r) → AllOnly all (row_added inside i r xs)
row_only all true i r xs h t o x j = h o x j
row_only all false i r xs h t o x j =
    subst (λ e. Only all e x) (from_none o)
    (changed_only all 0 xs r.row.object (declared i r.kind r.member) (λ o x j. subst (λ e. Only all e x) (sym (from_none o)) (h o x j))
    (λ x k. subst (λ e. Only all e (declared i r.kind r.member x)) (sym (from_none r.row.object))
    (declared_only all r.row.object i r.kind r.member x (subst (λ e. Only all e x) (from_none r.row.object) k)
    (λ target g. record { what = told r.row.object target; there = t ∙ ap (λ v. Some (option_map (told r.row.object) v)) g; object = refl }))) o x j)

rows_only : (all : List (Option SaidAlias)) (i : ℕ) (grouping : List Bool) (rows : List UnitRow) (xs : List ObjectNames) → AllOnly all xs
    → ((k : ℕ) → slice_get all (i + k) ≡ slice_get (aliases_told grouping rows) k) → AllOnly all (rows_added i grouping rows xs)
rows_only all i grouping [] xs h t = h
rows_only all i grouping (r ∷ rest) xs h t =
    rows_only all (suc i) (grouping ++ (is_inside grouping r.row.group || is_group r.member) ∷ []) rest (row_added (is_inside grouping r.row.group) i r xs)
    (row_only all (is_inside grouping r.row.group) i r xs h (ap (slice_get all) (no_more i) ∙ t 0))
    (λ k. ap (slice_get all) (one_on i k) ∙ t (suc k))
  where
    no_more : (i : ℕ) → i ≡ i + 0
    no_more i = omega arith

    one_on : (i k : ℕ) → suc i + k ≡ i + suc k
    one_on i k = omega arith

names_of_nothing : (bases : List TypeRef) (o : ℕ) (x : ObjectNames) → slice_get (map nothing_declared bases) o ≡ Some x → x.names ≡ []
names_of_nothing [] o x i = none_some x i
names_of_nothing (t ∷ bases) zero x i = sym (ap (λ (v : Option ObjectNames). (unwrap_or v x).names) i)
names_of_nothing (t ∷ bases) (suc o) x i = names_of_nothing bases o x i

nothing_only : (all : List (Option SaidAlias)) (bases : List TypeRef) → AllOnly all (map nothing_declared bases)
nothing_only all bases o x i name row j = none_some (d.Alias row) (sym (ap (λ ns. under ns name) (names_of_nothing bases o x i)) ∙ j)

-- ---- the member of a row that tells an alias

abbrev target_said : Option SaidAlias → List Units
target_said None = []
target_said (Some s) = s.target

by_member : (o : ℕ) (t : Table) (before : List Units) (first : ℕ) (x : Member) (s : SaidAlias) → option_map (told o) (target_given (is_filled before) x) ≡ Some s
    → s.target ≡ target_in (Some (written_in t before first x))
by_member o t [] first (m.Alias q b n at target) s i = sym (ap target_said i)
by_member o t (n ∷ ns) first (m.Alias q b name at target) s i = none_some s i
by_member o t [] first (m.Id w n at) s i = none_some s i
by_member o t (n ∷ ns) first (m.Id w name at) s i = none_some s i
by_member o t [] first _ s i = none_some s i
by_member o t (n ∷ ns) first _ s i = none_some s i

target_told : (p : Program) (u : ℕ) (t : Table) (grouping : List Bool) (paths : List (List Units)) (rows : List UnitRow) (ws : List OwnedMember) → RowsSay p u t paths rows ws → grouping ≡ map is_filled paths
    → (row : ℕ) (s : SaidAlias) → slice_get (aliases_told grouping rows) row ≡ Some (Some s) → s.target ≡ target_in (option_map (λ (w : OwnedMember). w.member) (slice_get ws row))
target_told p u t grouping paths [] ws h e row s i = none_some (Some s) i
target_told p u t grouping paths (r ∷ rs) [] h e row s i = absurd h
target_told p u t grouping paths (r ∷ rs) (w ∷ ws) h e zero s i =
    let before = path_at paths r.row.group in
    let inside : is_inside grouping r.row.group ≡ is_filled before = ap (λ g. is_inside g r.row.group) e ∙ inside_alike paths r.row.group in
    by_member r.row.object t before r.row.first r.member s (ap (λ b. told_by b r) (sym inside) ∙ ap (λ v. unwrap_or v None) i) ∙ ap (λ x. target_in (Some x)) h.0.member
target_told p u t grouping paths (r ∷ rs) (w ∷ ws) h e (suc row) s i =
    let before = path_at paths r.row.group in
    let inside : is_inside grouping r.row.group ≡ is_filled before = ap (λ g. is_inside g r.row.group) e ∙ inside_alike paths r.row.group in
    target_told p u t (grouping ++ (is_inside grouping r.row.group || is_group r.member) ∷ []) (paths ++ (before ++ added_by r.member) ∷ []) rs ws h.1
    (ap (λ g. g ++ (is_inside grouping r.row.group || is_group r.member) ∷ []) e ∙
    ap (λ b. map is_filled paths ++ b ∷ []) (ap (λ b. b || is_group r.member) inside ∙ sym (filled_by before r.member)) ∙
    sym (map-append is_filled paths ((before ++ added_by r.member) ∷ [])))
    row s i

-- ---- all documents

of_its_unit : (us : List UnitNames) (u o : ℕ) (x : ObjectNames) → object_in us u o ≡ Some x → (unit : UnitNames) × (slice_get us u ≡ Some unit) × (slice_get unit.objects.items o ≡ Some x)
of_its_unit us u o x e = cases (slice_get us u) refl e
  where
    cases : (y : Option UnitNames) → slice_get us u ≡ y → option_and_then (λ (unit : UnitNames). slice_get unit.objects.items o) y ≡ Some x
        → (unit : UnitNames) × (slice_get us u ≡ Some unit) × (slice_get unit.objects.items o ≡ Some x)
    cases None h g = none_some x g
    cases (Some unit) h g = (unit, h, g)

kept_alias : (own : List (Option Alias)) (row : ℕ) (s : SaidAlias) → slice_get (map said own) row ≡ Some (Some s)
    → (a : Alias) × (joined (slice_get own row) ≡ Some a) × (a.object ≡ s.object) × (target_of a ≡ s.target)
kept_alias [] row s i = none_some (Some s) i
kept_alias (None ∷ own) zero s i = none_some s (ap (λ v. unwrap_or v None) i)
kept_alias (Some a ∷ own) zero s i = (a, refl, ap (λ v. object_of (unwrap_or v None)) i, ap (λ v. target_said (unwrap_or v None)) i)
  where
    object_of : Option SaidAlias → ℕ
    object_of None = 0
    object_of (Some s) = s.object
kept_alias (a ∷ own) (suc row) s i = kept_alias own row s i

one_alias : (p : Program) (aliases : List UnitAliases) (u o row : ℕ) (unit : UnitNames) (x : ObjectNames) (name : Units) → SaysUnit p aliases u unit → slice_get unit.objects.items o ≡ Some x
    → under x.names name ≡ Some (d.Alias row) → SaysAlias p aliases u o row
one_alias p aliases u o row unit x name s i j =
    let all = aliases_told [] s.says.rows in
    let found : IsTold all o row =
    rows_only all 0 [] s.says.rows (map nothing_declared s.says.bases) (nothing_only all s.says.bases) (λ k. ap (slice_get all) (from_none k)) o x
    (ap (λ xs. slice_get xs o) (sym s.says.built) ∙ i) name row j in
    let kept = kept_alias s.own.rows.items row found.what (ap (λ xs. slice_get xs row) s.told ∙ found.there) in
    record {
      alias = kept.0;
      kept = ap (λ v. option_and_then (λ (w : UnitAliases). joined (slice_get w.rows.items row)) v) s.kept ∙ kept.1;
      object = kept.2 ∙ found.object;
      target = kept.3 ∙ target_told p u s.says.tree [] [] s.says.rows (unit_at p u).rows s.says.says refl row found.what found.there;
    }

pub aliases_told_all : (p : Program) (us : List UnitNames) (aliases : List UnitAliases) → ((u : ℕ) (unit : UnitNames) → slice_get us u ≡ Some unit → SaysUnit p aliases u unit) → AliasesTold p us aliases
aliases_told_all p us aliases says u o x name row i j =
    let y = of_its_unit us u o x i in one_alias p aliases u o row y.0 x name (says u y.0 y.1) y.2 j

-- ---- ids

abbrev first_of : List Id → Units → Option ℕ
first_of [] name = None
first_of (i ∷ rest) name = if bytes_eq i.name name then Some i.object else first_of rest name

abbrev with_id : ℕ → WrittenMember → List Id → List Id
with_id o (an_id word name at) rest = record { word = word; name = name; at = at; object = o } ∷ rest
with_id o w rest = rest

abbrev ids_of_rows : List OwnedMember → List Id
ids_of_rows [] = []
ids_of_rows (r ∷ rest) = with_id r.object r.member (ids_of_rows rest)

abbrev stands_in : Program → Roots → ℕ → ℕ → Id → Bool
stands_in p roots d root i = is_known p roots d i.object && nat_eq (root_of p roots d i.object) root

abbrev first_among : Program → Roots → ℕ → ℕ → Units → List Id → Option ℕ
first_among p roots d root name ids = first_of (filter (stands_in p roots d root) ids) name

in_program : (p : Program) (roots : Roots) (d root : ℕ) (name : Units) → first_among p roots d root name (ids_of_rows (unit_at p d).rows) ≡ id_in p roots d root name
in_program p roots d root name = refl

one_held : (P : ℕ → Type 0) (p : Program) (roots : Roots) (d root : ℕ) (name : Units) (w : OwnedMember) (ws : List OwnedMember) (t : ℕ) → P w.object
    → (first_among p roots d root name (ids_of_rows ws) ≡ Some t → P t) → (x : WrittenMember) → first_among p roots d root name (with_id w.object x (ids_of_rows ws)) ≡ Some t → P t
one_held P p roots d root name w ws t h rest (an_id word n at) j = by_stand (is_known p roots d w.object && nat_eq (root_of p roots d w.object) root) j
  where
    by_name : (c : Bool) → (if c then Some w.object else first_among p roots d root name (ids_of_rows ws)) ≡ Some t → P t
    by_name true j = subst P (ap (λ v. unwrap_or v 0) j) h
    by_name false j = rest j

    by_stand : (c : Bool)
        → first_of (if c then record { word = word; name = n; at = at; object = w.object } ∷ filter (stands_in p roots d root) (ids_of_rows ws) else filter (stands_in p roots d root) (ids_of_rows ws)) name ≡ Some t → P t
    by_stand true j = by_name (bytes_eq n name) j
    by_stand false j = rest j
one_held P p roots d root name w ws t h rest _ j = rest j

-- the object that is found is one of which something holds that holds of all
first_holds : (P : ℕ → Type 0) (p : Program) (roots : Roots) (d root : ℕ) (name : Units) (ws : List OwnedMember) → ((k : ℕ) (w : OwnedMember) → slice_get ws k ≡ Some w → P w.object)
    → (t : ℕ) → first_among p roots d root name (ids_of_rows ws) ≡ Some t → P t
first_holds P p roots d root name [] h t i = none_some t i
first_holds P p roots d root name (w ∷ ws) h t i =
    one_held P p roots d root name w ws t (h 0 w refl) (λ j. first_holds P p roots d root name ws (λ k x e. h (suc k) x e) t j) w.member i

in_range : (us : List UnitNames) (u o : ℕ) → is_there us u o ≡ true → (unit : UnitNames) × (slice_get us u ≡ Some unit) × (o < length unit.objects.items)
in_range us u o i = by_unit (slice_get us u) refl i
  where
    some_less : {A : Type 0} (xs : List A) (o : ℕ) → is_some (slice_get xs o) ≡ true → o < length xs
    some_less [] o i = absurd (false≢true i)
    some_less (x ∷ xs) zero i = omega arith
    some_less (x ∷ xs) (suc o) i = let less : o < length xs = some_less xs o i in omega arith

    by_unit : (x : Option UnitNames) → slice_get us u ≡ x → is_some (option_and_then (λ (unit : UnitNames). slice_get unit.objects.items o) x) ≡ true
        → (unit : UnitNames) × (slice_get us u ≡ Some unit) × (o < length unit.objects.items)
    by_unit None e i = absurd (false≢true i)
    by_unit (Some unit) e i = (unit, e, some_less unit.objects.items o i)

one_id : (p : Program) (roots : Roots) (us : List UnitNames) (ids : List UnitIds) (u o : ℕ) (unit : UnitNames) (name : Units) → SaysIds p roots us ids u unit → o < length unit.objects.items
    → id_seen ids u o name ≡ id_in p roots u (root_of p roots u o) name
one_id p roots us ids u o unit name s h =
    let range : o < length s.own.roots.items = subst (λ n. o < n) (sym s.long) h in
    ap (λ v. option_and_then (λ (w : UnitIds). id_found w.ids.items (root_at w.roots.items o) name) v) s.kept ∙
    ap (λ tables. id_found tables (root_at s.own.roots.items o) name) s.made ∙
    ids_as_meant p roots u s.tree s.rows s.own.roots.items s.says s.knows (root_at s.own.roots.items o) (s.told_roots o range).1 name ∙
    ap (λ r. id_in p roots u r name) (s.told_roots o range).0

pub ids_told_all : (p : Program) (roots : Roots) (us : List UnitNames) (ids : List UnitIds) → ((u : ℕ) (unit : UnitNames) → slice_get us u ≡ Some unit → SaysIds p roots us ids u unit) → IdsTold p roots us ids
ids_told_all p roots us ids says u o name i =
    let y = in_range us u o i in
    let s = says u y.0 y.1 in
    let same = one_id p roots us ids u o y.0 name s y.2 in
    (same, λ t j. first_holds (λ k. is_there us u k ≡ true) p roots u (root_of p roots u o) name (unit_at p u).rows s.there t (sym same ∙ j))
