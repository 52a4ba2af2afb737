-- Ids of components, row after row, are those of the program.
use Rattle.std.proofs.Common.{◌≡◌, ◌∙◌, ap, sym, refl, subst, ℕ, zero, suc, ◌+◌, ◌<◌, ◌≤◌, arith, Bool, true, false, List, [], ◌∷◌, ◌++◌, length, map, get_or, set, take, drop, add-one, drop-cons, Option, Some, None}
use Rattle.std.specs.Prelude.{◌||◌, ◌&&◌, nat_eq, if◌then◌else◌, slice_get}
use Rattle.std.specs.Option.{option_or}
use Rattle.std.specs.List.{filter}
use Rattle.std.specs.Str.{bytes_eq}
use Rattle.std.proofs.lemmas.Bool.Decides.{nat_tests}
use Rattle.std.proofs.lemmas.List.{map-append}
use Rattle.qml_syntax.specs.Tree.{Units}
use Rattle.qml_syntax.specs.Nodes.{Table}
use Rattle.name_table.specs.Named.{under, put}
use Rattle.program_names.specs.Written.{OwnedMember}
use Rattle.program_names.specs.Loaded.{Program, unit_at}
use Rattle.program_names.specs.Components.{Roots, root_of, is_known, Id, id_in, with_id, ids_of_rows, stands_in, first_id}
use Rattle.document_rows.specs.WholePaths.{path_at}
use Rattle.document_members.specs.declared.member.Member.{Member}
use Rattle.document_members.specs.declared.member.Member.TheVariants as m
use Rattle.document_members.specs.Members.{written_in, added_by}
use Rattle.program_tables.specs.declared.building.UnitRow.{UnitRow}
use Rattle.program_tables.specs.Building.{is_group, is_inside}
use Rattle.program_tables.specs.RowsSay.{RowsSay}
use Rattle.program_tables.proofs.NameLemmas.{under_put, or_assoc, eq_either_way}
use Rattle.program_tables.proofs.GroupLemmas.{is_filled, inside_alike, filled_by}
use Rattle.alias_tables.specs.Roots.{root_at}
use Rattle.alias_tables.specs.Ids.{Ids, no_ids, id_given, id_put, id_added, ids_added, id_found, KnowsRoots}

-- ---- the loops

pub put_here : (tables : List Ids) (component : ℕ) (d x : Ids) (name : Units) (object : ℕ) → component < length tables → x ≡ put (get_or tables component d) name object → set tables component x ≡ id_put tables component name object
put_here [] component d x name object h e = absurd (omega arith)
put_here (y ∷ tables) zero d x name object h e = ap (λ z. z ∷ tables) e
put_here (y ∷ tables) (suc component) d x name object h e =
    let less : component < length tables = omega arith in ap (λ zs. y ∷ zs) (put_here tables component d x name object less e)

pub put_nowhere : (tables : List Ids) (component : ℕ) (name : Units) (object : ℕ) → length tables ≤ component → tables ≡ id_put tables component name object
put_nowhere [] component name object h = refl
put_nowhere (y ∷ tables) zero name object h = absurd (omega arith)
put_nowhere (y ∷ tables) (suc component) name object h =
    let less : length tables ≤ component = omega arith in ap (λ zs. y ∷ zs) (put_nowhere tables component name object less)

pub rows_go_on : (roots : List ℕ) (rows : List UnitRow) (i : ℕ) (d : UnitRow) (grouping after : List Bool) (xs ys all : List Ids) (inside group : Bool) → i < length rows
    → inside ≡ is_inside grouping (get_or rows i d).row.group → group ≡ is_group (get_or rows i d).member → after ≡ grouping ++ (inside || group) ∷ []
    → ys ≡ id_added roots inside (get_or rows i d) xs → ids_added roots grouping (drop i rows) xs ≡ all → ids_added roots after (drop (i + 1) rows) ys ≡ all
rows_go_on roots rows i d grouping after xs ys all inside group h e g a y l =
    ap (λ k. ids_added roots after (drop k rows) ys) (add-one i) ∙
    ap (λ zs. ids_added roots after (drop (suc i) rows) zs) y ∙
    ap (λ bs. ids_added roots bs (drop (suc i) rows) (id_added roots inside (get_or rows i d) xs)) (a ∙ ap (λ b. grouping ++ (inside || b) ∷ []) g) ∙
    ap (λ b. ids_added roots (grouping ++ (b || is_group (get_or rows i d).member) ∷ []) (drop (suc i) rows) (id_added roots b (get_or rows i d) xs)) e ∙
    ap (λ rs. ids_added roots grouping rs xs) (sym (drop-cons rows i d h)) ∙ l

taken : (roots : List ℕ) (i : ℕ) → i < length roots → map no_ids (take (suc i) roots) ≡ map no_ids (take i roots) ++ [] ∷ []
taken [] i h = absurd (omega arith)
taken (r ∷ roots) zero h = refl
taken (r ∷ roots) (suc i) h = let less : i < length roots = omega arith in ap (λ ts. [] ∷ ts) (taken roots i less)

pub one_more_table : (roots : List ℕ) (i : ℕ) (tables after : List Ids) → i < length roots → tables ≡ map no_ids (take i roots) → after ≡ tables ++ [] ∷ [] → after ≡ map no_ids (take (i + 1) roots)
one_more_table roots i tables after h t a =
    a ∙ ap (λ ts. ts ++ [] ∷ []) t ∙ sym (taken roots i h) ∙ ap (λ k. map no_ids (take k roots)) (sym (add-one i))

-- ---- one component

abbrev first_among : Program → Roots → ℕ → ℕ → Units → List Id → Option ℕ
first_among p roots d root name ids = first_id (filter (stands_in p roots d root) ids) name

in_program : (p : Program) (roots : Roots) (d root : ℕ) (name : Units) → first_among p roots d root name (ids_of_rows (unit_at p d).rows) ≡ id_in p roots d root name
in_program p roots d root name = refl

put_there : (tables : List Ids) (k : ℕ) (n : Units) (o c : ℕ) (name : Units) → c < length tables
    → id_found (id_put tables k n o) c name ≡ option_or (id_found tables c name) (if nat_eq k c && bytes_eq n name then Some o else None)
put_there [] k n o c name h = absurd (omega arith)
put_there (t ∷ ts) zero n o zero name h = under_put t n o name ∙ ap (λ b. option_or (under t name) (if b then Some o else None)) (eq_either_way name n)
put_there (t ∷ ts) zero n o (suc c) name h =
    or_none (id_found ts c name) ∙ ap (λ b. option_or (id_found ts c name) (if b && bytes_eq n name then Some o else None)) (let e : false ≡ nat_eq 0 (suc c) = grind (arith, nat_tests) in e)
  where
    or_none : (x : Option ℕ) → x ≡ option_or x None
    or_none None = refl
    or_none (Some x) = refl
put_there (t ∷ ts) (suc k) n o zero name h =
    or_none (under t name) ∙ ap (λ b. option_or (under t name) (if b && bytes_eq n name then Some o else None)) (let e : false ≡ nat_eq (suc k) 0 = grind (arith, nat_tests) in e)
  where
    or_none : (x : Option ℕ) → x ≡ option_or x None
    or_none None = refl
    or_none (Some x) = refl
put_there (t ∷ ts) (suc k) n o (suc c) name h =
    let less : c < length ts = omega arith in
    put_there ts k n o c name less ∙ ap (λ b. option_or (id_found ts c name) (if b && bytes_eq n name then Some o else None)) (let e : nat_eq k c ≡ nat_eq (suc k) (suc c) = grind (arith, nat_tests) in e)

put_long : (tables : List Ids) (k : ℕ) (n : Units) (o : ℕ) → length (id_put tables k n o) ≡ length tables
put_long [] k n o = refl
put_long (t ∷ ts) zero n o = refl
put_long (t ∷ ts) (suc k) n o = ap suc (put_long ts k n o)

abbrev put_if : List Ids → ℕ → ℕ → Option Units → List Ids
put_if tables component object None = tables
put_if tables component object (Some name) = id_put tables component name object

added_long : (tables : List Ids) (k o : ℕ) (n : Option Units) → length (put_if tables k o n) ≡ length tables
added_long tables k o None = refl
added_long tables k o (Some n) = put_long tables k n o

-- ---- one row

abbrev one_id : Bool → ℕ → ℕ → ℕ → Option Units → Units → Option ℕ
one_id known root c o None name = None
one_id known root c o (Some n) name = if (known && nat_eq root c) && bytes_eq n name then Some o else None

-- the first of the ids, where a member gives one or none
by_given : (p : Program) (roots : Roots) (d c o : ℕ) (t : Table) (before : List Units) (first : ℕ) (x : Member) (name : Units) (rest : List Id)
    → first_among p roots d c name (with_id o (written_in t before first x) rest) ≡
    option_or (one_id (is_known p roots d o) (root_of p roots d o) c o (id_given (is_filled before) x) name) (first_among p roots d c name rest)
by_given p roots d c o t [] first (m.Id w n at) name rest = chosen (is_known p roots d o && nat_eq (root_of p roots d o) c) (bytes_eq n name) refl
  where
    chosen : (s b : Bool) → bytes_eq n name ≡ b
        → first_id (if s then record { word = w; name = n; at = at; object = o } ∷ filter (stands_in p roots d c) rest else filter (stands_in p roots d c) rest) name ≡
        option_or (if s && b then Some o else None) (first_among p roots d c name rest)
    chosen false b e = refl
    chosen true true e = ap (λ k. if k then Some o else first_among p roots d c name rest) e
    chosen true false e = ap (λ k. if k then Some o else first_among p roots d c name rest) e
by_given p roots d c o t (b ∷ bs) first (m.Id w n at) name rest = refl
by_given p roots d c o t [] first _ name rest = refl
by_given p roots d c o t (b ∷ bs) first _ name rest = refl

given_there : (tables : List Ids) (k o c : ℕ) (n : Option Units) (name : Units) → c < length tables
    → id_found (put_if tables k o n) c name ≡ option_or (id_found tables c name) (one_id true k c o n name)
given_there tables k o c None name h = or_none (id_found tables c name)
  where
    or_none : (x : Option ℕ) → x ≡ option_or x None
    or_none None = refl
    or_none (Some x) = refl
given_there tables k o c (Some n) name h = put_there tables k n o c name h

abbrev Knows : Program → Roots → ℕ → List ℕ → List OwnedMember → Type 0
Knows p roots d numbers ws = (k : ℕ) (w : OwnedMember) → slice_get ws k ≡ Some w → (root_at numbers w.object ≡ root_of p roots d w.object) × (is_known p roots d w.object ≡ true)

or_end : (x : Option ℕ) → x ≡ option_or x None
or_end None = refl
or_end (Some x) = refl

all_rows : (p : Program) (roots : Roots) (d c : ℕ) (name : Units) (t : Table) (numbers : List ℕ) (grouping : List Bool) (paths : List (List Units)) (rows : List UnitRow) (ws : List OwnedMember) (tables : List Ids)
    → RowsSay p d t paths rows ws → grouping ≡ map is_filled paths → Knows p roots d numbers ws → c < length tables
    → id_found (ids_added numbers grouping rows tables) c name ≡ option_or (id_found tables c name) (first_among p roots d c name (ids_of_rows ws))
all_rows p roots d c name t numbers grouping paths [] [] tables s e k l = or_end (id_found tables c name)
all_rows p roots d c name t numbers grouping paths [] (w ∷ ws) tables s e k l = absurd s
all_rows p roots d c name t numbers grouping paths (r ∷ rs) [] tables s e k l = absurd s
all_rows p roots d c name t numbers grouping paths (r ∷ rs) (w ∷ ws) tables s e k l =
    let before = path_at paths r.row.group in
    let inside : is_inside grouping r.row.group ≡ is_filled before = ap (λ g. is_inside g r.row.group) e ∙ inside_alike paths r.row.group in
    let o = w.object in
    let given = id_given (is_filled before) r.member in
    let next : List Ids = id_added numbers (is_inside grouping r.row.group) r tables in
    all_rows p roots d c name t numbers (grouping ++ (is_inside grouping r.row.group || is_group r.member) ∷ []) (paths ++ (before ++ added_by r.member) ∷ []) rs ws next s.1
    (ap (λ g. g ++ (is_inside grouping r.row.group || is_group r.member) ∷ []) e ∙
    ap (λ b. map is_filled paths ++ b ∷ []) (ap (λ b. b || is_group r.member) inside ∙ sym (filled_by before r.member)) ∙
    sym (map-append is_filled paths ((before ++ added_by r.member) ∷ [])))
    (λ j. k (suc j))
    (subst (λ n. c < n) (sym (added_long tables (root_at numbers r.row.object) r.row.object (id_given (is_inside grouping r.row.group) r.member))) l) ∙
    ap (λ x. option_or x (first_among p roots d c name (ids_of_rows ws)))
    (given_there tables (root_at numbers r.row.object) r.row.object c (id_given (is_inside grouping r.row.group) r.member) name l ∙
    ap (λ b. option_or (id_found tables c name) (one_id true (root_at numbers r.row.object) c r.row.object (id_given b r.member) name)) inside ∙
    ap (λ j. option_or (id_found tables c name) (one_id true (root_at numbers j) c j given name)) s.0.object ∙
    ap (λ j. option_or (id_found tables c name) (one_id true j c o given name)) (k 0 w refl).0 ∙
    ap (λ b. option_or (id_found tables c name) (one_id b (root_of p roots d o) c o given name)) (sym (k 0 w refl).1)) ∙
    or_assoc (id_found tables c name) (one_id (is_known p roots d o) (root_of p roots d o) c o given name) (first_among p roots d c name (ids_of_rows ws)) ∙
    ap (option_or (id_found tables c name))
    (sym (by_given p roots d c o t before r.row.first r.member name (ids_of_rows ws)) ∙
    ap (λ x. first_among p roots d c name (with_id o x (ids_of_rows ws))) s.0.member)

none_at_first : (numbers : List ℕ) (c : ℕ) (name : Units) → Path (Option ℕ) (id_found (map no_ids numbers) c name) None
none_at_first [] c name = refl
none_at_first (n ∷ numbers) zero name = refl
none_at_first (n ∷ numbers) (suc c) name = none_at_first numbers c name

as_many : (numbers : List ℕ) → length (map no_ids numbers) ≡ length numbers
as_many [] = refl
as_many (n ∷ numbers) = ap suc (as_many numbers)

pub ids_as_meant : (p : Program) (roots : Roots) (d : ℕ) (t : Table) (rows : List UnitRow) (numbers : List ℕ) → RowsSay p d t [] rows (unit_at p d).rows
    → KnowsRoots p roots d numbers → (c : ℕ) → c < length numbers → (name : Units) → id_found (ids_added numbers [] rows (map no_ids numbers)) c name ≡ id_in p roots d c name
ids_as_meant p roots d t rows numbers says knows c h name =
    all_rows p roots d c name t numbers [] [] rows (unit_at p d).rows (map no_ids numbers) says refl knows (subst (λ n. c < n) (sym (as_many numbers)) h) ∙
    ap (λ x. option_or x (first_among p roots d c name (ids_of_rows (unit_at p d).rows))) (none_at_first numbers c name)
