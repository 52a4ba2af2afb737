-- What objects give first for `target`, row after row, is what the first of their members for it gives.
use Rattle.std.proofs.Common.{◌≡◌, ◌∙◌, ap, sym, refl, subst, ℕ, zero, suc, ◌+◌, ◌<◌, ◌≤◌, arith, Bool, true, false, List, [], ◌∷◌, ◌++◌, length, map, get_or, set, take, drop, add-one, drop-cons, Option, Some, None}
use Rattle.std.specs.Prelude.{◌||◌, nat_eq, if◌then◌else◌, codes}
use Rattle.std.specs.Option.{option_map, option_or}
use Rattle.std.specs.Str.{bytes_eq}
use Rattle.std.proofs.lemmas.Bool.Decides.{nat_tests}
use Rattle.std.proofs.lemmas.List.{map-append}
use Rattle.qml_syntax.specs.Tree.{Units}
use Rattle.qml_syntax.specs.Nodes.{Table}
use Rattle.program_names.specs.Written.{WrittenMember, WrittenValue, an_id, a_property, an_alias, a_signal, a_function, a_value, a_group, a_child, a_stray, OwnedMember}
use Rattle.program_names.specs.Loaded.{Program}
use Rattle.program_names.specs.ComponentRoots.{target_in}
use Rattle.document_rows.specs.WholePaths.{path_at}
use Rattle.document_rows.specs.WrittenObjects.{kept, members_of_object}
use Rattle.document_members.specs.declared.member.Member.{Member}
use Rattle.document_members.specs.declared.member.Member.TheVariants as m
use Rattle.document_members.specs.Members.{value_at, written_in, added_by}
use Rattle.program_tables.specs.declared.building.UnitRow.{UnitRow}
use Rattle.program_tables.specs.Building.{is_group, is_inside}
use Rattle.program_tables.specs.RowsSay.{RowsSay}
use Rattle.program_tables.proofs.GroupLemmas.{is_filled, inside_alike, filled_by}
use Rattle.target_tables.specs.declared.firsts.GivenValue.{GivenValue}
use Rattle.target_tables.specs.Firsts.{Firsts, none_given, names_target, target_given, first_put, put_if, first_added, firsts_added, first_at}

-- ---- the loops

pub put_here : (all : Firsts) (o : ℕ) (d y : Option GivenValue) (x : GivenValue) → o < length all → y ≡ option_or (get_or all o d) (Some x) → set all o y ≡ first_put all o x
put_here [] o d y x h e = absurd (omega arith)
put_here (z ∷ all) zero d y x h e = ap (λ v. v ∷ all) e
put_here (z ∷ all) (suc o) d y x h e = let less : o < length all = omega arith in ap (λ zs. z ∷ zs) (put_here all o d y x less e)

pub put_nowhere : (all : Firsts) (o : ℕ) (x : GivenValue) → length all ≤ o → all ≡ first_put all o x
put_nowhere [] o x h = refl
put_nowhere (z ∷ all) zero x h = absurd (omega arith)
put_nowhere (z ∷ all) (suc o) x h = let less : length all ≤ o = omega arith in ap (λ zs. z ∷ zs) (put_nowhere all o x less)

pub rows_go_on : (rows : List UnitRow) (i : ℕ) (d : UnitRow) (grouping after : List Bool) (xs ys all : Firsts) (inside group : Bool) → i < length rows
    → inside ≡ is_inside grouping (get_or rows i d).row.group → group ≡ is_group (get_or rows i d).member → after ≡ grouping ++ (inside || group) ∷ []
    → ys ≡ first_added inside (get_or rows i d) xs → firsts_added grouping (drop i rows) xs ≡ all → firsts_added after (drop (i + 1) rows) ys ≡ all
rows_go_on rows i d grouping after xs ys all inside group h e g a y l =
    ap (λ k. firsts_added after (drop k rows) ys) (add-one i) ∙
    ap (λ zs. firsts_added after (drop (suc i) rows) zs) y ∙
    ap (λ bs. firsts_added bs (drop (suc i) rows) (first_added inside (get_or rows i d) xs)) (a ∙ ap (λ b. grouping ++ (inside || b) ∷ []) g) ∙
    ap (λ b. firsts_added (grouping ++ (b || is_group (get_or rows i d).member) ∷ []) (drop (suc i) rows) (first_added b (get_or rows i d) xs)) e ∙
    ap (λ rs. firsts_added grouping rs xs) (sym (drop-cons rows i d h)) ∙ l

taken : (owners : List (Option ℕ)) (i : ℕ) → i < length owners → map none_given (take (suc i) owners) ≡ map none_given (take i owners) ++ None ∷ []
taken [] i h = absurd (omega arith)
taken (x ∷ owners) zero h = refl
taken (x ∷ owners) (suc i) h = let less : i < length owners = omega arith in ap (λ ts. None ∷ ts) (taken owners i less)

pub one_more : (owners : List (Option ℕ)) (i : ℕ) (all after : Firsts) → i < length owners → all ≡ map none_given (take i owners) → after ≡ all ++ None ∷ [] → after ≡ map none_given (take (i + 1) owners)
one_more owners i all after h t a =
    a ∙ ap (λ ts. ts ++ None ∷ []) t ∙ sym (taken owners i h) ∙ ap (λ k. map none_given (take k owners)) (sym (add-one i))

-- ---- one row

abbrev pub value_of : Table → GivenValue → WrittenValue
value_of t x = value_at t x.first x.node

chosen : (t : Table) (b : Bool) (first node : ℕ)
    → (if b then Some (value_at t first node) else None) ≡ option_map (value_of t) (if b then Some (record { first = first; node = node }) else None)
chosen t true first node = refl
chosen t false first node = refl

member_target : (t : Table) (before : List Units) (r : UnitRow) (x : Member) → target_in (written_in t before r.row.first x ∷ []) ≡ option_map (value_of t) (target_given (is_filled before) r x)
member_target t [] r (m.Given path v) = by_rest path.rest.items
  where
    by_rest : (rest : List Units) → target_in (a_value path.at (path.first ∷ rest) (value_at t r.row.first v) ∷ []) ≡
        option_map (value_of t) (if names_target path.first rest then Some (record { first = r.row.first; node = v }) else None)
    by_rest [] = chosen t (bytes_eq path.first (codes "target")) r.row.first v
    by_rest (n ∷ rest) = refl
member_target t (b ∷ []) r (m.Given path v) = refl
member_target t (b ∷ c ∷ bs) r (m.Given path v) = refl
member_target t [] r (m.Id w n at) = refl
member_target t [] r (m.Property q a k n at v) = refl
member_target t [] r (m.Alias q e n at target) = refl
member_target t [] r (m.Signal q n at parameters) = refl
member_target t [] r (m.Method q f n at) = refl
member_target t [] r (m.Group path) = refl
member_target t [] r (m.Child c) = refl
member_target t (b ∷ bs) r (m.Id w n at) = refl
member_target t (b ∷ bs) r (m.Property q a k n at v) = refl
member_target t (b ∷ bs) r (m.Alias q e n at target) = refl
member_target t (b ∷ bs) r (m.Signal q n at parameters) = refl
member_target t (b ∷ bs) r (m.Method q f n at) = refl
member_target t (b ∷ bs) r (m.Group path) = refl
member_target t (b ∷ bs) r (m.Child c) = refl

or_none : {A : Type 0} (x : Option A) → option_or x None ≡ x
or_none None = refl
or_none (Some x) = refl

or_assoc : {A : Type 0} (a b c : Option A) → option_or (option_or a b) c ≡ option_or a (option_or b c)
or_assoc None b c = refl
or_assoc (Some a) b c = refl

mapped_or : (t : Table) (a b : Option GivenValue) → option_map (value_of t) (option_or a b) ≡ option_or (option_map (value_of t) a) (option_map (value_of t) b)
mapped_or t None b = refl
mapped_or t (Some a) b = refl

-- of members one after another the first counts
target_then : (x : WrittenMember) (ms : List WrittenMember) → target_in (x ∷ ms) ≡ option_or (target_in (x ∷ [])) (target_in ms)
target_then (a_value at [] v) ms = refl
target_then (a_value at (n ∷ []) v) ms = by_name (bytes_eq n (codes "target"))
  where
    by_name : (b : Bool) → (if b then Some v else target_in ms) ≡ option_or (if b then Some v else None) (target_in ms)
    by_name true = refl
    by_name false = refl
target_then (a_value at (n ∷ k ∷ rest) v) ms = refl
target_then (an_id w n at) ms = refl
target_then (a_property q a k n at v) ms = refl
target_then (an_alias q e n at target z) ms = refl
target_then (a_signal q n at names) ms = refl
target_then (a_function q f n at) ms = refl
target_then (a_group at path) ms = refl
target_then (a_child at c) ms = refl
target_then (a_stray at) ms = refl

kept_target : (o : ℕ) (w : OwnedMember) (ms : List WrittenMember) (own : Bool) → nat_eq w.object o ≡ own
    → target_in (kept o w ++ ms) ≡ option_or (if own then target_in (w.member ∷ []) else None) (target_in ms)
kept_target o w ms true e = ap (λ b. target_in ((if b then w.member ∷ [] else []) ++ ms)) e ∙ target_then w.member ms
kept_target o w ms false e = ap (λ b. target_in ((if b then w.member ∷ [] else []) ++ ms)) e

put_there : (all : Firsts) (k o : ℕ) (x : GivenValue) → o < length all → first_at (first_put all k x) o ≡ option_or (first_at all o) (if nat_eq k o then Some x else None)
put_there [] k o x l = absurd (omega arith)
put_there (y ∷ all) zero zero x l = refl
put_there (y ∷ all) zero (suc o) x l =
    sym (or_none (first_at all o)) ∙ ap (λ b. option_or (first_at all o) (if b then Some x else None)) (let e : false ≡ nat_eq 0 (suc o) = grind (arith, nat_tests) in e)
put_there (y ∷ all) (suc k) zero x l = sym (or_none y) ∙ ap (λ b. option_or y (if b then Some x else None)) (let e : false ≡ nat_eq (suc k) 0 = grind (arith, nat_tests) in e)
put_there (y ∷ all) (suc k) (suc o) x l =
    let less : o < length all = omega arith in
    put_there all k o x less ∙ ap (λ b. option_or (first_at all o) (if b then Some x else None)) (let e : nat_eq k o ≡ nat_eq (suc k) (suc o) = grind (arith, nat_tests) in e)

abbrev if_own : Bool → Option GivenValue → Option GivenValue
if_own own x = if own then x else None

none_either : (own : Bool) → Path (Option GivenValue) None (if_own own None)
none_either true = refl
none_either false = refl

if_there : (all : Firsts) (k o : ℕ) (x : Option GivenValue) → o < length all → first_at (put_if all k x) o ≡ option_or (first_at all o) (if_own (nat_eq k o) x)
if_there all k o None l = sym (or_none (first_at all o)) ∙ ap (option_or (first_at all o)) (none_either (nat_eq k o))
if_there all k o (Some x) l = put_there all k o x l

put_long : (all : Firsts) (k : ℕ) (x : GivenValue) → length (first_put all k x) ≡ length all
put_long [] k x = refl
put_long (y ∷ all) zero x = refl
put_long (y ∷ all) (suc k) x = ap suc (put_long all k x)

if_long : (all : Firsts) (k : ℕ) (x : Option GivenValue) → length (put_if all k x) ≡ length all
if_long all k None = refl
if_long all k (Some x) = put_long all k x

mapped_if : (t : Table) (own : Bool) (x : Option GivenValue) → option_map (value_of t) (if_own own x) ≡ (if own then option_map (value_of t) x else None)
mapped_if t true x = refl
mapped_if t false x = refl

-- ---- all rows

all_rows : (p : Program) (d o : ℕ) (t : Table) (grouping : List Bool) (paths : List (List Units)) (rows : List UnitRow) (ws : List OwnedMember) (all : Firsts)
    → RowsSay p d t paths rows ws → grouping ≡ map is_filled paths → o < length all
    → option_map (value_of t) (first_at (firsts_added grouping rows all) o) ≡ option_or (option_map (value_of t) (first_at all o)) (target_in (members_of_object o ws))
all_rows p d o t grouping paths [] [] all s e l = sym (or_none (option_map (value_of t) (first_at all o)))
all_rows p d o t grouping paths [] (w ∷ ws) all s e l = absurd s
all_rows p d o t grouping paths (r ∷ rs) [] all s e l = absurd s
all_rows p d o t grouping paths (r ∷ rs) (w ∷ ws) all s e l =
    let before = path_at paths r.row.group in
    let inside : is_inside grouping r.row.group ≡ is_filled before = ap (λ g. is_inside g r.row.group) e ∙ inside_alike paths r.row.group in
    let given = target_given (is_inside grouping r.row.group) r r.member in
    let next : Firsts = first_added (is_inside grouping r.row.group) r all in
    let before_it = option_map (value_of t) (first_at all o) in
    let own = nat_eq w.object o in
    all_rows p d o t (grouping ++ (is_inside grouping r.row.group || is_group r.member) ∷ []) (paths ++ (before ++ added_by r.member) ∷ []) rs ws next s.1
    (ap (λ g. g ++ (is_inside grouping r.row.group || is_group r.member) ∷ []) e ∙
    ap (λ b. map is_filled paths ++ b ∷ []) (ap (λ b. b || is_group r.member) inside ∙ sym (filled_by before r.member)) ∙
    sym (map-append is_filled paths ((before ++ added_by r.member) ∷ [])))
    (subst (λ n. o < n) (sym (if_long all r.row.object given)) l) ∙
    ap (λ x. option_or x (target_in (members_of_object o ws)))
    (ap (option_map (value_of t)) (if_there all r.row.object o given l) ∙
    mapped_or t (first_at all o) (if_own (nat_eq r.row.object o) given) ∙
    ap (option_or before_it)
    (ap (λ k. option_map (value_of t) (if_own (nat_eq k o) given)) s.0.object ∙
    mapped_if t own given ∙
    ap (λ b. if own then option_map (value_of t) (target_given b r r.member) else None) inside ∙
    ap (λ x. if own then x else None) (sym (member_target t before r r.member) ∙ ap (λ x. target_in (x ∷ [])) s.0.member))) ∙
    or_assoc before_it (if own then target_in (w.member ∷ []) else None) (target_in (members_of_object o ws)) ∙
    ap (option_or before_it) (sym (kept_target o w (members_of_object o ws) own refl))

none_at_first : (owners : List (Option ℕ)) (o : ℕ) → Path (Option GivenValue) (first_at (map none_given owners) o) None
none_at_first [] o = refl
none_at_first (x ∷ owners) zero = refl
none_at_first (x ∷ owners) (suc o) = none_at_first owners o

as_many : (owners : List (Option ℕ)) → length (map none_given owners) ≡ length owners
as_many [] = refl
as_many (x ∷ owners) = ap suc (as_many owners)

pub first_as_meant : (p : Program) (d o : ℕ) (t : Table) (owners : List (Option ℕ)) (rows : List UnitRow) (ws : List OwnedMember) → RowsSay p d t [] rows ws → o < length owners
    → option_map (value_of t) (first_at (firsts_added [] rows (map none_given owners)) o) ≡ target_in (members_of_object o ws)
first_as_meant p d o t owners rows ws says l =
    all_rows p d o t [] [] rows ws (map none_given owners) says refl (subst (λ n. o < n) (sym (as_many owners)) l) ∙
    ap (λ x. option_or (option_map (value_of t) x) (target_in (members_of_object o ws))) (none_at_first owners o)

all_long : (grouping : List Bool) (rows : List UnitRow) (all : Firsts) → length (firsts_added grouping rows all) ≡ length all
all_long grouping [] all = refl
all_long grouping (r ∷ rows) all =
    all_long (grouping ++ (is_inside grouping r.row.group || is_group r.member) ∷ []) rows (first_added (is_inside grouping r.row.group) r all) ∙
    if_long all r.row.object (target_given (is_inside grouping r.row.group) r r.member)

pub firsts_long : (rows : List UnitRow) (owners : List (Option ℕ)) → length (firsts_added [] rows (map none_given owners)) ≡ length owners
firsts_long rows owners = all_long [] rows (map none_given owners) ∙ as_many owners
