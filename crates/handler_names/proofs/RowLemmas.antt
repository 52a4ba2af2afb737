-- Handlers of a document's objects, row after row, are those for the signals that its members declare.
use Rattle.std.proofs.Common.{◌≡◌, ◌∙◌, ap, sym, refl, subst, ℕ, zero, suc, ◌+◌, ◌<◌, ◌≤◌, arith, Bool, true, false, List, [], ◌∷◌, ◌++◌, length, map, get_or, set, take, drop, add-one, drop-cons, Option, Some, None, is_some}
use Rattle.std.specs.Prelude.{◌||◌, ◌&&◌, nat_eq, if◌then◌else◌, slice_get}
use Rattle.std.specs.Option.{option_or}
use Rattle.std.specs.Str.{bytes_eq}
use Rattle.std.proofs.lemmas.Bool.{false≢true}
use Rattle.std.proofs.lemmas.Bool.Decides.{nat_tests}
use Rattle.std.proofs.lemmas.List.{map-append}
use Rattle.qml_syntax.specs.Tree.{Units}
use Rattle.qml_syntax.specs.Nodes.{Table}
use Rattle.name_table.specs.Named.{under, put}
use Rattle.program_names.specs.Names.{changed, handler_of}
use Rattle.program_names.specs.Written.{WrittenMember, a_property, OwnedMember}
use Rattle.program_names.specs.Loaded.{Program, unit_at}
use Rattle.program_names.specs.Layers.{Named, NameMeaning, names_of_member, cells_of_member, names_of_members, parameters_of, handled_by, joined_names, handled_in}
use Rattle.document_rows.specs.WholePaths.{path_at}
use Rattle.document_rows.specs.WrittenObjects.{kept, members_of_object}
use Rattle.document_members.specs.declared.member.Member.{Member}
use Rattle.document_members.specs.declared.member.Member.TheVariants as m
use Rattle.document_members.specs.Members.{written_in, added_by}
use Rattle.program_tables.specs.declared.building.UnitRow.{UnitRow}
use Rattle.program_tables.specs.declared.names.ObjectNames.{ObjectNames}
use Rattle.program_tables.specs.Building.{is_group, is_inside}
use Rattle.program_tables.specs.RowsSay.{RowsSay}
use Rattle.program_tables.proofs.NameLemmas.{under_put, eq_either_way}
use Rattle.program_tables.proofs.GroupLemmas.{is_filled, inside_alike, filled_by}
use Rattle.handler_names.specs.Handlers.{Handlers, no_handlers, signal_given, handler_put, put_if, handler_added, handlers_added, has_handler}

-- ---- the loops

pub put_here : (tables : List Handlers) (o : ℕ) (d x : Handlers) (handler : Units) → o < length tables → x ≡ put (get_or tables o d) handler true → set tables o x ≡ handler_put tables o handler
put_here [] o d x handler h e = absurd (omega arith)
put_here (y ∷ tables) zero d x handler h e = ap (λ z. z ∷ tables) e
put_here (y ∷ tables) (suc o) d x handler h e = let less : o < length tables = omega arith in ap (λ zs. y ∷ zs) (put_here tables o d x handler less e)

pub put_nowhere : (tables : List Handlers) (o : ℕ) (handler : Units) → length tables ≤ o → tables ≡ handler_put tables o handler
put_nowhere [] o handler h = refl
put_nowhere (y ∷ tables) zero handler h = absurd (omega arith)
put_nowhere (y ∷ tables) (suc o) handler h = let less : length tables ≤ o = omega arith in ap (λ zs. y ∷ zs) (put_nowhere tables o handler less)

pub rows_go_on : (rows : List UnitRow) (i : ℕ) (d : UnitRow) (grouping after : List Bool) (xs ys all : List Handlers) (inside group : Bool) → i < length rows
    → inside ≡ is_inside grouping (get_or rows i d).row.group → group ≡ is_group (get_or rows i d).member → after ≡ grouping ++ (inside || group) ∷ []
    → ys ≡ handler_added inside (get_or rows i d) xs → handlers_added grouping (drop i rows) xs ≡ all → handlers_added after (drop (i + 1) rows) ys ≡ all
rows_go_on rows i d grouping after xs ys all inside group h e g a y l =
    ap (λ k. handlers_added after (drop k rows) ys) (add-one i) ∙
    ap (λ zs. handlers_added after (drop (suc i) rows) zs) y ∙
    ap (λ bs. handlers_added bs (drop (suc i) rows) (handler_added inside (get_or rows i d) xs)) (a ∙ ap (λ b. grouping ++ (inside || b) ∷ []) g) ∙
    ap (λ b. handlers_added (grouping ++ (b || is_group (get_or rows i d).member) ∷ []) (drop (suc i) rows) (handler_added b (get_or rows i d) xs)) e ∙
    ap (λ rs. handlers_added grouping rs xs) (sym (drop-cons rows i d h)) ∙ l

taken : (objects : List ObjectNames) (i : ℕ) → i < length objects → map no_handlers (take (suc i) objects) ≡ map no_handlers (take i objects) ++ [] ∷ []
taken [] i h = absurd (omega arith)
taken (x ∷ objects) zero h = refl
taken (x ∷ objects) (suc i) h = let less : i < length objects = omega arith in ap (λ ts. [] ∷ ts) (taken objects i less)

pub one_more_table : (objects : List ObjectNames) (i : ℕ) (tables after : List Handlers) → i < length objects → tables ≡ map no_handlers (take i objects) → after ≡ tables ++ [] ∷ []
    → after ≡ map no_handlers (take (i + 1) objects)
one_more_table objects i tables after h t a =
    a ∙ ap (λ ts. ts ++ [] ∷ []) t ∙ sym (taken objects i h) ∙ ap (λ k. map no_handlers (take k objects)) (sym (add-one i))

-- ---- whether a name is a handler's of some names

abbrev pub handles : Units → List Named → Bool
handles h ns = is_some (handled_in h ns)

pub or_none : (b : Bool) → (b || false) ≡ b
or_none true = refl
or_none false = refl

or_assoc : (a b c : Bool) → ((a || b) || c) ≡ (a || (b || c))
or_assoc true b c = refl
or_assoc false b c = refl

pub some_joined : (a b : Option (List Units)) → is_some (joined_names a b) ≡ (is_some a || is_some b)
some_joined None b = refl
some_joined (Some a) None = refl
some_joined (Some a) (Some b) = refl

pub handles_both : (h : Units) (a b : List Named) → handles h (a ++ b) ≡ (handles h a || handles h b)
handles_both h [] b = refl
handles_both h (n ∷ a) b =
    some_joined (handled_by h n) (handled_in h (a ++ b)) ∙ ap (λ x. is_some (handled_by h n) || x) (handles_both h a b) ∙
    sym (or_assoc (is_some (handled_by h n)) (handles h a) (handles h b)) ∙ ap (λ x. x || handles h b) (sym (some_joined (handled_by h n) (handled_in h a)))

-- ---- one row

-- whether a name is the handler's for this signal
abbrev is_for : Option Units → Units → Bool
is_for None h = false
is_for (Some signal) h = bytes_eq h (handler_of signal)

not_for : (b : Bool) (what : NameMeaning) → Path (Option (List Units)) (parameters_of what) None → is_some (if b then parameters_of what else None) ≡ false
not_for true what e = ap is_some e
not_for false what e = refl

is_for_signal : (b : Bool) (names : List Units) (rest : Option (List Units)) → Path (Option (List Units)) rest None → is_some (joined_names (if b then Some names else None) rest) ≡ b
is_for_signal true names rest e = ap (λ x. is_some (joined_names (Some names) x)) e
is_for_signal false names rest e = ap is_some e

one_signal : (h signal : Units) (names : List Units) → is_some (joined_names (if bytes_eq (handler_of signal) h then Some names else None) None) ≡ bytes_eq h (handler_of signal)
one_signal h signal names = is_for_signal (bytes_eq (handler_of signal) h) names None refl ∙ eq_either_way (handler_of signal) h

no_signal : (b : Bool) → is_some (joined_names (if b then None else None) None) ≡ false
no_signal true = refl
no_signal false = refl

behind_none : (b : Bool) (rest : Option (List Units)) → is_some (joined_names (if b then None else None) rest) ≡ is_some rest
behind_none true rest = refl
behind_none false rest = refl

row_handles : (p : Program) (d o place : ℕ) (t : Table) (before : List Units) (first : ℕ) (x : Member) (h : Units)
    → handles h (names_of_member p d o place (written_in t before first x)) ≡ is_for (signal_given (is_filled before) x) h
row_handles p d o place t [] first (m.Property q a k n at v) h =
    behind_none (bytes_eq (handler_of n) h) (joined_names (if bytes_eq (handler_of (changed n)) h then Some [] else None) None) ∙ one_signal h (changed n) []
row_handles p d o place t [] first (m.Alias q b n at target) h = no_signal (bytes_eq (handler_of n) h)
row_handles p d o place t [] first (m.Signal q n at parameters) h = one_signal h n parameters.items
row_handles p d o place t [] first (m.Method q f n at) h = no_signal (bytes_eq (handler_of n) h)
row_handles p d o place t [] first (m.Id w n at) h = refl
row_handles p d o place t [] first (m.Given path v) h = refl
row_handles p d o place t [] first (m.Group path) h = refl
row_handles p d o place t [] first (m.Child c) h = refl
row_handles p d o place t (b ∷ bs) first (m.Property q a k n at v) h = refl
row_handles p d o place t (b ∷ bs) first (m.Alias q e n at target) h = refl
row_handles p d o place t (b ∷ bs) first (m.Signal q n at parameters) h = refl
row_handles p d o place t (b ∷ bs) first (m.Method q f n at) h = refl
row_handles p d o place t (b ∷ bs) first (m.Id w n at) h = refl
row_handles p d o place t (b ∷ bs) first (m.Given path v) h = refl
row_handles p d o place t (b ∷ bs) first (m.Group path) h = refl
row_handles p d o place t (b ∷ bs) first (m.Child c) h = refl

found_put : (x : Handlers) (n h : Units) → is_some (under (put x n true) h) ≡ (is_some (under x h) || bytes_eq h n)
found_put x n h = ap is_some (under_put x n true h) ∙ cases (under x h) (bytes_eq h n)
  where
    cases : (y : Option Bool) (b : Bool) → is_some (option_or y (if b then Some true else None)) ≡ (is_some y || b)
    cases (Some y) b = refl
    cases None true = refl
    cases None false = refl

put_there : (tables : List Handlers) (k o : ℕ) (n h : Units) → o < length tables → has_handler (handler_put tables k n) o h ≡ (has_handler tables o h || (nat_eq k o && bytes_eq h n))
put_there [] k o n h l = absurd (omega arith)
put_there (x ∷ xs) zero zero n h l = found_put x n h
put_there (x ∷ xs) zero (suc o) n h l =
    sym (or_none (has_handler xs o h)) ∙ ap (λ b. has_handler xs o h || (b && bytes_eq h n)) (let e : false ≡ nat_eq 0 (suc o) = grind (arith, nat_tests) in e)
put_there (x ∷ xs) (suc k) zero n h l =
    sym (or_none (is_some (under x h))) ∙ ap (λ b. is_some (under x h) || (b && bytes_eq h n)) (let e : false ≡ nat_eq (suc k) 0 = grind (arith, nat_tests) in e)
put_there (x ∷ xs) (suc k) (suc o) n h l =
    let less : o < length xs = omega arith in
    put_there xs k o n h less ∙ ap (λ b. has_handler xs o h || (b && bytes_eq h n)) (let e : nat_eq k o ≡ nat_eq (suc k) (suc o) = grind (arith, nat_tests) in e)

and_none : (b : Bool) → false ≡ (b && false)
and_none true = refl
and_none false = refl

if_there : (tables : List Handlers) (k o : ℕ) (signal : Option Units) (h : Units) → o < length tables → has_handler (put_if tables k signal) o h ≡ (has_handler tables o h || (nat_eq k o && is_for signal h))
if_there tables k o None h l = sym (or_none (has_handler tables o h)) ∙ ap (λ b. has_handler tables o h || b) (and_none (nat_eq k o))
if_there tables k o (Some signal) h l = put_there tables k o (handler_of signal) h l

put_long : (tables : List Handlers) (k : ℕ) (n : Units) → length (handler_put tables k n) ≡ length tables
put_long [] k n = refl
put_long (x ∷ xs) zero n = refl
put_long (x ∷ xs) (suc k) n = ap suc (put_long xs k n)

if_long : (tables : List Handlers) (k : ℕ) (signal : Option Units) → length (put_if tables k signal) ≡ length tables
if_long tables k None = refl
if_long tables k (Some signal) = put_long tables k (handler_of signal)

-- ---- all rows

-- what a member adds to those of an object
kept_handles : (p : Program) (d o place : ℕ) (h : Units) (w : OwnedMember) (ms : List WrittenMember) (own : Bool) → nat_eq w.object o ≡ own
    → ((place : ℕ) → handles h (names_of_members p d o place ms) ≡ handles h (names_of_members p d o 0 ms))
    → handles h (names_of_members p d o place (kept o w ++ ms)) ≡ ((own && handles h (names_of_member p d o place w.member)) || handles h (names_of_members p d o 0 ms))
kept_handles p d o place h w ms true e g =
    ap (λ b. handles h (names_of_members p d o place ((if b then w.member ∷ [] else []) ++ ms))) e ∙
    handles_both h (names_of_member p d o place w.member) (names_of_members p d o (place + cells_of_member w.member) ms) ∙
    ap (λ b. handles h (names_of_member p d o place w.member) || b) (g (place + cells_of_member w.member))
kept_handles p d o place h w ms false e g =
    ap (λ b. handles h (names_of_members p d o place ((if b then w.member ∷ [] else []) ++ ms))) e ∙ g place

member_anywhere : (p : Program) (d o place : ℕ) (h : Units) (x : WrittenMember) → handles h (names_of_member p d o place x) ≡ handles h (names_of_member p d o 0 x)
member_anywhere p d o place h (a_property q a k n at v) = refl
member_anywhere p d o place h _ = refl

pub anywhere : (p : Program) (d o : ℕ) (h : Units) (ms : List WrittenMember) (place : ℕ) → handles h (names_of_members p d o place ms) ≡ handles h (names_of_members p d o 0 ms)
anywhere p d o h [] place = refl
anywhere p d o h (x ∷ ms) place =
    handles_both h (names_of_member p d o place x) (names_of_members p d o (place + cells_of_member x) ms) ∙
    ap (λ b. b || handles h (names_of_members p d o (place + cells_of_member x) ms)) (member_anywhere p d o place h x) ∙
    ap (λ b. handles h (names_of_member p d o 0 x) || b) (anywhere p d o h ms (place + cells_of_member x) ∙ sym (anywhere p d o h ms (0 + cells_of_member x))) ∙
    sym (handles_both h (names_of_member p d o 0 x) (names_of_members p d o (0 + cells_of_member x) ms))

all_rows : (p : Program) (d o : ℕ) (h : Units) (t : Table) (grouping : List Bool) (paths : List (List Units)) (rows : List UnitRow) (ws : List OwnedMember) (tables : List Handlers)
    → RowsSay p d t paths rows ws → grouping ≡ map is_filled paths → o < length tables
    → has_handler (handlers_added grouping rows tables) o h ≡ (has_handler tables o h || handles h (names_of_members p d o 0 (members_of_object o ws)))
all_rows p d o h t grouping paths [] [] tables s e l = sym (or_none (has_handler tables o h))
all_rows p d o h t grouping paths [] (w ∷ ws) tables s e l = absurd s
all_rows p d o h t grouping paths (r ∷ rs) [] tables s e l = absurd s
all_rows p d o h t grouping paths (r ∷ rs) (w ∷ ws) tables s e l =
    let before = path_at paths r.row.group in
    let inside : is_inside grouping r.row.group ≡ is_filled before = ap (λ g. is_inside g r.row.group) e ∙ inside_alike paths r.row.group in
    let next : List Handlers = handler_added (is_inside grouping r.row.group) r tables in
    let behind = handles h (names_of_members p d o 0 (members_of_object o ws)) in
    all_rows p d o h t (grouping ++ (is_inside grouping r.row.group || is_group r.member) ∷ []) (paths ++ (before ++ added_by r.member) ∷ []) rs ws next s.1
    (ap (λ g. g ++ (is_inside grouping r.row.group || is_group r.member) ∷ []) e ∙
    ap (λ b. map is_filled paths ++ b ∷ []) (ap (λ b. b || is_group r.member) inside ∙ sym (filled_by before r.member)) ∙
    sym (map-append is_filled paths ((before ++ added_by r.member) ∷ [])))
    (subst (λ n. o < n) (sym (if_long tables r.row.object (signal_given (is_inside grouping r.row.group) r.member))) l) ∙
    ap (λ b. b || behind)
    (if_there tables r.row.object o (signal_given (is_inside grouping r.row.group) r.member) h l ∙
    ap (λ k. has_handler tables o h || (nat_eq k o && is_for (signal_given (is_inside grouping r.row.group) r.member) h)) s.0.object ∙
    ap (λ b. has_handler tables o h || (nat_eq w.object o && is_for (signal_given b r.member) h)) inside ∙
    ap (λ b. has_handler tables o h || (nat_eq w.object o && b))
    (sym (row_handles p d o 0 t before r.row.first r.member h) ∙ ap (λ x. handles h (names_of_member p d o 0 x)) s.0.member)) ∙
    or_assoc (has_handler tables o h) (nat_eq w.object o && handles h (names_of_member p d o 0 w.member)) behind ∙
    ap (λ b. has_handler tables o h || b) (sym (kept_handles p d o 0 h w (members_of_object o ws) (nat_eq w.object o) refl (anywhere p d o h (members_of_object o ws))))

none_at_first : (objects : List ObjectNames) (o : ℕ) (h : Units) → has_handler (map no_handlers objects) o h ≡ false
none_at_first [] o h = refl
none_at_first (x ∷ objects) zero h = refl
none_at_first (x ∷ objects) (suc o) h = none_at_first objects o h

as_many : (objects : List ObjectNames) → length (map no_handlers objects) ≡ length objects
as_many [] = refl
as_many (x ∷ objects) = ap suc (as_many objects)

pub rows_as_meant : (p : Program) (d o : ℕ) (h : Units) (t : Table) (objects : List ObjectNames) (rows : List UnitRow) (ws : List OwnedMember) → RowsSay p d t [] rows ws → o < length objects
    → has_handler (handlers_added [] rows (map no_handlers objects)) o h ≡ handles h (names_of_members p d o 0 (members_of_object o ws))
rows_as_meant p d o h t objects rows ws says l =
    all_rows p d o h t [] [] rows ws (map no_handlers objects) says refl (subst (λ n. o < n) (sym (as_many objects)) l) ∙
    ap (λ b. b || handles h (names_of_members p d o 0 (members_of_object o ws))) (none_at_first objects o h)
