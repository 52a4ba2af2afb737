-- The signals of rows are those of the members that these say.
use Rattle.std.proofs.Common.{◌≡◌, ◌∙◌, ap, sym, subst, refl, ℕ, zero, suc, ◌+◌, arith, Bool, true, false, List, [], ◌∷◌, ◌++◌, length, map, Option, Some}
use Rattle.std.specs.Prelude.{nat_eq, not, ◌&&◌, ◌||◌, if◌then◌else◌, slice_get}
use Rattle.std.specs.Option.{option_map, unwrap_or}
use Rattle.std.specs.Str.{bytes_eq}
use Rattle.std.proofs.lemmas.List.{append_assoc, map-append, length-append}
use Rattle.qml_syntax.specs.Tree.{Units}
use Rattle.qml_syntax.specs.Nodes.{Table}
use Rattle.name_groups.specs.Groups.{if_same}
use Rattle.program_names.specs.Names.{changed, handler_of}
use Rattle.program_names.specs.Written.{WrittenMember, OwnedMember}
use Rattle.program_names.specs.Loaded.{Program, unit_at}
use Rattle.document_rows.specs.WholePaths.{path_at}
use Rattle.document_rows.specs.WrittenObjects.{members_of_object}
use Rattle.document_members.specs.declared.member.Member.{Member}
use Rattle.document_members.specs.declared.member.Member.TheVariants as m
use Rattle.document_members.specs.Members.{written_in, added_by}
use Rattle.program_tables.specs.declared.building.UnitRow.{UnitRow}
use Rattle.program_tables.specs.declared.names.UnitNames.{UnitNames}
use Rattle.program_tables.specs.Building.{is_group, is_inside}
use Rattle.program_tables.specs.RowsSay.{RowsSay, UnitSays}
use Rattle.program_tables.proofs.NameLemmas.{eq_either_way}
use Rattle.program_tables.proofs.GroupLemmas.{is_filled, inside_alike, filled_by}
use Rattle.unit_rows.specs.declared.names.SignalRef.TheVariants.{Own as own_signal}
use Rattle.declared_signals.specs.declared.declaring.DeclaredSignal.{DeclaredSignal}
use Rattle.declared_signals.specs.declared.declaring.DeclaredSignal.TheVariants as d
use Rattle.declared_signals.specs.declared.declaring.ObjectSignals.{ObjectSignals}
use Rattle.declared_signals.specs.Declaring.{signals_of, cells_more, signals_more, grouped_by, declared_from, signals_from, IsDeclared, AreFrom, AreDeclared}
use Rattle.declared_signals.specs.Told.{Signal, if_handled, written_under, signals_written, parameters_of, signal_at, TellsSignals}

-- ---- one member, which isn't in a group

abbrev Meaning : Type 0
Meaning = DeclaredSignal → Signal

if_same_meant : (f : Meaning) (b : Bool) (x : DeclaredSignal) → map f (if b then x ∷ [] else []) ≡ (if b then f x ∷ [] else [])
if_same_meant f true x = refl
if_same_meant f false x = refl

meant_if : (f : Meaning) (h signal : Units) (x : DeclaredSignal) → map f (if_same h (handler_of signal) x) ≡ if_handled signal h (f x)
meant_if f h signal x =
    if_same_meant f (bytes_eq h (handler_of signal)) x ∙ ap (λ b. if b then f x ∷ [] else []) (eq_either_way h (handler_of signal))

next_sum : (a b : ℕ) → suc (a + b) ≡ a + (b + 1)
next_sum a b = omega arith

no_sum : (a b : ℕ) → a + b ≡ a + (b + 0)
no_sum a b = omega arith

-- the member of a row adds what is written
row_meant : (all : List UnitRow) (r : UnitRow) (k C S cells signals : ℕ) (h : Units) (t : Table) (first : ℕ) (x : Member) (ms : List WrittenMember) →
    r.member ≡ x → slice_get all k ≡ Some r →
    written_under h (C + cells) (S + signals) (written_in t [] first x ∷ ms) ≡
    map (signal_at all C S) (signals_of k cells signals h x) ++ written_under h (C + (cells + cells_more x)) (S + (signals + signals_more x)) ms
row_meant all r k C S cells signals h t first (m.Property q a kd n at v) ms g e =
    ap (λ z. z ++ written_under h (suc (C + cells)) (S + signals) ms) (sym (meant_if (signal_at all C S) h (changed n) (d.Change cells)))
    ∙ ap (λ z. map (signal_at all C S) (if_same h (handler_of (changed n)) (d.Change cells)) ++ written_under h z (S + signals) ms) (next_sum C cells)
    ∙ ap (λ z. map (signal_at all C S) (if_same h (handler_of (changed n)) (d.Change cells)) ++ written_under h (C + (cells + 1)) z ms) (no_sum S signals)
row_meant all r k C S cells signals h t first (m.Signal q n at parameters) ms g e =
    ap (λ z. if_handled n h (own_signal (S + signals), z) ++ written_under h (C + cells) (suc (S + signals)) ms) (sym (ap (λ (z : Option UnitRow). unwrap_or (option_map (λ (y : UnitRow). parameters_of y.member) z) []) e ∙ ap parameters_of g))
    ∙ ap (λ z. z ++ written_under h (C + cells) (suc (S + signals)) ms) (sym (meant_if (signal_at all C S) h n (d.Own signals k)))
    ∙ ap (λ z. map (signal_at all C S) (if_same h (handler_of n) (d.Own signals k)) ++ written_under h z (suc (S + signals)) ms) (no_sum C cells)
    ∙ ap (λ z. map (signal_at all C S) (if_same h (handler_of n) (d.Own signals k)) ++ written_under h (C + (cells + 0)) z ms) (next_sum S signals)
row_meant all r k C S cells signals h t first (m.Alias q b n at target) ms g e = ap (λ z. written_under h z (S + signals) ms) (no_sum C cells) ∙ ap (λ z. written_under h (C + (cells + 0)) z ms) (no_sum S signals)
row_meant all r k C S cells signals h t first (m.Method q f n at) ms g e = ap (λ z. written_under h z (S + signals) ms) (no_sum C cells) ∙ ap (λ z. written_under h (C + (cells + 0)) z ms) (no_sum S signals)
row_meant all r k C S cells signals h t first (m.Id w n at) ms g e = ap (λ z. written_under h z (S + signals) ms) (no_sum C cells) ∙ ap (λ z. written_under h (C + (cells + 0)) z ms) (no_sum S signals)
row_meant all r k C S cells signals h t first (m.Given path v) ms g e = ap (λ z. written_under h z (S + signals) ms) (no_sum C cells) ∙ ap (λ z. written_under h (C + (cells + 0)) z ms) (no_sum S signals)
row_meant all r k C S cells signals h t first (m.Group path) ms g e = ap (λ z. written_under h z (S + signals) ms) (no_sum C cells) ∙ ap (λ z. written_under h (C + (cells + 0)) z ms) (no_sum S signals)
row_meant all r k C S cells signals h t first (m.Child c) ms g e = ap (λ z. written_under h z (S + signals) ms) (no_sum C cells) ∙ ap (λ z. written_under h (C + (cells + 0)) z ms) (no_sum S signals)

row_counted : (t : Table) (first signals : ℕ) (x : Member) (ms : List WrittenMember) →
    signals + signals_written (written_in t [] first x ∷ ms) ≡ (signals + signals_more x) + signals_written ms
row_counted t first signals (m.Signal q n at parameters) ms = omega arith
row_counted t first signals (m.Property q a kd n at v) ms = omega arith
row_counted t first signals (m.Alias q b n at target) ms = omega arith
row_counted t first signals (m.Method q f n at) ms = omega arith
row_counted t first signals (m.Id w n at) ms = omega arith
row_counted t first signals (m.Given path v) ms = omega arith
row_counted t first signals (m.Group path) ms = omega arith
row_counted t first signals (m.Child c) ms = omega arith

-- ---- one that is

inside_meant : (h : Units) (C S : ℕ) (t : Table) (b : Units) (bs : List Units) (first : ℕ) (x : Member) (ms : List WrittenMember) →
    (written_under h C S (written_in t (b ∷ bs) first x ∷ ms) ≡ written_under h C S ms) × (signals_written (written_in t (b ∷ bs) first x ∷ ms) ≡ signals_written ms)
inside_meant h C S t b bs first (m.Property q a kd n at v) ms = (refl, refl)
inside_meant h C S t b bs first (m.Alias q e n at target) ms = (refl, refl)
inside_meant h C S t b bs first (m.Signal q n at parameters) ms = (refl, refl)
inside_meant h C S t b bs first (m.Method q f n at) ms = (refl, refl)
inside_meant h C S t b bs first (m.Id w n at) ms = (refl, refl)
inside_meant h C S t b bs first (m.Given path v) ms = (refl, refl)
inside_meant h C S t b bs first (m.Group path) ms = (refl, refl)
inside_meant h C S t b bs first (m.Child c) ms = (refl, refl)

-- ---- a row, by whether it is in a group and whether it is the object's

abbrev if_own : Bool → WrittenMember → List WrittenMember → List WrittenMember
if_own own x ms = (if own then x ∷ [] else []) ++ ms

step : (all : List UnitRow) (r : UnitRow) (k C S cells signals : ℕ) (h : Units) (t : Table) (before : List Units) (first : ℕ) (x : Member) (ms : List WrittenMember) (own : Bool)
    (later : ℕ → ℕ → List DeclaredSignal) →
    r.member ≡ x → slice_get all k ≡ Some r →
    ((c s : ℕ) → map (signal_at all C S) (later c s) ≡ written_under h (C + c) (S + s) ms) →
    map (signal_at all C S)
    (if not (is_filled before) && own then signals_of k cells signals h x ++ later (cells + cells_more x) (signals + signals_more x) else later cells signals) ≡
    written_under h (C + cells) (S + signals) (if_own own (written_in t before first x) ms)
step all r k C S cells signals h t [] first x ms true later g e l =
    map-append (signal_at all C S) (signals_of k cells signals h x) (later (cells + cells_more x) (signals + signals_more x))
    ∙ ap (λ z. map (signal_at all C S) (signals_of k cells signals h x) ++ z) (l (cells + cells_more x) (signals + signals_more x))
    ∙ sym (row_meant all r k C S cells signals h t first x ms g e)
step all r k C S cells signals h t [] first x ms false later g e l = l cells signals
step all r k C S cells signals h t (b ∷ bs) first x ms true later g e l = l cells signals ∙ sym (inside_meant h (C + cells) (S + signals) t b bs first x ms).0
step all r k C S cells signals h t (b ∷ bs) first x ms false later g e l = l cells signals

count_step : (signals : ℕ) (t : Table) (before : List Units) (first : ℕ) (x : Member) (ms : List WrittenMember) (own : Bool) (later : ℕ → ℕ) →
    ((s : ℕ) → later s ≡ s + signals_written ms) →
    (if not (is_filled before) && own then later (signals + signals_more x) else later signals) ≡ signals + signals_written (if_own own (written_in t before first x) ms)
count_step signals t [] first x ms true later l = l (signals + signals_more x) ∙ sym (row_counted t first signals x ms)
count_step signals t [] first x ms false later l = l signals
count_step signals t (b ∷ bs) first x ms true later l = l signals ∙ ap (λ z. signals + z) (sym (inside_meant [] 0 0 t b bs first x ms).1)
count_step signals t (b ∷ bs) first x ms false later l = l signals

-- ---- all rows

more_by_one : (a : ℕ) → suc a ≡ a + 1
more_by_one a = omega arith

at_front : (front rest : List UnitRow) (r : UnitRow) → slice_get (front ++ r ∷ rest) (length front) ≡ Some r
at_front [] rest r = refl
at_front (x ∷ front) rest r = at_front front rest r

kept_if : (o : ℕ) (w : OwnedMember) (ws : List OwnedMember) → members_of_object o (w ∷ ws) ≡ if_own (nat_eq w.object o) w.member (members_of_object o ws)
kept_if o w ws = refl

inside_now : (grouping : List Bool) (paths : List (List Units)) (g : Option ℕ) → grouping ≡ map is_filled paths → is_inside grouping g ≡ is_filled (path_at paths g)
inside_now grouping paths g e = ap (λ z. is_inside z g) e ∙ inside_alike paths g

grouped_now : (grouping : List Bool) (paths : List (List Units)) (r : UnitRow) → grouping ≡ map is_filled paths →
    grouped_by grouping r ≡ map is_filled (paths ++ (path_at paths r.row.group ++ added_by r.member) ∷ [])
grouped_now grouping paths r e =
    ap (λ g. g ++ (is_inside grouping r.row.group || is_group r.member) ∷ []) e
    ∙ ap (λ b. map is_filled paths ++ b ∷ [])
    (ap (λ b. b || is_group r.member) (inside_now grouping paths r.row.group e) ∙ sym (filled_by (path_at paths r.row.group) r.member))
    ∙ sym (map-append is_filled paths ((path_at paths r.row.group ++ added_by r.member) ∷ []))

rows_meant : (p : Program) (u o k C S cells signals : ℕ) (h : Units) (t : Table) (grouping : List Bool) (paths : List (List Units)) (all front rs : List UnitRow) (ws : List OwnedMember) →
    RowsSay p u t paths rs ws → grouping ≡ map is_filled paths → all ≡ front ++ rs → k ≡ length front →
    map (signal_at all C S) (declared_from o h k cells signals grouping rs) ≡ written_under h (C + cells) (S + signals) (members_of_object o ws)
rows_meant p u o k C S cells signals h t grouping paths all front [] [] says g a e = refl
rows_meant p u o k C S cells signals h t grouping paths all front (r ∷ rs) (w ∷ ws) says g a e =
    let before = path_at paths r.row.group in
    let there : slice_get all k ≡ Some r = ap (λ z. slice_get z k) a ∙ ap (λ z. slice_get (front ++ r ∷ rs) z) e ∙ at_front front rs r in
    let own : nat_eq r.row.object o ≡ nat_eq w.object o = ap (λ z. nat_eq z o) says.0.object in
    let later : ℕ → ℕ → List DeclaredSignal = λ c s. declared_from o h (suc k) c s (grouped_by grouping r) rs in
    ap (λ b. map (signal_at all C S) (if not b && nat_eq r.row.object o
    then signals_of k cells signals h r.member ++ later (cells + cells_more r.member) (signals + signals_more r.member) else later cells signals))
    (inside_now grouping paths r.row.group g)
    ∙ ap (λ b. map (signal_at all C S) (if not (is_filled before) && b
    then signals_of k cells signals h r.member ++ later (cells + cells_more r.member) (signals + signals_more r.member) else later cells signals)) own
    ∙ step all r k C S cells signals h t before r.row.first r.member (members_of_object o ws) (nat_eq w.object o) later refl there
    (λ c s. rows_meant p u o (suc k) C S c s h t (grouped_by grouping r) (paths ++ (before ++ added_by r.member) ∷ []) all (front ++ r ∷ []) rs ws says.1
    (grouped_now grouping paths r g) (a ∙ sym (append_assoc front (r ∷ []) rs)) (ap suc e ∙ more_by_one (length front) ∙ sym (length-append front (r ∷ []))))
    ∙ ap (λ x. written_under h (C + cells) (S + signals) (if_own (nat_eq w.object o) x (members_of_object o ws))) says.0.member
rows_meant p u o k C S cells signals h t grouping paths all front [] (w ∷ ws) says g a e = absurd says
rows_meant p u o k C S cells signals h t grouping paths all front (r ∷ rs) [] says g a e = absurd says

rows_counted : (p : Program) (u o signals : ℕ) (t : Table) (grouping : List Bool) (paths : List (List Units)) (rs : List UnitRow) (ws : List OwnedMember) →
    RowsSay p u t paths rs ws → grouping ≡ map is_filled paths → signals_from o signals grouping rs ≡ signals + signals_written (members_of_object o ws)
rows_counted p u o signals t grouping paths [] [] says g = omega arith
rows_counted p u o signals t grouping paths (r ∷ rs) (w ∷ ws) says g =
    let before = path_at paths r.row.group in
    let own : nat_eq r.row.object o ≡ nat_eq w.object o = ap (λ z. nat_eq z o) says.0.object in
    let later : ℕ → ℕ = λ s. signals_from o s (grouped_by grouping r) rs in
    ap (λ b. if not b && nat_eq r.row.object o then later (signals + signals_more r.member) else later signals) (inside_now grouping paths r.row.group g)
    ∙ ap (λ b. if not (is_filled before) && b then later (signals + signals_more r.member) else later signals) own
    ∙ count_step signals t before r.row.first r.member (members_of_object o ws) (nat_eq w.object o) later
    (λ s. rows_counted p u o s t (grouped_by grouping r) (paths ++ (before ++ added_by r.member) ∷ []) rs ws says.1 (grouped_now grouping paths r g))
    ∙ ap (λ x. signals + signals_written (if_own (nat_eq w.object o) x (members_of_object o ws))) says.0.member
rows_counted p u o signals t grouping paths [] (w ∷ ws) says g = absurd says
rows_counted p u o signals t grouping paths (r ∷ rs) [] says g = absurd says

-- ---- what is kept

object_of : (o at : ℕ) (rows : List UnitRow) (objects : List ObjectSignals) (x : ObjectSignals) → AreFrom o rows objects → slice_get objects at ≡ Some x → IsDeclared (o + at) rows x
object_of o zero rows [] x h e = absurd (cc)
object_of o (suc at) rows [] x h e = absurd (cc)
object_of o zero rows (y ∷ ys) x h e =
    subst (λ z. IsDeclared (o + 0) rows z) (let same : y ≡ x = cc in same) (subst (λ k. IsDeclared k rows y) (let q : o ≡ o + 0 = omega arith in q) h.0)
object_of o (suc at) rows (y ∷ ys) x h e = subst (λ k. IsDeclared k rows x) (let q : suc o + at ≡ o + suc at = omega arith in q) (object_of (suc o) at rows ys x h.1 e)

with_none : (a : ℕ) → a ≡ a + 0
with_none a = omega arith

pub told : (p : Program) (u count : ℕ) (unit : UnitNames) (objects : List ObjectSignals) (says : UnitSays p u unit) → AreDeclared count says.rows objects → TellsSignals p u says.rows objects
told p u count unit objects says a = record {
  signals = λ o x e h cells signals.
      let declared : IsDeclared o says.rows x = subst (λ k. IsDeclared k says.rows x) (let q : 0 + o ≡ o = omega arith in q) (object_of 0 o says.rows objects x a.are e) in
      ap (map (signal_at says.rows cells signals)) (declared.signals h)
      ∙ rows_meant p u o 0 cells signals 0 0 h says.tree [] [] says.rows [] says.rows (unit_at p u).rows says.says refl refl refl
      ∙ ap (λ z. written_under h z (signals + 0) (members_of_object o (unit_at p u).rows)) (sym (with_none cells))
      ∙ ap (λ z. written_under h cells z (members_of_object o (unit_at p u).rows)) (sym (with_none signals))
      ∙ ap (λ z. written_under h cells signals z) (sym (says.members o));
  count = λ o x e.
      let declared : IsDeclared o says.rows x = subst (λ k. IsDeclared k says.rows x) (let q : 0 + o ≡ o = omega arith in q) (object_of 0 o says.rows objects x a.are e) in
      declared.count ∙ rows_counted p u o 0 says.tree [] [] says.rows (unit_at p u).rows says.says refl
      ∙ (let q : 0 + signals_written (members_of_object o (unit_at p u).rows) ≡ signals_written (members_of_object o (unit_at p u).rows) = omega arith in q)
      ∙ ap signals_written (sym (says.members o));
}
