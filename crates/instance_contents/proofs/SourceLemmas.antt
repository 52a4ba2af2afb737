-- That the rows that are put for cells are what the definitions say is given.
use Rattle.std.proofs.Common.{◌≡◌, ◌∙◌, ap, sym, refl, ℕ, suc, Bool, true, false, cond, ◌&&◌, nat_eq, List, [], ◌∷◌, ◌++◌, map, drop, Option, Some, None}
use Rattle.std.specs.List.{flat_map}
use Rattle.std.specs.Option.{option_map, unwrap_or}
use Rattle.qml_value.specs.declared.value.Value.{Undefined}
use Rattle.unit_rows.specs.declared.given.GivenValue.{GivenValue}
use Rattle.unit_rows.specs.declared.given.GivenValue.TheVariants.{Literal as a_literal}
use Rattle.unit_rows.specs.declared.given.ValueRow.{ValueRow}
use Rattle.instance_plans.specs.declared.planned.PlannedInstance.{PlannedInstance}
use Rattle.instance_plans.specs.Numbers.{row_at, number_of, cell_no}
use Rattle.instance_plans.specs.Contents.{Content, GivenCell, content_of, has_row, given_by, given_by_object, given_in}
use Rattle.pair_table.specs.Pairs.{same_pair, under}
use Rattle.pair_table.proofs.EachLemmas.{same_is, under_each}
use Rattle.instance_contents.specs.declared.given.Source.{Source}
use Rattle.instance_contents.specs.declared.given.Given.{Given}
use Rattle.instance_contents.specs.declared.tables.Tables.{Tables}
use Rattle.instance_contents.specs.Tables.{rows_in, live_in, plan_in, placed, no_instance}
use Rattle.instance_contents.specs.Sources.{Sources, sources_of_row, source_at, sources_of_rows, sources_of_object, sources_of_instance, sources_from, value_given, source_content, given_all, Tells}
use Rattle.instance_contents.proofs.PlaceLemmas.{same_turned, head_at, tail_at}

-- what is given by a row that was put
abbrev pub given_seen : Tables → (ℕ × ℕ) × Source → GivenCell
given_seen t e = record { cell = cell_no (e.0).0 (e.0).1; content = source_content t e.1 (e.0).0 }

map_append : {A B : Type 0} (f : A → B) (xs ys : List A) → map f (xs ++ ys) ≡ map f xs ++ map f ys
map_append f [] ys = refl
map_append f (x ∷ xs) ys = ap (λ zs. f x ∷ zs) (map_append f xs ys)

row_by : (t : Tables) (source : Source) (v : ValueRow) (o : Option ℕ) → value_given t source ≡ v.value
    → map (given_seen t) (elim o as (λ _. Sources) [ None ↦ [] | Some n ↦ ((n, v.place), source) ∷ [] ])
    ≡ elim o as (λ _. List GivenCell) [ None ↦ [] | Some n ↦ record { cell = cell_no n v.place; content = content_of (rows_in t) (live_in t) (plan_in t) (placed t source.place) source.author n v.value } ∷ [] ]
row_by t source v None e = refl
row_by t source v (Some n) e =
    ap (λ (w : GivenValue). record { cell = cell_no n v.place; content = content_of (rows_in t) (live_in t) (plan_in t) (placed t source.place) source.author n w } ∷ []) e

value_is : (t : Tables) (k i : ℕ) (at : ℕ × ℕ) (rest : List ValueRow) (v : ValueRow)
    → drop i (row_at (rows_in t) (placed t k).unit at.0).values ≡ v ∷ rest → value_given t (source_at k at i) ≡ v.value
value_is t k i at rest v e = ap (λ (o : Option ValueRow). unwrap_or (option_map (λ (w : ValueRow). w.value) o) (a_literal Undefined)) (head_at i (row_at (rows_in t) (placed t k).unit at.0).values rest v e)

rows_seen_so : (t : Tables) (k i : ℕ) (at : ℕ × ℕ) (vs : List ValueRow) → drop i (row_at (rows_in t) (placed t k).unit at.0).values ≡ vs
    → map (given_seen t) (sources_of_rows t k at i vs) ≡ flat_map (given_by (rows_in t) (live_in t) (plan_in t) (placed t k) at.1) vs
rows_seen_so t k i at [] e = refl
rows_seen_so t k i at (v ∷ vs) e =
    map_append (given_seen t) (sources_of_row t (source_at k at i) v) (sources_of_rows t k at (suc i) vs)
    ∙ ap (λ zs. zs ++ map (given_seen t) (sources_of_rows t k at (suc i) vs)) (row_by t (source_at k at i) v (number_of t.instances.items (placed t k) v.to) (value_is t k i at vs v e))
    ∙ ap (λ zs. given_by (rows_in t) (live_in t) (plan_in t) (placed t k) at.1 v ++ zs) (rows_seen_so t k (suc i) at vs (tail_at i (row_at (rows_in t) (placed t k).unit at.0).values vs v e))

map_if : {A B : Type 0} (f : A → B) (b : Bool) (xs : List A) (ys : List B) → map f xs ≡ ys → map f (cond b xs []) ≡ cond b ys []
map_if f true xs ys e = e
map_if f false xs ys e = refl

object_seen : (t : Tables) (k : ℕ) (at : ℕ × ℕ) → map (given_seen t) (sources_of_object t k (placed t k) at) ≡ given_by_object (rows_in t) (live_in t) (plan_in t) (placed t k) at
object_seen t k at =
    map_if (given_seen t) (has_row (rows_in t) (live_in t) (plan_in t) (placed t k) at.0) (sources_of_rows t k at 0 (row_at (rows_in t) (placed t k).unit at.0).values)
    (flat_map (given_by (rows_in t) (live_in t) (plan_in t) (placed t k) at.1) (row_at (rows_in t) (placed t k).unit at.0).values)
    (rows_seen_so t k 0 at (row_at (rows_in t) (placed t k).unit at.0).values refl)

objects_seen : (t : Tables) (k : ℕ) (ats : List (ℕ × ℕ)) → map (given_seen t) (sources_of_instance t k (placed t k) ats) ≡ flat_map (given_by_object (rows_in t) (live_in t) (plan_in t) (placed t k)) ats
objects_seen t k [] = refl
objects_seen t k (at ∷ ats) =
    map_append (given_seen t) (sources_of_object t k (placed t k) at) (sources_of_instance t k (placed t k) ats)
    ∙ ap (λ zs. zs ++ map (given_seen t) (sources_of_instance t k (placed t k) ats)) (object_seen t k at)
    ∙ ap (λ zs. given_by_object (rows_in t) (live_in t) (plan_in t) (placed t k) at ++ zs) (objects_seen t k ats)

-- what an instance gives
abbrev by_instance : Tables → PlannedInstance → List GivenCell
by_instance t s = flat_map (given_by_object (rows_in t) (live_in t) (plan_in t) s) s.objects

instance_seen : (t : Tables) (k : ℕ) (s : PlannedInstance) → placed t k ≡ s → map (given_seen t) (sources_of_instance t k s s.objects) ≡ flat_map (given_by_object (rows_in t) (live_in t) (plan_in t) s) s.objects
instance_seen t k s e =
    ap (λ (r : PlannedInstance). map (given_seen t) (sources_of_instance t k r r.objects)) (sym e)
    ∙ objects_seen t k (placed t k).objects
    ∙ ap (λ (r : PlannedInstance). flat_map (given_by_object (rows_in t) (live_in t) (plan_in t) r) r.objects) e

all_seen_so : (t : Tables) (k : ℕ) (rest : List PlannedInstance) → drop k t.instances.items ≡ rest
    → map (given_seen t) (sources_from t k rest) ≡ flat_map (λ (s : PlannedInstance). flat_map (given_by_object (rows_in t) (live_in t) (plan_in t) s) s.objects) rest
all_seen_so t k [] e = refl
all_seen_so t k (s ∷ rest) e =
    map_append (given_seen t) (sources_of_instance t k s s.objects) (sources_from t (suc k) rest)
    ∙ ap (λ zs. zs ++ map (given_seen t) (sources_from t (suc k) rest)) (instance_seen t k s (ap (λ (o : Option PlannedInstance). unwrap_or o no_instance) (head_at k t.instances.items rest s e)))
    ∙ ap (λ zs. flat_map (given_by_object (rows_in t) (live_in t) (plan_in t) s) s.objects ++ zs) (all_seen_so t (suc k) rest (tail_at k t.instances.items rest s e))

pub all_given_seen : (t : Tables) → map (given_seen t) (sources_from t 0 t.instances.items) ≡ given_all t
all_given_seen t = all_seen_so t 0 t.instances.items refl

-- ---- the first that is given

first_step : (t : Tables) (n p : ℕ) (x : (ℕ × ℕ) × Source) (b : Bool) (o : Option Source) (c : Option Content)
    → (b ≡ true → (n, p) ≡ x.0) → option_map (λ (s : Source). source_content t s n) o ≡ c
    → option_map (λ (s : Source). source_content t s n) (cond b (Some x.1) o) ≡ cond b (Some (source_content t x.1 (x.0).0)) c
first_step t n p x true o c same e = ap (λ (q : ℕ × ℕ). Some (source_content t x.1 (q.0))) (same refl)
first_step t n p x false o c same e = e

both_turned : (a b c d : ℕ) → (nat_eq a b && nat_eq c d) ≡ (nat_eq b a && nat_eq d c)
both_turned a b c d = ap (λ (x : Bool). x && nat_eq c d) (same_turned a b) ∙ ap (λ (x : Bool). nat_eq b a && x) (same_turned c d)

pub first_given : (t : Tables) (n p : ℕ) (xs : Sources) → option_map (λ (s : Source). source_content t s n) (under xs (n, p)) ≡ given_in (map (given_seen t) xs) (cell_no n p)
first_given t n p [] = refl
first_given t n p (x ∷ xs) =
    first_step t n p x (same_pair (n, p) x.0) (under xs (n, p)) (given_in (map (given_seen t) xs) (cell_no n p)) (same_is (n, p) x.0) (first_given t n p xs)
    ∙ ap (λ (b : Bool). cond b (Some (source_content t x.1 (x.0).0)) (given_in (map (given_seen t) xs) (cell_no n p))) (both_turned n (x.0).0 p (x.0).1)

pub given_is : (t : Tables) (g : Given) → Tells t g → (n p : ℕ) → option_map (λ (s : Source). source_content t s n) (under g.sources (n, p)) ≡ given_in (given_all t) (cell_no n p)
given_is t g h n p =
    ap (λ (xs : Sources). option_map (λ (s : Source). source_content t s n) (under xs (n, p))) h.sources
    ∙ ap (option_map (λ (s : Source). source_content t s n)) (under_each [] (sources_from t 0 t.instances.items) (n, p))
    ∙ first_given t n p (sources_from t 0 t.instances.items)
    ∙ ap (λ (xs : List GivenCell). given_in xs (cell_no n p)) (all_given_seen t)
