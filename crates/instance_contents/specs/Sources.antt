-- Which rows give what cells contain, in the order in which they count.
use Rattle.std.specs.Prelude.{◌≡◌, ℕ, suc, Bool, ◌&&◌, List, [], ◌∷◌, ◌++◌, slice_get, if◌then◌else◌, codes, decimal, Option, None, Some}
use Rattle.std.specs.Option.{option_map, option_or, unwrap_or, is_none}
use Rattle.qml_value.specs.declared.value.Value.{Undefined, Text}
use Rattle.qml_types.specs.declared.kind.TypeNo.TheVariants as no
use Rattle.program_names.specs.Layers.{same_type}
use Rattle.pair_table.specs.Pairs.{under, each_put}
use Rattle.unit_rows.specs.declared.given.GivenValue.{GivenValue}
use Rattle.unit_rows.specs.declared.given.GivenValue.TheVariants.{Literal as a_literal, Objects as some_objects}
use Rattle.unit_rows.specs.declared.given.ValueRow.{ValueRow}
use Rattle.instance_plans.specs.declared.planned.PlannedInstance.{PlannedInstance}
use Rattle.instance_plans.specs.Numbers.{row_at, number_of, number_in, builtin_at, cell_no}
use Rattle.instance_plans.specs.Contents.{Content, plain, content_of, has_row, GivenCell, all_given, given_in, anonymous}
use Rattle.instance_contents.specs.declared.given.Source.{Source}
use Rattle.instance_contents.specs.declared.given.Given.{Given}
use Rattle.instance_contents.specs.declared.tables.Tables.{Tables}
use Rattle.instance_contents.specs.Tables.{rows_in, live_in, plan_in, placed}

-- by the cells that they go to: the number of the object, and the place
abbrev pub Sources : Type 0
Sources = List ((ℕ × ℕ) × Source)

abbrev pub sources_of_row : Tables → Source → ValueRow → Sources
sources_of_row t source v = elim (number_of t.instances.items (placed t source.place) v.to) [
  | None ↦ []
  | Some n ↦ ((n, v.place), source) ∷ []
]

abbrev pub source_at : ℕ → ℕ × ℕ → ℕ → Source
source_at k at i = record { place = k; author = at.1; object = at.0; row = i }

abbrev pub sources_of_rows : Tables → ℕ → ℕ × ℕ → ℕ → List ValueRow → Sources
sources_of_rows t k at i [] = []
sources_of_rows t k at i (v ∷ rest) = sources_of_row t (source_at k at i) v ++ sources_of_rows t k at (suc i) rest

abbrev pub sources_of_object : Tables → ℕ → PlannedInstance → ℕ × ℕ → Sources
sources_of_object t k s at =
    if has_row (rows_in t) (live_in t) (plan_in t) s at.0 then sources_of_rows t k at 0 (row_at (rows_in t) s.unit at.0).values else []

abbrev pub sources_of_instance : Tables → ℕ → PlannedInstance → List (ℕ × ℕ) → Sources
sources_of_instance t k s [] = []
sources_of_instance t k s (at ∷ rest) = sources_of_object t k s at ++ sources_of_instance t k s rest

abbrev pub sources_from : Tables → ℕ → List PlannedInstance → Sources
sources_from t k [] = []
sources_from t k (s ∷ rest) = sources_of_instance t k s s.objects ++ sources_from t (suc k) rest

-- what a row gives to the object of a number
abbrev pub value_given : Tables → Source → GivenValue
value_given t source = unwrap_or (option_map (λ (v : ValueRow). v.value) (slice_get (row_at (rows_in t) (placed t source.place).unit source.object).values source.row)) (a_literal Undefined)

abbrev pub source_content : Tables → Source → ℕ → Content
source_content t source to = content_of (rows_in t) (live_in t) (plan_in t) (placed t source.place) source.author to (value_given t source)

-- ---- what is given, with the names of States without one

abbrev pub given_all : Tables → List GivenCell
given_all t = all_given (rows_in t) (live_in t) (plan_in t)

abbrev pub content_in : Tables → ℕ → ℕ → Option Content
content_in t n place = option_or (given_in (given_all t) (cell_no n place)) (anonymous (rows_in t) (plan_in t) (given_all t) (cell_no n place))

abbrev pub is_unnamed_state : Tables → Sources → ℕ → Bool
is_unnamed_state t rows n = same_type no.State (builtin_at (rows_in t) t.objects.items n) && is_none (under rows (n, 1))

abbrev pub number_or_none : Tables → Sources → Option ℕ → Option ℕ
number_or_none t rows None = None
number_or_none t rows (Some n) = if is_unnamed_state t rows n then Some n else None

-- the States without a name among objects as written in the instance at a place, with places from one on
abbrev pub namings_from : Tables → Sources → ℕ → ℕ → List ℕ → List ((ℕ × ℕ) × ℕ)
namings_from t rows k i [] = []
namings_from t rows k i (o ∷ rest) = elim (number_or_none t rows (number_in (placed t k).objects o)) [
  | None ↦ namings_from t rows k i rest
  | Some n ↦ ((n, 1), i) ∷ namings_from t rows k (suc i) rest
]

abbrev pub namings_of : Tables → Sources → ℕ → GivenValue → List ((ℕ × ℕ) × ℕ)
namings_of t rows k (some_objects os) = namings_from t rows k 1 os
namings_of t rows k v = []

abbrev pub entry_namings : Tables → Sources → Option ((ℕ × ℕ) × Source) → List ((ℕ × ℕ) × ℕ)
entry_namings t rows None = []
entry_namings t rows (Some x) = namings_of t rows (x.1).place (value_given t x.1)

abbrev pub namings : Tables → Sources → Sources → List ((ℕ × ℕ) × ℕ)
namings t rows [] = []
namings t rows (x ∷ rest) = namings_of t rows (x.1).place (value_given t x.1) ++ namings t rows rest

abbrev pub state_name : ℕ → Content
state_name i = plain (Text (codes "anonymousState" ++ decimal i))

-- the tables of what is given
pub record Tells (t : Tables) (g : Given) : Type 0 where
  pub sources : g.sources ≡ each_put [] (sources_from t 0 t.instances.items)
  pub names : g.names ≡ each_put [] (namings t g.sources g.sources)
