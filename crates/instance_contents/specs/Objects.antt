-- Parts of an object that is made.
use Rattle.std.specs.Prelude.{ℕ, Bool, true, false, ◌&&◌, ◌||◌, if◌then◌else◌, List, [], ◌∷◌, codes, is_some, Option, None, Some}
use Rattle.std.specs.List.{list_any}
use Rattle.qml_syntax.specs.Tree.{Units}
use Rattle.qml_types.specs.declared.kind.TypeNo.{TypeNo}
use Rattle.qml_types.specs.declared.kind.TypeNo.TheVariants as no
use Rattle.qml_types.specs.declared.kind.TypeRef.{TypeRef}
use Rattle.qml_types.specs.declared.kind.TypeRef.TheVariants.{Builtin}
use Rattle.program_names.specs.Layers.{same_type}
use Rattle.unit_rows.specs.declared.given.GivenValue.{GivenValue}
use Rattle.unit_rows.specs.declared.given.GivenValue.TheVariants.{Objects as some_objects}
use Rattle.instance_plans.specs.declared.planned.Planned.{Planned}
use Rattle.instance_plans.specs.Numbers.{AllRows, row_at, number_in, types_of, documents_of, stands_on, builtin_planned, cell_no}
use Rattle.instance_plans.specs.Contents.{Content, list_of, given_in}
use Rattle.instance_contents.specs.declared.tables.Tables.{Tables}
use Rattle.instance_contents.specs.declared.objects.MadeObject.{MadeObject}
use Rattle.instance_contents.specs.Tables.{rows_in, placed}
use Rattle.instance_contents.specs.Sources.{given_all}
use Rattle.instance_contents.specs.Making.{Looks}

abbrev pub shown_at : AllRows → Planned → Units
shown_at units x = if x.is_around then codes "Component" else (row_at units x.unit x.object).shown

abbrev pub types_at : AllRows → Planned → List TypeRef
types_at units x = if x.is_around then Builtin no.Component ∷ Builtin no.QtObject ∷ [] else types_of units (row_at units x.unit x.object).of_type

-- the documents that the type of an object stands on; none for a Component that is made around one
abbrev pub documents_at : AllRows → Planned → List ℕ
documents_at units x = if x.is_around then [] else documents_of units (row_at units x.unit x.object).of_type

abbrev pub some_number : Tables → ℕ → List ℕ → Bool
some_number t k [] = false
some_number t k (o ∷ rest) = is_some (number_in (placed t k).objects o) || some_number t k rest

abbrev pub lists_some : Tables → ℕ → GivenValue → Bool
lists_some t k (some_objects os) = some_number t k os
lists_some t k v = false

abbrev pub some_listed : Option Content → Bool
some_listed None = false
some_listed (Some (list_of (v ∷ vs))) = true
some_listed (Some c) = false

-- whether a list of States with some object is given
abbrev pub states_given : Tables → ℕ → Bool
states_given t n = some_listed (given_in (given_all t) (cell_no n 11))

abbrev pub starts_always : TypeNo → Bool
starts_always b = list_any (same_type b) (no.Binding ∷ no.Connections ∷ no.Timer ∷ no.Repeater ∷ no.Loader ∷ no.Host ∷ [])

abbrev pub starts_at : Tables → Planned → Bool
starts_at t x = starts_always (builtin_planned (rows_in t) x) || (stands_on (builtin_planned (rows_in t) x) no.Item && states_given t x.number)

abbrev pub looks : MadeObject → Looks
looks x = record { owner = x.owner; shown = x.shown; types = x.types.items; cells = x.cells.items; starts = x.starts }
