-- The ids of a document's components, row after row: under the number of a component's root its ids, each with its object.
use Rattle.std.specs.Prelude.{◌≡◌, ℕ, zero, suc, Bool, true, false, ◌||◌, List, [], ◌∷◌, ◌++◌, slice_get, Option, Some, None}
use Rattle.std.specs.Option.{option_and_then}
use Rattle.name_table.specs.Named.{under, put}
use Rattle.qml_syntax.specs.Tree.{Units}
use Rattle.program_names.specs.Written.{OwnedMember}
use Rattle.program_names.specs.Loaded.{Program, unit_at}
use Rattle.program_names.specs.Components.{Roots, root_of, is_known}
use Rattle.document_members.specs.declared.member.Member.{Member}
use Rattle.document_members.specs.declared.member.Member.TheVariants as m
use Rattle.program_tables.specs.declared.building.UnitRow.{UnitRow}
use Rattle.program_tables.specs.Building.{is_group, is_inside}
use Rattle.alias_tables.specs.Roots.{root_at}

-- names with their objects
abbrev pub Ids : Type 0
Ids = List (Units × ℕ)

abbrev pub no_ids : ℕ → Ids
no_ids root = []

-- the id that a member gives, which isn't in a group
abbrev pub id_given : Bool → Member → Option Units
id_given false (m.Id word name at) = Some name
id_given _ _ = None

abbrev pub id_put : List Ids → ℕ → Units → ℕ → List Ids
id_put [] component name object = []
id_put (ids ∷ rest) zero name object = put ids name object ∷ rest
id_put (ids ∷ rest) (suc component) name object = ids ∷ id_put rest component name object

abbrev put_if : List Ids → ℕ → ℕ → Option Units → List Ids
put_if tables component object None = tables
put_if tables component object (Some name) = id_put tables component name object

abbrev pub id_added : List ℕ → Bool → UnitRow → List Ids → List Ids
id_added roots inside r tables = put_if tables (root_at roots r.row.object) r.row.object (id_given inside r.member)

abbrev pub ids_added : List ℕ → List Bool → List UnitRow → List Ids → List Ids
ids_added roots grouping [] tables = tables
ids_added roots grouping (r ∷ rest) tables =
    let inside = is_inside grouping r.row.group in
    ids_added roots (grouping ++ (inside || is_group r.member) ∷ []) rest (id_added roots inside r tables)

-- the object of an id of a component
abbrev pub id_found : List Ids → ℕ → Units → Option ℕ
id_found tables component name = option_and_then (λ (ids : Ids). under ids name) (slice_get tables component)

-- The roots are those of the objects of a document's rows, and of all it is known which objects begin components.
abbrev pub KnowsRoots : Program → Roots → ℕ → List ℕ → Type 0
KnowsRoots p roots d numbers = (k : ℕ) (w : OwnedMember) → slice_get (unit_at p d).rows k ≡ Some w →
    (root_at numbers w.object ≡ root_of p roots d w.object) × (is_known p roots d w.object ≡ true)
