-- What the objects of a document declare, row after row.
use Rattle.std.specs.Prelude.{ℕ, zero, suc, ◌+◌, Bool, true, false, ◌||◌, if◌then◌else◌, List, [], ◌∷◌, ◌++◌, slice_get, Option, Some, None}
use Rattle.std.specs.Option.{unwrap_or}
use Rattle.name_table.specs.Named.{put}
use Rattle.qml_syntax.specs.Tree.{Units}
use Rattle.qml_syntax.specs.declared.contextual.Adjective.{Adjective}
use Rattle.qml_syntax.specs.declared.contextual.Adjective.TheVariants as adjective
use Rattle.qml_types.specs.declared.kind.TypeRef.{TypeRef}
use Rattle.qml_types.specs.declared.kind.PropKind.{PropKind}
use Rattle.program_names.specs.Names.{changed}
use Rattle.program_names.specs.Layers.{access_of}
use Rattle.document_members.specs.declared.member.Member.{Member}
use Rattle.document_members.specs.declared.member.Member.TheVariants as m
use Rattle.program_tables.specs.declared.names.Declared.{Declared}
use Rattle.program_tables.specs.declared.names.Declared.TheVariants as d
use Rattle.program_tables.specs.declared.names.ObjectNames.{ObjectNames}
use Rattle.program_tables.specs.declared.building.UnitRow.{UnitRow}

abbrev pub nothing_declared : TypeRef → ObjectNames
nothing_declared t = record { base = t; names = []; cells = 0; default = None }

-- ---- one row

abbrev pub with_name : Units → Declared → ObjectNames → ObjectNames
with_name name what x = record x { names = put x.names name what }

abbrev pub with_default : Bool → ℕ → ObjectNames → ObjectNames
with_default b i x = record x { default = if b then Some i else x.default }

abbrev pub with_alias : ℕ → Bool → Units → ObjectNames → ObjectNames
with_alias i b name x = with_default b i (with_name name (d.Alias i) x)

abbrev pub is_default : Adjective → Bool
is_default adjective.Default = true
is_default _ = false

abbrev pub one_more_cell : ObjectNames → ObjectNames
one_more_cell x = record x { cells = x.cells + 1 }

abbrev pub with_property : ℕ → Adjective → PropKind → Units → ObjectNames → ObjectNames
with_property i a kind name x =
    with_default (is_default a) i
    (one_more_cell (with_name (changed name) d.Changed (with_name name (d.Cell x.cells kind (access_of a)) x)))

-- what the row of a number declares, which isn't in a group
abbrev pub declared : ℕ → PropKind → Member → ObjectNames → ObjectNames
declared i kind (m.Property p a k name at v) x = with_property i a kind name x
declared i kind (m.Alias p b name at target) x = with_alias i b name x
declared i kind (m.Signal p name at parameters) x = with_name name (d.Signal i) x
declared i kind (m.Method p f name at) x = with_name name (d.Function i) x
declared i kind _ x = x

-- ---- all rows

abbrev pub is_group : Member → Bool
is_group (m.Group path) = true
is_group _ = false

-- whether a row stands in a group
abbrev pub is_inside : List Bool → Option ℕ → Bool
is_inside grouping None = false
is_inside grouping (Some k) = unwrap_or (slice_get grouping k) false

abbrev pub changed_at : List ObjectNames → ℕ → (ObjectNames → ObjectNames) → List ObjectNames
changed_at [] o f = []
changed_at (x ∷ xs) zero f = f x ∷ xs
changed_at (x ∷ xs) (suc o) f = x ∷ changed_at xs o f

abbrev pub row_added : Bool → ℕ → UnitRow → List ObjectNames → List ObjectNames
row_added true i r xs = xs
row_added false i r xs = changed_at xs r.row.object (declared i r.kind r.member)

-- the rows from number i on
abbrev pub rows_added : ℕ → List Bool → List UnitRow → List ObjectNames → List ObjectNames
rows_added i grouping [] xs = xs
rows_added i grouping (r ∷ rest) xs =
    let inside = is_inside grouping r.row.group in
    rows_added (suc i) (grouping ++ (inside || is_group r.member) ∷ []) rest (row_added inside i r xs)
