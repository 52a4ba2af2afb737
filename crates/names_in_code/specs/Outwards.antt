-- What names in the code of a document find by the tables of a program: ids, members, and the components around outwards.
use Rattle.std.specs.Prelude.{ℕ, zero, suc, ◌+◌, Bool, ◌&&◌, if◌then◌else◌, List, length, slice_get, Option, Some, None}
use Rattle.std.specs.Option.{option_map, option_or, option_and_then}
use Rattle.qml_syntax.specs.Tree.{Units}
use Rattle.qml_types.specs.declared.kind.TypeNo.TheVariants as no
use Rattle.qml_types.specs.declared.kind.TypeRef.TheVariants.{Builtin}
use Rattle.program_names.specs.Names.{is_handler_name}
use Rattle.document_rows.specs.declared.rows.ObjectRow.{ObjectRow}
use Rattle.program_tables.specs.declared.built_in.BuiltInName.{BuiltInName}
use Rattle.program_tables.specs.declared.built_in.BuiltInName.TheVariants as b
use Rattle.program_tables.specs.declared.names.Meaning.{Meaning}
use Rattle.program_tables.specs.declared.names.Meaning.TheVariants as m
use Rattle.program_tables.specs.declared.names.UnitNames.{UnitNames}
use Rattle.program_tables.specs.declared.building.UnitRow.{UnitRow}
use Rattle.program_tables.specs.Walk.{found_at}
use Rattle.program_tables.specs.Types.{any_of, base_in}
use Rattle.alias_tables.specs.Roots.{root_at}
use Rattle.alias_tables.specs.Ids.{id_found}
use Rattle.path_ends.specs.declared.aliases.UnitIds.{UnitIds}
use Rattle.names_in_code.specs.declared.found.Found.{Found}
use Rattle.names_in_code.specs.declared.found.Found.TheVariants as f

-- ---- members

-- a function of a Connections under a handler's name is that handler
abbrev pub is_connections : List UnitNames → ℕ → ℕ → Bool
is_connections us d o = any_of (length us + 1) us (Builtin no.Connections) (base_in us d o)

abbrev pub function_seen : List UnitNames → ℕ → ℕ → ℕ → Units → Found
function_seen us d o row n = if is_connections us d o && is_handler_name n then f.Member else f.Function d o row

-- the children of an Item have no name in code
abbrev pub built_in_seen : BuiltInName → Option Found
built_in_seen (b.Cell place k a) = Some f.Member
built_in_seen b.Changed = Some f.Member
built_in_seen (b.Signal t i) = Some f.Member
built_in_seen b.Method = Some f.Method
built_in_seen b.Children = None

abbrev pub seen : List UnitNames → Units → Meaning → Option Found
seen us n (m.BuiltIn x) = built_in_seen x
seen us n (m.Cell place k a) = Some f.Member
seen us n m.Changed = Some f.Member
seen us n (m.Signal d row) = Some f.Member
seen us n (m.Function d o row) = Some (function_seen us d o row n)
seen us n (m.Alias d o row) = Some f.Member

-- what an object has under a name
abbrev pub member_seen : List UnitNames → ℕ → ℕ → Units → Option Found
member_seen us d o n = option_and_then (seen us n) (found_at (length us + 1) us d o n)

-- ---- components

-- what is found in the component of an object: an id, what the scope object has, or a member of the root
abbrev pub found_here : List UnitNames → UnitIds → ℕ → Option Found → ℕ → Units → Option Found
found_here us ids d scope o n =
    let root = root_at ids.roots.items o in
    option_or (option_map f.Id (id_found ids.ids.items root n)) (option_or scope (member_seen us d root n))

-- the object in which one is written: that of its row
abbrev pub owner_by : List UnitRow → ObjectRow → Option ℕ
owner_by rows x = option_and_then (λ k. option_map (λ (r : UnitRow). r.row.object) (slice_get rows k)) x.row

abbrev pub owner_at : List ObjectRow → List UnitRow → ℕ → Option ℕ
owner_at objects rows o = option_and_then (owner_by rows) (slice_get objects o)

-- in the component of an object and those around it, of which there are so many at most; the scope object counts in the first alone
abbrev pub outwards : ℕ → List UnitNames → UnitIds → List ObjectRow → List UnitRow → ℕ → Option Found → ℕ → Units → Option Found
outwards zero us ids objects rows d scope o n = None
outwards (suc k) us ids objects rows d scope o n =
    option_or (found_here us ids d scope o n)
    (option_and_then (λ w. outwards k us ids objects rows d None w n)
    (owner_at objects rows (root_at ids.roots.items o)))
