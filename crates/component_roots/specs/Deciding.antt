-- What an object decides by what it is written as, by the tables of a program; nothing where it may depend on where aliases end.
use Rattle.std.specs.Prelude.{◌≡◌, ◌<◌, ℕ, suc, ◌+◌, nat_eq, Bool, true, false, ◌&&◌, not, if◌then◌else◌, List, [], ◌∷◌, map, length, slice_get, Option, Some, None}
use Rattle.std.specs.Option.{option_map, option_and_then, unwrap_or, is_some}
use Rattle.std.specs.declared.alloc.Global.{Global}
use Rattle.std.specs.declared.vec.Vec.{Vec}
use Rattle.qml_syntax.specs.Tree.{Units}
use Rattle.qml_types.specs.declared.kind.TypeNo.{TypeNo}
use Rattle.qml_types.specs.declared.kind.TypeNo.TheVariants as no
use Rattle.qml_types.specs.declared.kind.TypeRef.TheVariants.{Builtin}
use Rattle.qml_types.specs.declared.kind.PropKind.{PropKind}
use Rattle.qml_types.specs.declared.kind.PropKind.TheVariants as kind
use Rattle.qml_types.specs.declared.members.DefaultMember.TheVariants as member
use Rattle.qml_types.specs.Table.{TypeCell, cells_of}
use Rattle.program_names.specs.Written.{WrittenAs, as_root, as_child, as_value}
use Rattle.program_names.specs.Loaded.{Program, unit_at, object_at}
use Rattle.document_rows.specs.declared.rows.ObjectRow.{ObjectRow}
use Rattle.document_members.specs.declared.member.Member.{Member}
use Rattle.document_members.specs.declared.member.Member.TheVariants as m
use Rattle.document_members.specs.declared.member.NamePath.{NamePath}
use Rattle.program_tables.specs.declared.built_in.BuiltInName.{BuiltInName}
use Rattle.program_tables.specs.declared.built_in.BuiltInName.TheVariants as b
use Rattle.program_tables.specs.declared.names.Meaning.{Meaning}
use Rattle.program_tables.specs.declared.names.Meaning.TheVariants as means
use Rattle.program_tables.specs.declared.names.DefaultPlace.{DefaultPlace}
use Rattle.program_tables.specs.declared.names.DefaultPlace.TheVariants as place
use Rattle.program_tables.specs.declared.names.UnitNames.{UnitNames}
use Rattle.program_tables.specs.declared.building.UnitRow.{UnitRow}
use Rattle.program_tables.specs.Walk.{found_at}
use Rattle.program_tables.specs.Types.{base_in, any_of}
use Rattle.program_tables.specs.Defaults.{default_at}
use Rattle.program_tables.specs.Stands.{is_there}

-- whether a name begins as those of handlers do
abbrev pub begins_on : Units → Bool
begins_on (o ∷ n ∷ rest) = nat_eq o 111 && nat_eq n 110
begins_on _ = false

abbrev pub is_component : PropKind → Bool
is_component kind.Component = true
is_component _ = false

-- an object of a property of this kind: a Component is made around it where it is none
abbrev pub of_kind : List UnitNames → ℕ → ℕ → PropKind → Bool
of_kind us d o k = is_component k && not (any_of (length us + 1) us (Builtin no.Component) (base_in us d o))

abbrev pub by_built_in : List UnitNames → ℕ → ℕ → BuiltInName → Option Bool
by_built_in us d o (b.Cell place k a) = Some (of_kind us d o k)
by_built_in us d o _ = None

abbrev pub by_meaning : List UnitNames → ℕ → ℕ → Option Meaning → Option Bool
by_meaning us d o (Some (means.Cell place k a)) = Some (of_kind us d o k)
by_meaning us d o (Some (means.BuiltIn x)) = by_built_in us d o x
by_meaning us d o _ = None

-- under a name of the object w
abbrev pub by_name : List UnitNames → ℕ → ℕ → ℕ → Units → Option Bool
by_name us d o w word =
    if begins_on word then None else by_meaning us d o (found_at (length us + 1) us d w word)

abbrev pub by_value : List UnitNames → ℕ → ℕ → ℕ → Units → Bool → Option Bool
by_value us d o w word has = if has then by_name us d o w word else None

abbrev pub name_of_place : TypeNo → ℕ → Units
name_of_place t n = unwrap_or (option_map (λ (cell : TypeCell). cell.name) (slice_get (cells_of t) n)) []

-- a child of the object w
abbrev pub by_default : List UnitNames → ℕ → ℕ → ℕ → Option DefaultPlace → Option Bool
by_default us d o w None = Some false
by_default us d o w (Some (place.Declared u row)) = None
by_default us d o w (Some (place.BuiltIn t (member.Property n))) = by_name us d o w (name_of_place t n)
by_default us d o w (Some (place.BuiltIn t member.Children)) = Some false
by_default us d o w (Some (place.BuiltIn t member.Held)) = Some true
by_default us d o w (Some (place.BuiltIn t member.Rows)) = Some false

-- under a path that is a name alone, which isn't in a group
abbrev pub by_path : List UnitNames → ℕ → ℕ → ℕ → Option ℕ → Units → List Units → Option Bool
by_path us d o w None word [] = by_name us d o w word
by_path us d o w _ word _ = None

-- in or as the member of a row
abbrev pub by_member : List UnitNames → ℕ → ℕ → ℕ → Option ℕ → Member → Option Bool
by_member us d o w group (m.Property q a k n at v) = by_value us d o w n (is_some v)
by_member us d o w group (m.Given path value) = by_path us d o w group path.first path.rest.items
by_member us d o w group (m.Child c) = by_default us d o w (default_at (length us + 1) us d w)
by_member us d o w group _ = None

abbrev pub by_row : List UnitNames → ℕ → ℕ → UnitRow → Option Bool
by_row us d o r = by_member us d o r.row.object r.row.group r.member

-- the root begins none
abbrev pub decision : List UnitNames → ℕ → ℕ → List UnitRow → Option ℕ → Option Bool
decision us d o rows None = Some false
decision us d o rows (Some k) = option_and_then (by_row us d o) (slice_get rows k)

abbrev pub decisions : List UnitNames → ℕ → List UnitRow → ℕ → List ObjectRow → List (Option Bool)
decisions us d rows o [] = []
decisions us d rows o (x ∷ rest) = decision us d o rows x.row ∷ decisions us d rows (suc o) rest

-- ---- of a program

abbrev pub first_name : NamePath → List Units
first_name path = path.first ∷ path.rest.items

-- what an object is written as that is in or of the member of a row, outside groups
abbrev pub SaysRole : WrittenAs → ℕ → Option ℕ → Member → Type 0
SaysRole role w group (m.Property q a k n at (Some v)) = role ≡ as_value w (n ∷ [])
SaysRole role w None (m.Given path value) = role ≡ as_value w (first_name path)
SaysRole role w group (m.Child c) = role ≡ as_child w
SaysRole role w group _ = Unit {0}

abbrev pub SaysRow : Program → ℕ → ℕ → UnitRow → Type 0
SaysRow p d o r = SaysRole (object_at p d o).role r.row.object r.row.group r.member

-- what is found of all objects are their decisions
abbrev pub AreDecisions : Option (Vec Bool Global) → List (Option Bool) → Type 0
AreDecisions None all = Unit {0}
AreDecisions (Some found) all = map Some found.items ≡ all

-- what an object is written as: the root, or what its row says
abbrev pub ObjectSays : Program → List UnitNames → ℕ → List UnitRow → ℕ → Option ℕ → Type 0
ObjectSays p us d rows o None = (object_at p d o).role ≡ as_root
ObjectSays p us d rows o (Some k) = (r : UnitRow) → slice_get rows k ≡ Some r → SaysRow p d o r × (is_there us d r.row.object ≡ true)

-- these are the objects of a document, each in the tables
pub record ObjectsSay (p : Program) (us : List UnitNames) (d : ℕ) (rows : List UnitRow) (objects : List ObjectRow) : Type 0 where
  pub long : length objects ≡ length (unit_at p d).objects
  pub there : (o : ℕ) → o < length (unit_at p d).objects → is_there us d o ≡ true
  pub says : (o : ℕ) (x : ObjectRow) → slice_get objects o ≡ Some x → ObjectSays p us d rows o x.row
