-- Names that the rows of a document use, by the tables of its program, and the faults that they are.
use Rattle.std.specs.Prelude.{ℕ, zero, suc, ◌+◌, Bool, true, false, if◌then◌else◌, List, [], ◌∷◌, ◌++◌, length, map, Option, Some, None, is_some}
use Rattle.qml_base.specs.declared.load_cause.LoadCause.TheVariants as cause
use Rattle.qml_base.specs.declared.numbers.Place.{Place}
use Rattle.qml_syntax.specs.Tree.{Units}
use Rattle.qml_types.specs.declared.kind.TypeNo.TheVariants as no
use Rattle.qml_types.specs.declared.kind.TypeRef.{TypeRef}
use Rattle.qml_types.specs.declared.kind.TypeRef.TheVariants.{Builtin, Document as OfDocument}
use Rattle.program_names.specs.declared.fault.Fault.{Fault}
use Rattle.program_names.specs.Names.{changed}
use Rattle.program_names.specs.Loaded.{Program}
use Rattle.load_faults.specs.Faults.{Faults, first_fault}
use Rattle.load_faults.specs.Duplicates.{declared_twice, second_ids, roles_twice}
use Rattle.load_passes.specs.declared.repeated.NameRow.{NameRow}
use Rattle.load_passes.specs.Rows.{repeated, owner_row}
use Rattle.document_members.specs.declared.member.Member.{Member}
use Rattle.document_members.specs.declared.member.Member.TheVariants as m
use Rattle.program_tables.specs.declared.building.UnitRow.{UnitRow}
use Rattle.program_tables.specs.declared.names.UnitNames.{UnitNames}
use Rattle.program_tables.specs.BuiltIn.{built_in}
use Rattle.program_tables.specs.Walk.{found_at}
use Rattle.program_tables.specs.Types.{any_of, base_in}

-- ---- the faults of a document

-- those of names that objects declare again, of second ids and of roles that are given twice
abbrev pub faults_by_names : Program → ℕ → Faults
faults_by_names p d = declared_twice p d ++ (second_ids p d ++ roles_twice p d)

abbrev pub first_in_document : Program → ℕ → Option Fault
first_in_document p d = first_fault (faults_by_names p d)

-- the first that is found in n documents from a number on, with the number
abbrev pub first_found : (ℕ → Option Fault) → ℕ → ℕ → Option (ℕ × Fault)
first_found f d zero = None
first_found f d (suc n) = elim (f d) [ Some x ↦ Some (d, x) | None ↦ first_found f (suc d) n ]

-- ---- row after row, each with whether it stands in a group

abbrev pub by_rows : (Bool → UnitRow → List NameRow) → List UnitRow → List Bool → List NameRow
by_rows f [] insides = []
by_rows f (r ∷ rest) [] = f false r ++ by_rows f rest []
by_rows f (r ∷ rest) (b ∷ bs) = f b r ++ by_rows f rest bs

-- ---- ids

abbrev pub id_in : Bool → Member → List (Units × Place)
id_in true x = []
id_in false (m.Id word name at) = ([], word) ∷ []
id_in false _ = []

abbrev pub id_of : Bool → UnitRow → List NameRow
id_of inside r = map (owner_row r.row.object) (id_in inside r.member)

-- ---- roles

abbrev pub value_under : Units → Place → List Units → List (Units × Place)
value_under n at [] = (n, at) ∷ []
value_under n at (k ∷ rest) = []

-- the name under which a member gives a value, if it is one
abbrev pub value_in : Bool → Member → List (Units × Place)
value_in true x = []
value_in false (m.Given path value) = value_under path.first path.at path.rest.items
value_in false _ = []

abbrev pub value_of : Bool → UnitRow → List NameRow
value_of inside r = map (owner_row r.row.object) (value_in inside r.member)

abbrev pub role_of : List UnitNames → ℕ → Bool → UnitRow → List NameRow
role_of us d inside r =
    if any_of (length us + 1) us (Builtin no.ListElement) (base_in us d r.row.object) then value_of inside r else []

-- ---- declared names

-- whether a type has a name
abbrev pub type_has : List UnitNames → TypeRef → Units → Bool
type_has us (Builtin t) name = is_some (built_in t name)
type_has us (OfDocument e) name = is_some (found_at (length us + 1) us e.0 0 name)

abbrev pub is_taken : List UnitNames → ℕ → ℕ → Units → Bool
is_taken us d o name = type_has us (base_in us d o) name

abbrev pub declared_row : List UnitNames → ℕ → ℕ → Units × Place → NameRow
declared_row us d o x = record { name = x.0; owner = o; at = x.1; taken = is_taken us d o x.0 }

abbrev pub property_names : Units → Place → List (Units × Place)
property_names name at = (name, at) ∷ (changed name, at) ∷ []

abbrev pub property_rows : List UnitNames → ℕ → ℕ → Units → Place → List NameRow
property_rows us d o name at = map (declared_row us d o) (property_names name at)

abbrev pub names_in : Bool → Member → List (Units × Place)
names_in true x = []
names_in false (m.Property q a k name at v) = property_names name at
names_in false (m.Alias q b name at target) = (name, at) ∷ []
names_in false (m.Signal q name at parameters) = (name, at) ∷ []
names_in false (m.Method q f name at) = (name, at) ∷ []
names_in false _ = []

abbrev pub declared_of : List UnitNames → ℕ → Bool → UnitRow → List NameRow
declared_of us d inside r = map (declared_row us d r.row.object) (names_in inside r.member)

-- ---- all

abbrev pub again : List NameRow → Faults
again rows = repeated cause.DuplicateName [] rows

abbrev pub faults_of_rows : List UnitNames → ℕ → List UnitRow → List Bool → Faults
faults_of_rows us d rows inside =
    again (by_rows (declared_of us d) rows inside) ++
    (again (by_rows id_of rows inside) ++ again (by_rows (role_of us d) rows inside))
