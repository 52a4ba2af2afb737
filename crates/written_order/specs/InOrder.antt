-- Faults and names of a document's members in the order of writing.
use Rattle.std.specs.Prelude.{◌≡◌, ℕ, Bool, if◌then◌else◌, List, [], ◌∷◌, map, Option}
use Rattle.std.specs.List.{flat_map}
use Rattle.qml_base.specs.declared.numbers.Place.{Place}
use Rattle.qml_syntax.specs.Tree.{Units}
use Rattle.qml_types.specs.declared.kind.TypeNo.TheVariants as no
use Rattle.program_names.specs.declared.fault.Fault.{Fault}
use Rattle.program_names.specs.Names.{changed, is_in}
use Rattle.program_names.specs.Written.{WrittenMember, a_property, an_alias, a_signal, a_function, OwnedMember}
use Rattle.program_names.specs.Loaded.{Program, unit_at, object_at}
use Rattle.program_names.specs.Layers.{Named, type_names, is_type}
use Rattle.document_rows.specs.WrittenObjects.{members_of_object}
use Rattle.load_faults.specs.Faults.{Faults, first_from}
use Rattle.load_passes.specs.declared.repeated.NameRow.{NameRow}
use Rattle.load_passes.specs.Rows.{owner_row, id_word, role_name}

-- the members of each object are those of the rows with its number
abbrev pub HasMembers : Program → ℕ → Type 0
HasMembers p d = (o : ℕ) → (object_at p d o).members ≡ members_of_object o (unit_at p d).rows

-- whatever was told before, the first fault is the same
abbrev pub ToldAlike : Faults → Faults → Type 0
ToldAlike some others = (kept : Option Fault) → first_from kept some ≡ first_from kept others

-- ---- in the order of writing

-- what each member tells
abbrev pub faults_written : Program → ℕ → (ℕ → WrittenMember → Faults) → Faults
faults_written p d f = flat_map (λ (r : OwnedMember). f r.object r.member) (unit_at p d).rows

-- the names that each member uses
abbrev pub names_written : Program → ℕ → (ℕ → WrittenMember → List NameRow) → List NameRow
names_written p d f = flat_map (λ (r : OwnedMember). f r.object r.member) (unit_at p d).rows

-- ---- the names that a member of an object uses

-- an id of the object, whatever its name
abbrev pub id_rows : ℕ → WrittenMember → List NameRow
id_rows o m = map (owner_row o) (id_word m)

-- a role of a row
abbrev pub role_rows : Program → ℕ → ℕ → WrittenMember → List NameRow
role_rows p d o m = if is_type p d o no.ListElement then map (owner_row o) (role_name m) else []

-- the names that a member declares: a property has also that of the signal of its changes
abbrev pub names_declared : WrittenMember → List (Units × Place)
names_declared (a_property q a k n at v) = (n, at) ∷ (changed n, at) ∷ []
names_declared (an_alias q def n at target t) = (n, at) ∷ []
names_declared (a_signal q n at names) = (n, at) ∷ []
names_declared (a_function q f n at) = (n, at) ∷ []
names_declared _ = []

-- whether an object has a name by its type
abbrev pub has_by_type : Program → ℕ → ℕ → Units → Bool
has_by_type p d o name = is_in name (map (λ (n : Named). n.name) (type_names p d o))

abbrev pub declared_row : Program → ℕ → ℕ → Units × Place → NameRow
declared_row p d o x = record { name = x.0; owner = o; at = x.1; taken = has_by_type p d o x.0 }

abbrev pub declared_rows : Program → ℕ → ℕ → WrittenMember → List NameRow
declared_rows p d o m = map (declared_row p d o) (names_declared m)
