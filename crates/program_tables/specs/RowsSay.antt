-- When the rows of a document say its members.
use Rattle.std.specs.Prelude.{◌≡◌, ℕ, List, [], ◌∷◌, ◌++◌, map, slice_get, Some}
use Rattle.qml_syntax.specs.Tree.{Units}
use Rattle.qml_syntax.specs.Nodes.{Table}
use Rattle.qml_syntax.specs.Places.{part_at}
use Rattle.qml_types.specs.declared.kind.PropKind.{PropKind}
use Rattle.program_names.specs.Written.{OwnedMember}
use Rattle.program_names.specs.Loaded.{Program, unit_at, object_at, type_of_object, kind_named}
use Rattle.document_rows.specs.declared.rows.MemberRow.{MemberRow}
use Rattle.document_rows.specs.WholePaths.{path_at}
use Rattle.document_rows.specs.WrittenObjects.{members_of_object}
use Rattle.document_members.specs.declared.member.Member.{Member}
use Rattle.document_members.specs.declared.member.Member.TheVariants as m
use Rattle.document_members.specs.Parts.{kind_in}
use Rattle.document_members.specs.Members.{written_in, added_by}
use Rattle.qml_types.specs.declared.kind.TypeRef.{TypeRef}
use Rattle.program_tables.specs.declared.names.UnitNames.{UnitNames}
use Rattle.program_tables.specs.declared.building.UnitRow.{UnitRow}
use Rattle.program_tables.specs.Building.{nothing_declared, rows_added}

-- the kind that is kept of a property is the one that its document names
abbrev pub SaysKind : Program → ℕ → Table → Member → PropKind → Type 0
SaysKind p u t (m.Property q a k n at v) kind = kind ≡ kind_named p u (kind_in (part_at t k))
SaysKind p u t _ kind = Unit {0}

-- a row of the tree t says this member, where these are the names of the groups around it
pub record SaysRow (p : Program) (u : ℕ) (t : Table) (before : List Units) (r : UnitRow) (w : OwnedMember) : Type 0 where
  pub object : r.row.object ≡ w.object
  pub member : written_in t before r.row.first r.member ≡ w.member
  pub kind : SaysKind p u t r.member r.kind

-- these rows, behind others whose paths these are, say these members
abbrev pub RowsSay : Program → ℕ → Table → List (List Units) → List UnitRow → List OwnedMember → Type 0
RowsSay p u t paths [] [] = Unit {0}
RowsSay p u t paths (r ∷ rs) (w ∷ ws) =
    SaysRow p u t (path_at paths r.row.group) r w ×
    RowsSay p u t (paths ++ (path_at paths r.row.group ++ added_by r.member) ∷ []) rs ws
RowsSay p u t paths [] (w ∷ ws) = ⊥
RowsSay p u t paths (r ∷ rs) [] = ⊥

abbrev pub row_of : UnitRow → MemberRow
row_of r = r.row

abbrev pub member_of_row : UnitRow → Member
member_of_row r = r.member

abbrev pub SaysKinds : Program → ℕ → Table → List UnitRow → Type 0
SaysKinds p u t [] = Unit {0}
SaysKinds p u t (r ∷ rs) = SaysKind p u t r.member r.kind × SaysKinds p u t rs

-- a document's table was built from rows that say its members, and of the types of its objects
pub record UnitSays (p : Program) (u : ℕ) (unit : UnitNames) : Type 0 where
  pub tree : Table
  pub bases : List TypeRef
  pub rows : List UnitRow
  pub built : unit.objects.items ≡ rows_added 0 [] rows (map nothing_declared bases)
  pub says : RowsSay p u tree [] rows (unit_at p u).rows
  pub members : (o : ℕ) → (object_at p u o).members ≡ members_of_object o (unit_at p u).rows
  pub types : (o : ℕ) (b : TypeRef) → slice_get bases o ≡ Some b → b ≡ type_of_object p u o
