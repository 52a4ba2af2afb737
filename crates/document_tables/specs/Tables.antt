-- Tables of a program.
use Rattle.std.specs.Prelude.{◌≡◌, ◌<◌, ◌⊎◌, ℕ, Bool, true, false, List, [], ◌∷◌, length, map, slice_get, Some, None}
use Rattle.program_names.specs.Reading.{File, Source, Sources, is_document}
use Rattle.program_names.specs.Loaded.{Unit as AUnit, Program, unit_of, unit_at, program_of}
use Rattle.qml_syntax.specs.Tree.{document}
use Rattle.qml_syntax.specs.Nodes.{Table}
use Rattle.document_rows.specs.declared.rows.ObjectRow.{ObjectRow}
use Rattle.document_rows.specs.Entries.{AreRows}
use Rattle.document_members.specs.Members.{ReadsMembers}
use Rattle.file_sources.specs.declared.content.Content.{Content}
use Rattle.file_sources.specs.declared.content.Content.TheVariants as content
use Rattle.file_sources.specs.Contents.{Shows}
use Rattle.program_tables.specs.declared.building.UnitRow.{UnitRow}
use Rattle.program_tables.specs.declared.names.UnitNames.{UnitNames}
use Rattle.program_tables.specs.RowsSay.{UnitSays, row_of, member_of_row}
use Rattle.program_tables.specs.Stands.{Stands}
use Rattle.program_types.specs.Numbers.{files_in}
use Rattle.document_tables.specs.declared.program.DocumentTable.{DocumentTable}
use Rattle.document_tables.specs.declared.program.ProgramTables.{ProgramTables}
use Rattle.document_tables.specs.Groups.{insides}

-- the rows of a document say its members, as its tree has them, and its objects are there with what they declare; a file that is no document
-- counts as one object, with no name of a type and no members
pub record Tells (p : Program) (d : ℕ) (t : Table) (names : UnitNames) (rows : List UnitRow) (inside : List Bool) : Type 0 where
  pub unit : UnitSays p d names
  pub tree : unit.tree ≡ t
  pub made : unit.rows ≡ rows
  pub groups : inside ≡ insides [] rows
  pub there : (o : ℕ) → o < length (unit_at p d).objects → o < length names.objects.items
  pub root : 0 < length names.objects.items

-- the rows of objects, and of members as they are read, are those of a document
pub record OfDocument (unit : AUnit) (t : Table) (objects : List ObjectRow) (rows : List UnitRow) : Type 0 where
  pub file : File
  pub are : AreRows t objects (map row_of rows)
  pub same : unit ≡ unit_of file (is_document (document are.imports are.root))
  pub read : ReadsMembers t (map row_of rows) (map member_of_row rows)

-- or a file is no document, and counts as one object
pub record OfNothing (unit : AUnit) (objects : List ObjectRow) (rows : List UnitRow) : Type 0 where
  pub none : unit.objects ≡ []
  pub no_members : unit.rows ≡ []
  pub alone : objects ≡ record { node = 0; row = None } ∷ []
  pub no_rows : rows ≡ []

abbrev pub IsWritten : AUnit → Table → List ObjectRow → List UnitRow → Type 0
IsWritten unit t objects rows = OfDocument unit t objects rows ⊎ OfNothing unit objects rows

-- wherever a file stands in a program of these files, its table tells it
pub record TableOf (files : List File) (unit : AUnit) (t : Table) (names : UnitNames) (objects : List ObjectRow) (rows : List UnitRow) (inside : List Bool) : Type 0 where
  pub tells : (p : Program) (d : ℕ) → files_in p ≡ files → unit_at p d ≡ unit → Tells p d t names rows inside
  pub written : IsWritten unit t objects rows
  pub long : length objects ≡ length names.objects.items

-- the tree of a document
abbrev pub tree_in : Content → Table
tree_in (content.Document t) = t
tree_in _ = []

abbrev pub is_nothing : Source → Bool
is_nothing (is_document d) = false
is_nothing _ = true

-- a file's table, and what the file is
abbrev pub FileMade : List File → Sources → File → UnitNames → DocumentTable → Type 0
FileMade files sources file names x =
    TableOf files (unit_of file (sources file)) (tree_in x.content.value) names x.objects.items x.rows.items x.inside.items × Shows x.content.value (sources file)

-- of some files of a program, one after another
abbrev pub AllMade : List File → Sources → List File → List UnitNames → List DocumentTable → Type 0
AllMade files sources [] [] [] = Unit {0}
AllMade files sources (f ∷ fs) (n ∷ ns) (x ∷ xs) = FileMade files sources f n x × AllMade files sources fs ns xs
AllMade files sources [] [] (x ∷ xs) = ⊥
AllMade files sources [] (n ∷ ns) xs = ⊥
AllMade files sources (f ∷ fs) [] xs = ⊥
AllMade files sources (f ∷ fs) (n ∷ ns) [] = ⊥

-- the names tables stand for the program, and each document's table tells it
pub record TellProgram (p : Program) (tables : ProgramTables) : Type 0 where
  pub stands : Stands p tables.names.units.items
  pub long : length tables.documents.items ≡ length p
  pub tells : (d : ℕ) (x : DocumentTable) → slice_get tables.documents.items d ≡ Some x →
      (names : UnitNames) × (slice_get tables.names.units.items d ≡ Some names) ×
      Tells p d (tree_in x.content.value) names x.rows.items x.inside.items
  pub written : (d : ℕ) (x : DocumentTable) → slice_get tables.documents.items d ≡ Some x →
      IsWritten (unit_at p d) (tree_in x.content.value) x.objects.items x.rows.items
  pub objects : (d : ℕ) (x : DocumentTable) (names : UnitNames) → slice_get tables.documents.items d ≡ Some x →
      slice_get tables.names.units.items d ≡ Some names → length x.objects.items ≡ length names.objects.items

-- the tables are those of the program of these files, with what each file is
pub record AreTables (sources : Sources) (files : List File) (tables : ProgramTables) : Type 0 where
  pub program : TellProgram (program_of sources files) tables
  pub shown : (d : ℕ) (x : DocumentTable) (file : File) → slice_get tables.documents.items d ≡ Some x →
      slice_get files d ≡ Some file → Shows x.content.value (sources file)
