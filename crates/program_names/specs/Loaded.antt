-- A program: the documents and scripts that were read, each by its number, with the types that their names find.
use Rattle.std.specs.Prelude.{ℕ, suc, true, false, if◌then◌else◌, List, [], ◌∷◌, map, slice_get, Option, Some, None}
use Rattle.std.specs.Option.{option_map, option_and_then, unwrap_or, is_some}
use Rattle.qml_base.specs.declared.numbers.UnitNo.{UnitNo}
use Rattle.qml_syntax.specs.Tree.{Units, Import, document, script, Function, Kind, kind_var, kind_name, kind_list, TypeName, own_type, type_of}
use Rattle.qml_types.specs.declared.kind.TypeNo.TheVariants as no
use Rattle.qml_types.specs.declared.kind.TypeRef.{TypeRef}
use Rattle.qml_types.specs.declared.kind.TypeRef.TheVariants.{Builtin, Document as OfDocument}
use Rattle.qml_types.specs.declared.kind.PropKind.{PropKind}
use Rattle.qml_types.specs.declared.kind.PropKind.TheVariants as kind
use Rattle.qml_types.specs.Kinds.{basic_kind, kind_of_type}
use Rattle.program_names.specs.Paths.{Path, directory_of}
use Rattle.program_names.specs.Types.{TypeUse, type_uses, TypeFound, built_in, in_file, found_type}
use Rattle.program_names.specs.Written.{WrittenObject, as_root, objects_of, OwnedMember, rows_of}
use Rattle.program_names.specs.Reading.{File, Source, is_document, is_script, Sources, same_file}

-- one of them: its file, its imports, its objects, their members in the order of writing, and the types that it uses; of
-- a script the functions
pub record Unit : Type 0 where
  pub file : File
  pub imports : List Import
  pub objects : List WrittenObject
  pub rows : List OwnedMember
  pub uses : List TypeUse
  pub functions : List Function

abbrev pub Program : Type 0
Program = List Unit

abbrev empty_unit : File → Unit
empty_unit file = record { file = file; imports = []; objects = []; rows = []; uses = []; functions = [] }

abbrev pub unit_of : File → Source → Unit
unit_of file (is_document (document imports root)) = record {
  file = file;
  imports = imports;
  objects = objects_of as_root 0 root;
  rows = rows_of 0 root;
  uses = type_uses root;
  functions = [];
}
unit_of file (is_script (script library functions)) = record (empty_unit file) { functions = functions }
unit_of file _ = empty_unit file

abbrev pub program_of : Sources → List File → Program
program_of sources files = map (λ file. unit_of file (sources file)) files

abbrev pub no_unit : Unit
no_unit = empty_unit (record { is_script = true; path = [] })

abbrev pub unit_at : Program → ℕ → Unit
unit_at p d = unwrap_or (slice_get p d) no_unit

abbrev pub no_object : WrittenObject
no_object = record { type = own_type [] (record { line = 0; column = 0 }); role = as_root; members = [] }

-- the object of a number in the document of a number
abbrev pub object_at : Program → ℕ → ℕ → WrittenObject
object_at p d o = unwrap_or (slice_get (unit_at p d).objects o) no_object

abbrev number_from : ℕ → Program → File → Option ℕ
number_from n [] file = None
number_from n (unit ∷ rest) file = if same_file unit.file file then Some n else number_from (suc n) rest file

-- the number of a file
abbrev pub number_of : Program → File → Option ℕ
number_of p file = number_from 0 p file

abbrev document_at : Program → Path → Option ℕ
document_at p path = number_of p (record { is_script = false; path = path })

-- ---- the types that names find

abbrev unit_no : ℕ → UnitNo
unit_no n = record { 0 = n }

abbrev type_found : Program → TypeFound → Option TypeRef
type_found p (built_in t) = Some (Builtin t)
type_found p (in_file path) = option_map (λ n. OfDocument (unit_no n)) (document_at p path)

-- the type that a name finds in a document
abbrev pub type_named : Program → ℕ → Option Units → Units → Option TypeRef
type_named p d q n =
    let unit = unit_at p d in
    option_and_then (type_found p)
    (found_type (λ path. is_some (document_at p path)) (directory_of unit.file.path) unit.imports q n)

abbrev pub type_named_by : Program → ℕ → TypeName → Option TypeRef
type_named_by p d (own_type n at) = type_named p d None n
type_named_by p d (type_of q at n) = type_named p d (Some q) n

-- the type of an object as written
abbrev pub type_of_object : Program → ℕ → ℕ → TypeRef
type_of_object p d o = unwrap_or (type_named_by p d (object_at p d o).type) (Builtin no.QtObject)

-- ---- kinds of properties

abbrev type_or_var : Option TypeRef → PropKind
type_or_var None = kind.Var
type_or_var (Some t) = kind_of_type t

abbrev list_or_var : Option TypeRef → PropKind
list_or_var None = kind.Var
list_or_var (Some t) = kind.List t

-- the kind that is written in a document; one that names no type has a fault of its own and counts as `var`
abbrev pub kind_named : Program → ℕ → Kind → PropKind
kind_named p d kind_var = kind.Var
kind_named p d (kind_list n at) = list_or_var (type_named p d None n)
kind_named p d (kind_name n at []) = unwrap_or (basic_kind n) (type_or_var (type_named p d None n))
kind_named p d (kind_name n at (m ∷ ns)) = type_or_var (type_named p d (Some n) m)
