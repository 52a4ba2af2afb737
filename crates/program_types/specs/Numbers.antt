-- The files of a program, each by its number, and the types that names find by them.
use Rattle.std.specs.Prelude.{ℕ, suc, Bool, false, if◌then◌else◌, List, [], ◌∷◌, map, Option, Some, None, is_some}
use Rattle.std.specs.Option.{option_map, option_and_then}
use Rattle.qml_syntax.specs.Tree.{Units}
use Rattle.qml_types.specs.declared.kind.TypeRef.{TypeRef}
use Rattle.qml_types.specs.declared.kind.TypeRef.TheVariants.{Builtin, Document as OfDocument}
use Rattle.program_names.specs.Paths.{Path}
use Rattle.program_names.specs.Types.{TypeFound, built_in, in_file}
use Rattle.program_names.specs.Reading.{File, same_file}
use Rattle.program_names.specs.Loaded.{Unit, Program}
use Rattle.document_imports.specs.Imports.{WrittenImport}
use Rattle.type_search.specs.Search.{searched}

abbrev pub files_in : Program → List File
files_in p = map (λ (unit : Unit). unit.file) p

abbrev pub number_from : ℕ → List File → File → Option ℕ
number_from n [] file = None
number_from n (own ∷ rest) file = if same_file own file then Some n else number_from (suc n) rest file

-- the number of a file: that of the first that it is
abbrev pub number_in : List File → File → Option ℕ
number_in files file = number_from 0 files file

abbrev pub document_in : List File → Path → Option ℕ
document_in files path = number_in files (record { is_script = false; path = path })

-- whether a path is that of a document of the program
abbrev pub is_document_in : List File → Path → Bool
is_document_in files path = is_some (document_in files path)

abbrev pub document_type : ℕ → TypeRef
document_type n = OfDocument (record { 0 = n })

abbrev pub type_of_found : List File → TypeFound → Option TypeRef
type_of_found files (built_in t) = Some (Builtin t)
type_of_found files (in_file path) = option_map document_type (document_in files path)

-- the type that a name finds in a document of a directory with these imports
abbrev pub type_in : List File → Path → List WrittenImport → Option Units → Units → Option TypeRef
type_in files here rows qualifier name =
    option_and_then (type_of_found files) (searched (is_document_in files) here rows qualifier name)
