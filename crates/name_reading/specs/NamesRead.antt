-- How the names of a document are read: the first import of a module that isn't there, then the first use of a type that
-- is nowhere, and else the files that are mentioned.
use Rattle.std.specs.Prelude.{◌≡◌, true, false, if◌then◌else◌, List, [], ◌∷◌, ◌++◌, Option, Some, None}
use Rattle.std.specs.Option.{option_to_list}
use Rattle.std.specs.List.{filter_map}
use Rattle.qml_base.specs.declared.numbers.Place.{Place}
use Rattle.qml_base.specs.declared.load_cause.LoadCause.TheVariants as cause
use Rattle.qml_types.specs.Table.{offers, is_offering}
use Rattle.program_names.specs.declared.fault.Fault.{Fault}
use Rattle.program_names.specs.Paths.{Path}
use Rattle.program_names.specs.Types.{TypeUse, uses_type, misnames_type, TypeFound, built_in, in_file}
use Rattle.program_names.specs.Reading.{File, Sources, fault, first_of, ReadFile, refused_by, mentioning}
use Rattle.document_imports.specs.Imports.{WrittenImport, Source, a_module, a_directory, a_script}
use Rattle.type_search.specs.Search.{Exists, is_file, searched}
use Rattle.read_order.specs.declared.file.FileRead.{FileRead}
use Rattle.read_order.specs.Order.{read_of}

-- ---- modules

abbrev pub fault_of_source : Place → Source → Option Fault
fault_of_source p (a_module name) = if is_offering offers name then None else Some (fault p cause.UnknownModule)
fault_of_source p (a_directory path) = None
fault_of_source p (a_script path) = None

abbrev pub fault_of_row : WrittenImport → Option Fault
fault_of_row r = fault_of_source r.at r.source

abbrev pub module_fault : List WrittenImport → Option Fault
module_fault rows = first_of (filter_map fault_of_row rows)

-- ---- scripts

abbrev pub script_of_source : Source → Option File
script_of_source (a_module name) = None
script_of_source (a_directory path) = None
script_of_source (a_script path) = Some (record { is_script = true; path = path })

abbrev pub script_of_row : WrittenImport → Option File
script_of_row r = script_of_source r.source

abbrev pub scripts_of : List WrittenImport → List File
scripts_of rows = filter_map script_of_row rows

-- ---- types

abbrev pub found_use : Exists → Path → List WrittenImport → TypeUse → Option TypeFound
found_use exists here rows (uses_type p q n) = searched exists here rows q n
found_use exists here rows (misnames_type p) = None

abbrev pub place_of_use : TypeUse → Place
place_of_use (uses_type p q n) = p
place_of_use (misnames_type p) = p

abbrev pub file_of : TypeFound → Option File
file_of (built_in t) = None
file_of (in_file path) = Some (record { is_script = false; path = path })

-- behind what is mentioned before these uses
abbrev pub uses_read : Exists → Path → List WrittenImport → List File → List TypeUse → ReadFile
uses_read exists here rows before [] = mentioning before
uses_read exists here rows before (u ∷ us) = elim (found_use exists here rows u) [
  | None ↦ refused_by (fault (place_of_use u) cause.UnknownType)
  | Some f ↦ uses_read exists here rows (before ++ option_to_list (file_of f)) us
]

abbrev pub names_by : Option Fault → ReadFile → ReadFile
names_by (Some f) how = refused_by f
names_by None how = how

abbrev pub names_read : Exists → Path → List WrittenImport → List TypeUse → ReadFile
names_read exists here rows uses = names_by (module_fault rows) (uses_read exists here rows (scripts_of rows) uses)

-- reading has come to what this says for all sources that what is known allows
abbrev pub ReadsAs : (Sources → Type 0) → FileRead → (Exists → ReadFile) → Type 0
ReadsAs allows how means = (sources : Sources) → allows sources → read_of how ≡ means (is_file sources)
