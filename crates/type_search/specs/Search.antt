-- The search of a type by its name, over rows of imports: from the last to the first, then in the document's own directory.
use Rattle.std.specs.Prelude.{◌≡◌, Bool, true, false, if◌then◌else◌, List, [], ◌∷◌, ◌++◌, reverse, codes, Option, Some, None}
use Rattle.std.specs.Option.{option_map, option_or, is_none}
use Rattle.std.specs.Str.{bytes_eq}
use Rattle.qml_syntax.specs.Tree.{Units}
use Rattle.qml_types.specs.Table.{offered, offers}
use Rattle.program_names.specs.Paths.{Path, joined_to}
use Rattle.program_names.specs.Utf8.{utf8_of}
use Rattle.program_names.specs.Types.{TypeFound, built_in, in_file}
use Rattle.program_names.specs.Reading.{Source as FileSource, no_file, Sources}
use Rattle.document_imports.specs.Imports.{WrittenImport, Source, a_module, a_directory, a_script}
use Rattle.type_search.specs.declared.search.TypeFound as code
use Rattle.type_search.specs.declared.search.TypeFound.TheVariants as found

-- which paths are files
abbrev pub Exists : Type 0
Exists = Path → Bool

abbrev pub found_value : code.TypeFound → TypeFound
found_value (found.BuiltIn t) = built_in t
found_value (found.InFile path) = in_file path.items

abbrev pub same_qualifier : Option Units → Option Units → Bool
same_qualifier None None = true
same_qualifier (Some a) (Some b) = bytes_eq a b
same_qualifier _ _ = false

abbrev pub file_in : Exists → Path → Units → Option TypeFound
file_in exists directory name =
    let path = joined_to directory (utf8_of name ++ codes ".qml") in
    if exists path then Some (in_file path) else None

abbrev pub source_type : Exists → Units → Source → Option TypeFound
source_type exists name (a_module m) = option_map built_in (offered offers m name)
source_type exists name (a_directory path) = file_in exists path name
source_type exists name (a_script path) = None

abbrev pub row_type : Exists → Option Units → Units → WrittenImport → Option TypeFound
row_type exists wanted name r = if same_qualifier wanted r.qualifier then source_type exists name r.source else None

abbrev pub rows_type : Exists → Option Units → Units → List WrittenImport → Option TypeFound
rows_type exists wanted name [] = None
rows_type exists wanted name (r ∷ rest) = option_or (row_type exists wanted name r) (rows_type exists wanted name rest)

abbrev pub own_type : Exists → Path → Option Units → Units → Option TypeFound
own_type exists here wanted name = if is_none wanted then file_in exists here name else None

abbrev pub searched : Exists → Path → List WrittenImport → Option Units → Units → Option TypeFound
searched exists here rows wanted name =
    option_or (rows_type exists wanted name (reverse rows)) (own_type exists here wanted name)

abbrev is_there : FileSource → Bool
is_there no_file = false
is_there _ = true

-- whether there is a document of a path
abbrev pub is_file : Sources → Exists
is_file sources path = is_there (sources (record { is_script = false; path = path }))

-- what was found is what this says for all sources that what is known allows
abbrev pub Finds : (Sources → Type 0) → Option code.TypeFound → (Exists → Option TypeFound) → Type 0
Finds allows f means = (sources : Sources) → allows sources → option_map found_value f ≡ means (is_file sources)

-- what is known now allows no sources that it didn't allow before
abbrev pub Knows : (Sources → Type 0) → (Sources → Type 0) → Type 0
Knows before now = (sources : Sources) → now sources → before sources
