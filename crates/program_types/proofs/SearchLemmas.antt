-- The search of a type goes by which documents are there.
use Rattle.std.proofs.Common.{◌≡◌, ◌∙◌, ap, sym, refl, Bool, true, false, if◌then◌else◌, List, [], ◌∷◌, ◌++◌, reverse, Option, None, Some, Result, Ok, Err, IfOk}
use Rattle.std.specs.Prelude.{codes}
use Rattle.std.specs.Option.{option_map, option_and_then, option_or, is_none}
use Rattle.qml_base.specs.declared.memory.NoMemory.{NoMemory}
use Rattle.qml_syntax.specs.Tree.{Units}
use Rattle.qml_types.specs.declared.kind.TypeRef.{TypeRef}
use Rattle.program_names.specs.Paths.{Path, joined_to}
use Rattle.program_names.specs.Utf8.{utf8_of}
use Rattle.program_names.specs.Types.{in_file}
use Rattle.program_names.specs.Reading.{File, Source, Sources, no_file, too_large}
use Rattle.document_imports.specs.Imports.{WrittenImport, Source as ImportSource, a_module, a_directory, a_script}
use Rattle.type_search.specs.declared.search.TypeFound as code
use Rattle.type_search.specs.Search.{Exists, is_file, file_in, source_type, row_type, rows_type, own_type, searched, found_value, same_qualifier}
use Rattle.program_types.specs.Numbers.{is_document_in, type_of_found, type_in}

module _ (some other : Exists) (same : (path : Path) → some path ≡ other path) where
  file_alike : (directory : Path) (name : Units) → file_in some directory name ≡ file_in other directory name
  file_alike directory name =
      ap (λ b. if b then Some (in_file (joined_to directory (utf8_of name ++ codes ".qml"))) else None)
      (same (joined_to directory (utf8_of name ++ codes ".qml")))

  source_alike : (name : Units) (s : ImportSource) → source_type some name s ≡ source_type other name s
  source_alike name (a_module m) = refl
  source_alike name (a_directory path) = file_alike path name
  source_alike name (a_script path) = refl

  row_alike : (wanted : Option Units) (name : Units) (r : WrittenImport) → row_type some wanted name r ≡ row_type other wanted name r
  row_alike wanted name r = ap (λ o. if same_qualifier wanted r.qualifier then o else None) (source_alike name r.source)

  rows_alike : (wanted : Option Units) (name : Units) (rows : List WrittenImport) → rows_type some wanted name rows ≡ rows_type other wanted name rows
  rows_alike wanted name [] = refl
  rows_alike wanted name (r ∷ rows) =
      ap (λ o. option_or o (rows_type some wanted name rows)) (row_alike wanted name r) ∙
      ap (option_or (row_type other wanted name r)) (rows_alike wanted name rows)

  own_alike : (here : Path) (wanted : Option Units) (name : Units) → own_type some here wanted name ≡ own_type other here wanted name
  own_alike here wanted name = ap (λ o. if is_none wanted then o else None) (file_alike here name)

  pub searched_alike : (here : Path) (rows : List WrittenImport) (wanted : Option Units) (name : Units) → searched some here rows wanted name ≡ searched other here rows wanted name
  searched_alike here rows wanted name =
      ap (λ o. option_or o (own_type some here wanted name)) (rows_alike wanted name (reverse rows)) ∙
      ap (option_or (rows_type other wanted name (reverse rows))) (own_alike here wanted name)

-- ---- sources that have the documents of a program

abbrev pub sources_of : List File → Sources
sources_of files file = if is_document_in files file.path then too_large else no_file

abbrev is_there : Source → Bool
is_there no_file = false
is_there _ = true

pub allowed_sources : (files : List File) (path : Path) → is_file (sources_of files) path ≡ is_document_in files path
allowed_sources files path = by_test (is_document_in files path)
  where
    by_test : (b : Bool) → is_there (if b then too_large else no_file) ≡ b
    by_test true = refl
    by_test false = refl

pub found_in_program : (files : List File) (here : Path) (rows : List WrittenImport) (wanted : Option Units) (name : Units) (f : Option code.TypeFound)
    → option_map found_value f ≡ searched (is_file (sources_of files)) here rows wanted name
    → option_map found_value f ≡ searched (is_document_in files) here rows wanted name
found_in_program files here rows wanted name f e = e ∙ searched_alike (is_file (sources_of files)) (is_document_in files) (allowed_sources files) here rows wanted name

pub type_found_in : (files : List File) (here : Path) (rows : List WrittenImport) (wanted : Option Units) (name : Units) (r : Result (Option TypeRef) NoMemory) (found : code.TypeFound) (f : Option code.TypeFound) → f ≡ Some found
    → option_map found_value f ≡ searched (is_file (sources_of files)) here rows wanted name
    → IfOk r (λ t. t ≡ type_of_found files (found_value found)) → IfOk r (λ t. t ≡ type_in files here rows wanted name)
type_found_in files here rows wanted name (Err x) found f e told t = _
type_found_in files here rows wanted name (Ok o) found f e told t =
    t ∙ ap (λ g. option_and_then (type_of_found files) (option_map found_value g)) (sym e) ∙ ap (option_and_then (type_of_found files)) (found_in_program files here rows wanted name f told)

pub none_found_in : (files : List File) (here : Path) (rows : List WrittenImport) (wanted : Option Units) (name : Units) (f : Option code.TypeFound) → f ≡ None
    → option_map found_value f ≡ searched (is_file (sources_of files)) here rows wanted name
    → ◌≡◌ {A = Option TypeRef} None (type_in files here rows wanted name)
none_found_in files here rows wanted name f e told =
    ap (λ g. option_and_then (type_of_found files) (option_map found_value g)) (sym e) ∙ ap (option_and_then (type_of_found files)) (found_in_program files here rows wanted name f told)
