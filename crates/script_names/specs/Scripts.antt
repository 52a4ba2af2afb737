-- What a qualifier finds among imports.
use Rattle.std.specs.Prelude.{◌≡◌, ℕ, true, if◌then◌else◌, List, [], ◌∷◌, Option, Some, None}
use Rattle.std.specs.Str.{bytes_eq}
use Rattle.std.specs.Option.{option_or, option_and_then}
use Rattle.qml_syntax.specs.Tree.{Units}
use Rattle.program_names.specs.Paths.{Path}
use Rattle.program_names.specs.Reading.{File}
use Rattle.name_table.specs.Named.{under}
use Rattle.document_imports.specs.Imports.{Source, a_module, a_directory, a_script, WrittenImport}
use Rattle.program_types.specs.Numbers.{number_in}

abbrev pub script_by : List File → Path → Option ℕ
script_by files path = number_in files (record { is_script = true; path = path })

abbrev pub script_number : List File → Source → Option ℕ
script_number files (a_script path) = script_by files path
script_number files (a_module name) = None
script_number files (a_directory path) = None

-- what one import brings under a qualifier
abbrev pub brought : List File → WrittenImport → Units → Option ℕ
brought files import name =
    option_and_then (λ q. if bytes_eq q name then script_number files import.source else None) import.qualifier

-- of two under one qualifier the later counts
abbrev pub script_in : List File → List WrittenImport → Units → Option ℕ
script_in files [] name = None
script_in files (import ∷ rest) name = option_or (script_in files rest name) (brought files import name)

-- ---- in a table

abbrev pub AreScripts : List File → List WrittenImport → List (List ℕ × ℕ) → Type 0
AreScripts files imports names = (name : Units) → under names name ≡ script_in files imports name

-- what an import brings comes behind what is there
abbrev pub Joins : List File → WrittenImport → List (List ℕ × ℕ) → List (List ℕ × ℕ) → Type 0
Joins files import old new = (name : Units) → under new name ≡ option_or (under old name) (brought files import name)
