-- Imports as rows: what they import, under which qualifier.
use Rattle.std.specs.Prelude.{ℕ, if◌then◌else◌, List, [], ◌∷◌, ◌++◌, map, Option, Some, None}
use Rattle.std.specs.Option.{option_to_list}
use Rattle.qml_base.specs.declared.numbers.Place.{Place}
use Rattle.qml_syntax.specs.declared.node.Node.{Node}
use Rattle.qml_syntax.specs.declared.node.Node.TheVariants as node
use Rattle.qml_syntax.specs.Tree.{Units, Import, import_module, import_text}
use Rattle.qml_syntax.specs.Nodes.{Table}
use Rattle.qml_syntax.specs.Places.{places_of, behind}
use Rattle.program_names.specs.Paths.{Path, joined_to}
use Rattle.program_names.specs.Utf8.{utf8_of}
use Rattle.program_names.specs.Types.{is_script_text, module_name}
use Rattle.type_uses.specs.declared.names.Name.{Name}
use Rattle.type_uses.specs.Uses.{nowhere, name_in, dot_in, node_at, nodes_at}
use Rattle.document_imports.specs.declared.imports.ImportSource.{ImportSource}
use Rattle.document_imports.specs.declared.imports.ImportSource.TheVariants as code
use Rattle.document_imports.specs.declared.imports.ImportRow.{ImportRow}

-- a module by its name, a directory, or a script file
pub data Source : Type 0 where
  a_module : Units → Source
  a_directory : Path → Source
  a_script : Path → Source

pub record WrittenImport : Type 0 where
  pub at : Place
  pub qualifier : Option Units
  pub source : Source

abbrev pub row : Place → Option Units → Source → WrittenImport
row p q s = record { at = p; qualifier = q; source = s }

abbrev pub text_source : Path → Units → Source
text_source here text =
    if is_script_text text then a_script (joined_to here (utf8_of text)) else a_directory (joined_to here (utf8_of text))

-- the row of an import in a document of a directory
abbrev pub row_of : Path → Import → WrittenImport
row_of here (import_module first p names v q c) = row p q (a_module (module_name first names))
row_of here (import_text text p q c) = row p q (text_source here text)

-- ---- rows in code

abbrev pub source_value : ImportSource → Source
source_value (code.Module name) = a_module name
source_value (code.Directory path) = a_directory path.items
source_value (code.Script path) = a_script path.items

abbrev pub row_value : ImportRow → WrittenImport
row_value r = row r.at r.qualifier (source_value r.source)

abbrev pub row_values : List ImportRow → List WrittenImport
row_values rows = map row_value rows

-- ---- rows of nodes

abbrev pub qualifier_in : Node → Option Units
qualifier_in (node.Qualifier q) = Some q
qualifier_in _ = None

abbrev pub first_qualifier : List Node → Option Units
first_qualifier [] = None
first_qualifier (x ∷ xs) = qualifier_in x

abbrev pub dotted : Option Units → Units
dotted None = []
dotted (Some n) = 46 ∷ n

-- the name of a module with what stands behind dots, and the qualifier
abbrev pub module_from : Units → List Node → Units × Option Units
module_from n [] = (n, None)
module_from n (x ∷ xs) = elim (dot_in x) [ Some m ↦ module_from (n ++ (46 ∷ m)) xs | None ↦ (n, qualifier_in x) ]

abbrev pub module_row : Name → Units × Option Units → WrittenImport
module_row first rest = row first.at rest.1 (a_module rest.0)

abbrev pub module_nodes : List Node → Option WrittenImport
module_nodes [] = None
module_nodes (x ∷ xs) = Some (module_row (name_in x) (module_from (name_in x).text xs))

abbrev pub file_in : Node → Name
file_in (node.File n p) = record { text = n; at = p }
file_in _ = record { text = []; at = nowhere }

abbrev pub file_nodes : Path → List Node → Option WrittenImport
file_nodes here [] = None
file_nodes here (x ∷ xs) = Some (row (file_in x).at (first_qualifier xs) (text_source here (file_in x).text))

abbrev pub row_by : Path → Node → List Node → Option WrittenImport
row_by here (node.ImportModule v c) xs = module_nodes xs
row_by here (node.ImportFile c) xs = file_nodes here xs
row_by here _ xs = None

abbrev pub row_at : Path → Table → ℕ → Option WrittenImport
row_at here t p = row_by here (node_at t p) (nodes_at t (places_of t p))

abbrev pub rows_at : Path → Table → List ℕ → List WrittenImport
rows_at here t [] = []
rows_at here t (p ∷ ps) = option_to_list (row_at here t p) ++ rows_at here t ps

-- a part with those behind it
abbrev pub from_part : Table → Option ℕ → List ℕ
from_part t None = []
from_part t (Some p) = p ∷ behind t p
