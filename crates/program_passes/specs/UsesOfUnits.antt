-- The documents that the documents of a program use, one document after another.
use Rattle.std.specs.Prelude.{◌≡◌, ℕ, List, map}
use Rattle.std.specs.declared.alloc.Global.{Global}
use Rattle.std.specs.declared.vec.Vec.{Vec}
use Rattle.program_names.specs.Paths.{directory_of}
use Rattle.program_names.specs.Reading.{File, Sources}
use Rattle.program_names.specs.Loaded.{Unit, Program, unit_of, program_of}
use Rattle.load_faults.specs.Cycles.{Use}
use Rattle.document_imports.specs.Imports.{row_of}
use Rattle.unit_cycles.specs.declared.uses.DocumentUse.{DocumentUse}
use Rattle.unit_cycles.specs.Uses.{uses_in}
use Rattle.program_types.specs.UsesNamed.{uses_named}

abbrev pub uses_of_unit : List File → Unit → List Use
uses_of_unit files unit = uses_named files (directory_of unit.file.path) (map (row_of (directory_of unit.file.path)) unit.imports) unit.uses

abbrev pub uses_of_file : List File → Sources → File → List Use
uses_of_file files sources file = uses_of_unit files (unit_of file (sources file))

-- those of each of some files of a program
abbrev pub uses_of_files : List File → Sources → List File → List (List Use)
uses_of_files files sources some = map (uses_of_file files sources) some

abbrev pub rows_in : List (Vec DocumentUse Global) → List (List Use)
rows_in rows = map uses_in rows
