-- The documents that a document uses as types.
use Rattle.std.specs.Prelude.{List, Option, Some, None}
use Rattle.std.specs.List.{filter_map}
use Rattle.qml_base.specs.declared.numbers.Place.{Place}
use Rattle.qml_types.specs.declared.kind.TypeRef.{TypeRef}
use Rattle.qml_types.specs.declared.kind.TypeRef.TheVariants.{Document as OfDocument}
use Rattle.program_names.specs.Paths.{Path}
use Rattle.program_names.specs.Types.{TypeUse, uses_type, misnames_type}
use Rattle.program_names.specs.Reading.{File}
use Rattle.load_faults.specs.Cycles.{Use}
use Rattle.document_imports.specs.Imports.{WrittenImport}
use Rattle.program_types.specs.Numbers.{type_in}

abbrev pub used_by : Place → Option TypeRef → Option Use
used_by at (Some (OfDocument u)) = Some (record { at = at; document = u.0 })
used_by at _ = None

abbrev pub use_in : List File → Path → List WrittenImport → TypeUse → Option Use
use_in files here rows (uses_type at q n) = used_by at (type_in files here rows q n)
use_in files here rows (misnames_type at) = None

abbrev pub uses_named : List File → Path → List WrittenImport → List TypeUse → List Use
uses_named files here rows uses = filter_map (use_in files here rows) uses
