-- What is kept of files in a map.
use Rattle.std.specs.Prelude.{Bool, List, map}
use Rattle.std.specs.declared.rc.Rc.{Rc}
use Rattle.std.specs.declared.alloc.Global.{Global}
use Rattle.program_names.specs.Reading.{same_file}
use Rattle.file_sources.specs.declared.content.Content.{Content}
use Rattle.read_order.specs.declared.file.File as code
use Rattle.read_order.specs.Order.{file_of}
use Rattle.program_reading.specs.Known.{Entry}

abbrev pub Kept : Type 0
Kept = code.File × Rc Content Global

abbrev pub entry_of : Kept → Entry
entry_of kept = (file_of kept.0, kept.1.value)

abbrev pub entries_of : List Kept → List Entry
entries_of kept = map entry_of kept

abbrev pub same_key : code.File → code.File → Bool
same_key a b = same_file (file_of a) (file_of b)
