-- What the tables say of an object's layers, from the built-in type up to its own text.
use Rattle.std.specs.Prelude.{ℕ, zero, suc, ◌+◌, List, length, slice_get, Option, Some, None}
use Rattle.std.specs.Option.{option_map, option_or, option_and_then}
use Rattle.name_table.specs.Named.{under}
use Rattle.qml_syntax.specs.Tree.{Units}
use Rattle.qml_types.specs.declared.kind.TypeNo.{TypeNo}
use Rattle.qml_types.specs.declared.kind.TypeNo.TheVariants as no
use Rattle.qml_types.specs.declared.kind.TypeRef.{TypeRef}
use Rattle.qml_types.specs.declared.kind.TypeRef.TheVariants.{Builtin, Document as OfDocument}
use Rattle.qml_types.specs.Table.{cells_of}
use Rattle.program_tables.specs.declared.names.Declared.{Declared}
use Rattle.program_tables.specs.declared.names.Declared.TheVariants as d
use Rattle.program_tables.specs.declared.names.Meaning.{Meaning}
use Rattle.program_tables.specs.declared.names.Meaning.TheVariants as m
use Rattle.program_tables.specs.declared.names.ObjectNames.{ObjectNames}
use Rattle.program_tables.specs.declared.names.UnitNames.{UnitNames}
use Rattle.program_tables.specs.BuiltIn.{built_in}

abbrev pub object_in : List UnitNames → ℕ → ℕ → Option ObjectNames
object_in us u o = option_and_then (λ (unit : UnitNames). slice_get unit.objects.items o) (slice_get us u)

-- the meaning of what an object declares
abbrev pub meaning_of : ℕ → ℕ → Declared → Meaning
meaning_of u o (d.Cell place k a) = m.Cell place k a
meaning_of u o d.Changed = m.Changed
meaning_of u o (d.Signal row) = m.Signal u row
meaning_of u o (d.Function row) = m.Function u o row
meaning_of u o (d.Alias row) = m.Alias u o row

-- the same meaning, where this many cells more stand before those of its layer
abbrev pub raised : ℕ → Meaning → Meaning
raised n (m.Cell place k a) = m.Cell (place + n) k a
raised n other = other

-- the meaning in the built-in type below, else the one so far
abbrev pub with_type : TypeNo → Units → Option Meaning → Option Meaning
with_type t name found =
    option_or (option_map m.BuiltIn (built_in t name)) (option_map (raised (length (cells_of t))) found)

abbrev pub with_own : ObjectNames → ℕ → ℕ → Units → Option Meaning → Option Meaning
with_own x u o name found =
    option_or (option_map (meaning_of u o) (under x.names name)) (option_map (raised x.cells) found)

-- ---- how many cells an object has, of at most so many layers of documents

abbrev pub cells_by_type : (ℕ → ℕ) → TypeRef → ℕ
cells_by_type deeper (Builtin t) = length (cells_of t)
cells_by_type deeper (OfDocument e) = deeper e.0

abbrev pub cells_by : (ℕ → ℕ) → Option ObjectNames → ℕ
cells_by deeper None = length (cells_of no.QtObject)
cells_by deeper (Some x) = cells_by_type deeper x.base + x.cells

abbrev pub cells_at : ℕ → List UnitNames → ℕ → ℕ → ℕ
cells_at zero us u o = 0
cells_at (suc f) us u o = cells_by (λ e. cells_at f us e 0) (object_in us u o)

-- ---- what a name means, likewise: that of the lowest layer

abbrev pub found_by_type : (ℕ → Option Meaning) → Units → TypeRef → Option Meaning
found_by_type deeper name (Builtin t) = option_map m.BuiltIn (built_in t name)
found_by_type deeper name (OfDocument e) = deeper e.0

abbrev pub found_by : (ℕ → Option Meaning) → (ℕ → ℕ) → ℕ → ℕ → Units → Option ObjectNames → Option Meaning
found_by deeper cells u o name None = option_map m.BuiltIn (built_in no.QtObject name)
found_by deeper cells u o name (Some x) =
    option_or (found_by_type deeper name x.base)
    (option_map (raised (cells_by_type cells x.base)) (option_map (meaning_of u o) (under x.names name)))

abbrev pub found_at : ℕ → List UnitNames → ℕ → ℕ → Units → Option Meaning
found_at zero us u o name = None
found_at (suc f) us u o name =
    found_by (λ e. found_at f us e 0 name) (λ e. cells_at f us e 0) u o name (object_in us u o)
