-- How values, objects, cells and causes are shown in the trace, as UTF-16 units.
use Rattle.std.specs.Prelude.{ℕ, ◌+◌, ◌/◌, ◌%◌, nat_eq, nat_lt, if◌then◌else◌, List, [], ◌∷◌, ◌++◌, codes}
use Rattle.std.specs.List.{flat_map}
use Rattle.std.specs.Fmt.{decimal, signed_decimal}
use Rattle.qml_base.specs.declared.numbers.ObjNo.{ObjNo}
use Rattle.qml_base.specs.declared.numbers.Place.{Place}
use Rattle.qml_base.specs.declared.cause.Cause.{Cause}
use Rattle.qml_base.specs.declared.cause.Cause.TheVariants as cause
use Rattle.qml_base.specs.declared.load_cause.LoadCause.{LoadCause}
use Rattle.qml_base.specs.declared.load_cause.LoadCause.TheVariants as load
use Rattle.qml_value.specs.declared.value.Value.{Value, Undefined, Null, Bool, Num, Text, List', Fields', Object, Component, Row_of-Value, end_of-Value, more_of-Value, Row_of-Field, end_of-Field, more_of-Field}
use Rattle.qml_value.specs.declared.value.Field.{Field}
use Rattle.qml_text.specs.Parts.{join_of}
use Rattle.trace_print.specs.declared.entry.Named.{Named}
use Rattle.trace_print.specs.declared.entry.Site.{Site}
use Rattle.trace_print.specs.declared.entry.Site.TheVariants as site

-- a hexadecimal digit in lower case
abbrev pub hex_digit : ℕ → ℕ
hex_digit n = if nat_lt n 10 then 48 + n else 87 + n

-- below 32 a unit is shown by its number in four digits
abbrev pub numbered : ℕ → List ℕ
numbered unit = if nat_lt unit 32 then 92 ∷ codes "u00" ++ hex_digit (unit / 16) ∷ hex_digit (unit % 16) ∷ [] else unit ∷ []

-- a unit between quotes: `"`, `\`, line feed, carriage return and tab have an escape of their own
abbrev pub escaped : ℕ → List ℕ
escaped unit =
    if nat_eq unit 34 then 92 ∷ 34 ∷ [] else
    if nat_eq unit 92 then 92 ∷ 92 ∷ [] else
    if nat_eq unit 10 then 92 ∷ 110 ∷ [] else
    if nat_eq unit 13 then 92 ∷ 114 ∷ [] else
    if nat_eq unit 9 then 92 ∷ 116 ∷ [] else
    numbered unit

abbrev pub quoted : List ℕ → List ℕ
quoted units = 34 ∷ flat_map escaped units ++ 34 ∷ []

-- `#` and the number
abbrev pub shown_object : ObjNo → List ℕ
shown_object o = codes "#" ++ decimal o.0

-- a value: its text, with texts in quotes, and with what stands in lists and fields
abbrev mutual
  pub shown : Value → List ℕ
  shown Undefined = codes "undefined"
  shown Null = codes "null"
  shown (Bool b) = if b then codes "true" else codes "false"
  shown (Num n) = signed_decimal n
  shown (Text units) = quoted units
  shown (List' n row) = codes "[" ++ join_of (codes ", ") (values_shown row) ++ codes "]"
  shown (Fields' n row) = codes "{" ++ join_of (codes ", ") (fields_shown row) ++ codes "}"
  shown (Object o) = shown_object o
  shown (Component o) = codes "component " ++ shown_object o

  pub values_shown : {n : _} → Row_of-Value n → List (List ℕ)
  values_shown end_of-Value = []
  values_shown (more_of-Value value rest) = shown value ∷ values_shown rest

  pub fields_shown : {n : _} → Row_of-Field n → List (List ℕ)
  fields_shown end_of-Field = []
  fields_shown (more_of-Field name value rest) = (name ++ codes ": " ++ shown value) ∷ fields_shown rest

abbrev pub shown_field : Field → List ℕ
shown_field field = field.name ++ codes ": " ++ shown field.value

abbrev pub shown_cell : Named → List ℕ
shown_cell cell = shown_object cell.object ++ (if cell.delegate then codes "@" else codes ".") ++ cell.name

abbrev pub shown_handler : ObjNo → List ℕ → List ℕ
shown_handler o handler = shown_object o ++ codes "." ++ handler

abbrev pub shown_site : Site → List ℕ
shown_site (site.Cell cell) = shown_cell cell
shown_site (site.Handler o handler) = shown_handler o handler
shown_site site.Do = codes "do"
shown_site site.Print = codes "print"

abbrev pub shown_place : Place → List ℕ
shown_place place = decimal place.line ++ codes ":" ++ decimal place.column

abbrev pub shown_cause : Cause → List ℕ
shown_cause cause.Name = codes "name"
shown_cause cause.Null = codes "null"
shown_cause cause.Kind = codes "kind"
shown_cause cause.Zero = codes "zero"
shown_cause cause.Inexact = codes "inexact"
shown_cause cause.Range = codes "range"
shown_cause cause.Size = codes "size"
shown_cause cause.Nodes = codes "nodes"
shown_cause cause.Depth = codes "depth"
shown_cause cause.Call = codes "call"
shown_cause cause.Readonly = codes "readonly"
shown_cause cause.Static = codes "static"
shown_cause cause.Gone = codes "gone"
shown_cause cause.Host = codes "host"
shown_cause cause.Nohost = codes "nohost"

abbrev pub shown_load_cause : LoadCause → List ℕ
shown_load_cause load.Missing = codes "Missing"
shown_load_cause load.TooMany = codes "TooMany"
shown_load_cause load.Syntax = codes "Syntax"
shown_load_cause load.TooDeep = codes "TooDeep"
shown_load_cause load.UnknownModule = codes "UnknownModule"
shown_load_cause load.UnknownType = codes "UnknownType"
shown_load_cause load.UnitCycle = codes "UnitCycle"
shown_load_cause load.DuplicateId = codes "DuplicateId"
shown_load_cause load.DuplicateName = codes "DuplicateName"
shown_load_cause load.UnknownProperty = codes "UnknownProperty"
shown_load_cause load.ReadOnly = codes "ReadOnly"
shown_load_cause load.NotLiteral = codes "NotLiteral"
shown_load_cause load.BadKind = codes "BadKind"
shown_load_cause load.BadAlias = codes "BadAlias"
shown_load_cause load.AliasCycle = codes "AliasCycle"
shown_load_cause load.BadTarget = codes "BadTarget"
shown_load_cause load.UnknownState = codes "UnknownState"
shown_load_cause load.ExtendCycle = codes "ExtendCycle"
shown_load_cause load.BadBinding = codes "BadBinding"
shown_load_cause load.SideEffect = codes "SideEffect"
shown_load_cause load.NotYet = codes "NotYet"
