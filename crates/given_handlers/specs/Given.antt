-- The handlers that a value or a function is, by the tables of a program.
use Rattle.std.specs.Prelude.{ℕ, ◌+◌, Bool as 𝔹, ◌&&◌, if◌then◌else◌, List, [], ◌∷◌, map, length, codes}
use Rattle.std.specs.Str.{bytes_eq}
use Rattle.qml_syntax.specs.Tree.{Units}
use Rattle.qml_types.specs.declared.kind.TypeNo.TheVariants as no
use Rattle.qml_types.specs.declared.kind.TypeRef.TheVariants.{Builtin}
use Rattle.program_names.specs.Names.{is_handler_name}
use Rattle.program_tables.specs.declared.names.UnitNames.{UnitNames}
use Rattle.program_tables.specs.Types.{base_in, any_of}
use Rattle.document_tables.specs.declared.program.DocumentTable.{DocumentTable}
use Rattle.unit_rows.specs.declared.names.HandlerRow.{HandlerRow}
use Rattle.unit_rows.specs.declared.names.SignalRef.{SignalRef}
use Rattle.unit_rows.specs.declared.names.SignalRef.TheVariants as signal
use Rattle.declared_signals.specs.declared.declaring.UnitSignals.{UnitSignals}
use Rattle.declared_signals.specs.Told.{Signal}
use Rattle.handled_signals.specs.Handled.{signals_handled}

abbrev pub is_for_target : List UnitNames → ℕ → ℕ → Units → 𝔹
is_for_target us u o n = any_of (length us + 1) us (Builtin no.Connections) (base_in us u o) && is_handler_name n

abbrev pub handler_row : ℕ → SignalRef → HandlerRow
handler_row body s = record { signal = s; body = body }

abbrev pub row_of_signal : ℕ → Signal → HandlerRow
row_of_signal body (s, parameters) = handler_row body s

-- under a name alone: for the target of a Connections, else for the signals of the object
abbrev pub under_name : List UnitNames → List DocumentTable → List UnitSignals → ℕ → ℕ → ℕ → Units → List HandlerRow
under_name us documents ss u o body n =
    if is_for_target us u o n then handler_row body (signal.OfTarget n) ∷ []
    else map (row_of_signal body) (signals_handled us documents ss u o n)

abbrev pub of_component : ℕ → Units → List HandlerRow
of_component body n =
    if bytes_eq n (codes "onCompleted") then handler_row body signal.Completed ∷ []
    else (if bytes_eq n (codes "onDestruction") then handler_row body signal.Destruction ∷ [] else [])

abbrev pub attached : ℕ → Units → Units → List HandlerRow
attached body c n = if bytes_eq c (codes "Component") then of_component body n else []

abbrev pub handlers_given : List UnitNames → List DocumentTable → List UnitSignals → ℕ → ℕ → ℕ → List Units → List HandlerRow
handlers_given us documents ss u o body (n ∷ []) = under_name us documents ss u o body n
handlers_given us documents ss u o body (c ∷ n ∷ []) = attached body c n
handlers_given us documents ss u o body _ = []

abbrev pub handlers_of_function : List UnitNames → ℕ → ℕ → ℕ → Units → List HandlerRow
handlers_of_function us u o body n = if is_for_target us u o n then handler_row body (signal.OfTarget n) ∷ [] else []
