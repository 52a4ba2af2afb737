-- What the signals of a document's objects are in a program.
use Rattle.std.specs.Prelude.{◌≡◌, ℕ, suc, ◌+◌, if◌then◌else◌, List, [], ◌∷◌, ◌++◌, map, slice_get, Some}
use Rattle.std.specs.Option.{option_map, unwrap_or}
use Rattle.std.specs.Str.{bytes_eq}
use Rattle.qml_syntax.specs.Tree.{Units}
use Rattle.name_groups.specs.Groups.{all_under}
use Rattle.program_names.specs.Names.{changed, handler_of}
use Rattle.program_names.specs.Written.{WrittenMember, a_property, a_signal}
use Rattle.program_names.specs.Loaded.{Program, object_at}
use Rattle.document_members.specs.declared.member.Member.{Member}
use Rattle.document_members.specs.declared.member.Member.TheVariants as m
use Rattle.program_tables.specs.declared.building.UnitRow.{UnitRow}
use Rattle.unit_rows.specs.declared.names.SignalRef.{SignalRef}
use Rattle.unit_rows.specs.declared.names.SignalRef.TheVariants.{Change as change_of, Own as own_signal}
use Rattle.declared_signals.specs.declared.declaring.DeclaredSignal.{DeclaredSignal}
use Rattle.declared_signals.specs.declared.declaring.DeclaredSignal.TheVariants as d
use Rattle.declared_signals.specs.declared.declaring.ObjectSignals.{ObjectSignals}

-- a signal with the names of its parameters
abbrev pub Signal : Type 0
Signal = SignalRef × List Units

abbrev pub if_handled : {A : Type 0} → Units → Units → A → List A
if_handled signal h x = if bytes_eq (handler_of signal) h then x ∷ [] else []

-- those under a handler that members declare, where so many cells and other signals stand before
abbrev pub written_under : Units → ℕ → ℕ → List WrittenMember → List Signal
written_under h cells signals [] = []
written_under h cells signals (a_property q a k n at v ∷ rest) =
    if_handled (changed n) h (change_of cells, []) ++ written_under h (suc cells) signals rest
written_under h cells signals (a_signal q n at names ∷ rest) =
    if_handled n h (own_signal signals, names) ++ written_under h cells (suc signals) rest
written_under h cells signals (x ∷ rest) = written_under h cells signals rest

abbrev pub signals_written : List WrittenMember → ℕ
signals_written [] = 0
signals_written (a_signal q n at names ∷ rest) = suc (signals_written rest)
signals_written (x ∷ rest) = signals_written rest

-- ---- by the rows of a document

abbrev pub parameters_of : Member → List Units
parameters_of (m.Signal p name at parameters) = parameters.items
parameters_of _ = []

-- the names of the parameters of the signal that a row declares
abbrev pub parameters_at : List UnitRow → ℕ → List Units
parameters_at rows k = unwrap_or (option_map (λ (r : UnitRow). parameters_of r.member) (slice_get rows k)) []

-- a declared signal, where so many cells and other signals stand before those of its object
abbrev pub signal_at : List UnitRow → ℕ → ℕ → DeclaredSignal → Signal
signal_at rows cells signals (d.Change n) = (change_of (cells + n), [])
signal_at rows cells signals (d.Own n k) = (own_signal (signals + n), parameters_at rows k)

-- of each object of a document those under each handler, and how many signals it declares beside those of changes
pub record TellsSignals (p : Program) (u : ℕ) (rows : List UnitRow) (objects : List ObjectSignals) : Type 0 where
  pub signals : (o : ℕ) (x : ObjectSignals) → slice_get objects o ≡ Some x → (h : Units) (cells signals : ℕ) →
      map (signal_at rows cells signals) (all_under x.under h) ≡ written_under h cells signals (object_at p u o).members
  pub count : (o : ℕ) (x : ObjectSignals) → slice_get objects o ≡ Some x → x.signals ≡ signals_written (object_at p u o).members
