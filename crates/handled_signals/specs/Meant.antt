-- What the signals under a handler are in a program.
use Rattle.std.specs.Prelude.{◌≡◌, ℕ, true, List, [], ◌∷◌, slice_get, Option, Some, None}
use Rattle.qml_syntax.specs.Tree.{Units}
use Rattle.program_names.specs.Loaded.{Program}
use Rattle.program_names.specs.Layers.{joined_names}
use Rattle.program_tables.specs.declared.names.UnitNames.{UnitNames}
use Rattle.program_tables.specs.Stands.{is_there}
use Rattle.document_tables.specs.declared.program.DocumentTable.{DocumentTable}
use Rattle.declared_signals.specs.declared.declaring.UnitSignals.{UnitSignals}
use Rattle.declared_signals.specs.declared.declaring.ObjectSignals.{ObjectSignals}
use Rattle.declared_signals.specs.Told.{Signal, TellsSignals}
use Rattle.handled_signals.specs.Handled.{rows_in}

-- the signals of an object are kept
pub record IsKept (ss : List UnitSignals) (u o : ℕ) : Type 0 where
  pub unit : UnitSignals
  pub there : slice_get ss u ≡ Some unit
  pub object : ObjectSignals
  pub own : slice_get unit.objects.items o ≡ Some object

-- of each object that the tables have, those that are kept are the signals that it declares
pub record SignalsTold (p : Program) (us : List UnitNames) (documents : List DocumentTable) (ss : List UnitSignals) : Type 0 where
  pub kept : (u o : ℕ) → is_there us u o ≡ true → IsKept ss u o
  pub tells : (u : ℕ) (unit : UnitSignals) → slice_get ss u ≡ Some unit → TellsSignals p u (rows_in documents u) unit.objects.items

-- the parameters of all of these
abbrev pub joined : List Signal → Option (List Units)
joined [] = None
joined ((s, parameters) ∷ rest) = joined_names (Some parameters) (joined rest)
