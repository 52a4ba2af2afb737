-- When tables of handlers are those of a program.
use Rattle.std.specs.Prelude.{◌≡◌, ℕ, true, List, [], map, slice_get, Some, is_some}
use Rattle.qml_syntax.specs.Tree.{Units}
use Rattle.program_names.specs.Loaded.{Program}
use Rattle.program_names.specs.Layers.{own_names, handled_in}
use Rattle.program_tables.specs.declared.names.UnitNames.{UnitNames}
use Rattle.program_tables.specs.RowsSay.{UnitSays}
use Rattle.program_tables.specs.Stands.{is_there}
use Rattle.handler_names.specs.declared.declared.UnitHandlers.{UnitHandlers}
use Rattle.handler_names.specs.Handlers.{no_handlers, handlers_added, declares}

-- of each object that is there, the handlers that are kept are those for the signals that it declares
abbrev pub HandlersTold : Program → List UnitNames → List UnitHandlers → Type 0
HandlersTold p us hs = (d o : ℕ) → is_there us d o ≡ true → (handler : Units) →
    declares hs d o handler ≡ is_some (handled_in handler (own_names p d o))

-- the handlers of a document were made from the rows of which its names are
pub record SaysHandlers (p : Program) (hs : List UnitHandlers) (d : ℕ) (unit : UnitNames) : Type 0 where
  pub says : UnitSays p d unit
  pub own : UnitHandlers
  pub kept : slice_get hs d ≡ Some own
  pub made : own.objects.items ≡ handlers_added [] says.rows (map no_handlers unit.objects.items)
