-- The form in which examples of making are written: files with what they hold, and what is made of the root of the first.
use Rattle.std.specs.Prelude.{ℕ, Bool, true, false, List, [], map, length, Option, None, Result, Ok, Err}
use Rattle.std.specs.List.{filter}
use Rattle.qml_base.specs.declared.numbers.ExprNo.{ExprNo}
use Rattle.qml_syntax.specs.Tree.{Units}
use Rattle.qml_value.specs.declared.value.Value.{Value}
use Rattle.qml_types.specs.declared.kind.TypeRef.{TypeRef}
use Rattle.program_names.specs.Loaded.{Program}
use Rattle.program_names.specs.ComponentRoots.{roots_of}
use Rattle.qml_scope.specs.Shapes.{Known}
use Rattle.unit_rows.specs.declared.names.SignalRef.{SignalRef}
use Rattle.unit_rows.specs.declared.names.SignalRef.TheVariants.{Completed as on_completed, Destruction as on_destruction}
use Rattle.unit_rows.specs.UnitRows.{rows_of_program}
use Rattle.instance_plans.specs.Contents.{Rule, by_text, Content, plain, list_of, bound}
use Rattle.instance_plans.specs.Cells.{MadeCell, MadeObject}
use Rattle.instance_plans.specs.Plans.{Instance, PlanFault, plan_instance}
pub use Rattle.program_names.proofs.ExampleFiles.{at, file, held, sources}

-- what a cell contains: a text by its document, its scope object and its author
pub data Shown : Type 0 where
  value : Value → Shown
  list : List Value → Shown
  text_in : ℕ → ℕ → ℕ → Shown
  rule : Rule → ℕ → Shown

-- with how many attached handlers, and with what each cell contains and holds at first
pub record ShownObject : Type 0 where
  pub owner : Option ℕ
  pub shown : Units
  pub types : List TypeRef
  pub starts : Bool
  pub attached : ℕ
  pub cells : List (Shown × Shown)

abbrev pub made : Option ℕ → Units → List TypeRef → Bool → ℕ → List (Shown × Shown) → ShownObject
made owner shown types starts attached cells = record { owner = owner; shown = shown; types = types; starts = starts; attached = attached; cells = cells }

abbrev shown_content : Content → Shown
shown_content (plain v) = value v
shown_content (list_of vs) = list vs
shown_content (bound (by_text e home) author) = text_in home.unit.0 home.scope.0 author.0
shown_content (bound r author) = rule r author.0

abbrev is_attached : SignalRef × ExprNo → Bool
is_attached h = elim (h.0) as (λ _. Bool) [ on_completed ↦ true | on_destruction ↦ true | _ ↦ false ]

abbrev shown_cell : MadeCell → Shown × Shown
shown_cell c = (shown_content c.content, shown_content c.first)

abbrev shown_object : MadeObject → ShownObject
shown_object m = record {
  owner = m.owner;
  shown = m.shown;
  types = m.types;
  starts = m.starts;
  attached = length (filter is_attached m.handlers);
  cells = map shown_cell m.cells;
}

abbrev nothing_live : Known
nothing_live = record { instances = []; told = [] }

abbrev shown_instance : Result Instance PlanFault → List ShownObject
shown_instance (Err f) = []
shown_instance (Ok i) = map shown_object i.objects

-- what is made of the root of a program's first document
abbrev pub told : Program → List ShownObject
told p = shown_instance (plan_instance (rows_of_program p (roots_of p)) nothing_live 0 0 None 1 100000 None [] [])
