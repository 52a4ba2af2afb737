-- Settling as a function: the cells as they have settled, those that hold another value, and the reports; or the lowest cell
-- past the limit.
use Rattle.std.specs.Prelude.{ℕ, suc, Bool, true, false, not, ◌||◌, nat_eq, if◌then◌else◌, List, [], ◌∷◌, Option, Some, None, Result, Ok, Err}
use Rattle.qml_base.specs.declared.numbers.CellNo.{CellNo}
use Rattle.qml_base.specs.declared.cause.Cause.{Cause}
use Rattle.qml_base.specs.declared.cause.Cause.TheVariants as cause
use Rattle.evaluation.specs.declared.came.Came.{Came}
use Rattle.evaluation.specs.declared.came.Came.TheVariants as came
use Rattle.js_meaning.specs.Operate.{same_values}
use Rattle.tree_model.specs.declared.cells.Cell.{Cell}
use Rattle.tree_model.specs.declared.cells.Report.{Report}
use Rattle.tree_model.specs.Systems.{Outcomes}
use Rattle.tree_model.specs.Rules.{World}
use Rattle.tree_model.specs.Settling.{Tree, fresh, settled}
use Rattle.tree_model.specs.Telling.{told_of}

pub record Settled : Type 0 where
  pub cells : List Cell
  pub changed : List CellNo
  pub reports : List Report

-- the cells that hold another value, or held one before objects were removed
abbrev pub is_changed : Cell → Cell → Bool
is_changed before now = before.noted || not (same_values before.held now.held)

abbrev pub changed_of : List Cell → List Cell → List CellNo
changed_of (b ∷ olds) (a ∷ news) = if is_changed b a then a.no ∷ changed_of olds news else changed_of olds news
changed_of _ _ = []

abbrev pub cause_number : Cause → ℕ
cause_number cause.Name = 0
cause_number cause.Null = 1
cause_number cause.Kind = 2
cause_number cause.Zero = 3
cause_number cause.Inexact = 4
cause_number cause.Range = 5
cause_number cause.Size = 6
cause_number cause.Nodes = 7
cause_number cause.Depth = 8
cause_number cause.Call = 9
cause_number cause.Readonly = 10
cause_number cause.Static = 11
cause_number cause.Gone = 12
cause_number cause.Host = 13
cause_number cause.Nohost = 14

abbrev pub same_report : Option Cause → Option Cause → Bool
same_report None None = true
same_report (Some a) (Some b) = nat_eq (cause_number a) (cause_number b)
same_report _ _ = false

-- whether this was told of the outcome before
abbrev pub was_told : Option Cause → Option (Option Cause) → Bool
was_told what None = false
was_told what (Some before) = same_report before what

abbrev pub report_of : Cell → Option (Option Cause) → Option (Option Cause) → List Report → List Report
report_of cell before None rest = rest
report_of cell before (Some what) rest = if was_told what before then rest else record { cell = cell.no; cause = what } ∷ rest

-- of each cell whose outcome became a loop, or became a throw or one of another cause
abbrev pub reports_of : List Cell → List Cell → List Report
reports_of (b ∷ olds) (a ∷ news) = report_of a (told_of b.outcome) (told_of a.outcome) (reports_of olds news)
reports_of _ _ = []

abbrev pub is_past : Came → Bool
is_past came.Past = true
is_past _ = false

abbrev pub lowest_past : Outcomes → ℕ → List Cell → Option CellNo
lowest_past read i [] = None
lowest_past read i (cell ∷ rest) = if is_past (read i) then Some cell.no else lowest_past read (suc i) rest

abbrev pub settled_unless : Option CellNo → List Cell → List Cell → Result Settled CellNo
settled_unless (Some c) olds news = Err c
settled_unless None olds news = Ok (record { cells = news; changed = changed_of olds news; reports = reports_of olds news })

-- the tree settles, or the lowest cell past the limit is named
abbrev pub settled_of : World → Tree → Result Settled CellNo
settled_of world tree = settled_unless (lowest_past (fresh world tree) 0 tree.cells) tree.cells (settled world tree)
