-- What a settling tells: the cells that hold another value, and what became a loop or threw.
use Rattle.std.specs.Prelude.{◌≡◌, ◌≢◌, ◌⊎◌, true, false, List, [], ◌∷◌, Option, Some, None}
use Rattle.qml_base.specs.declared.cause.Cause.{Cause}
use Rattle.qml_base.specs.declared.numbers.CellNo.{CellNo}
use Rattle.tree_model.specs.declared.cells.Cell.{Cell}
use Rattle.tree_model.specs.declared.cells.Outcome.{Outcome}
use Rattle.tree_model.specs.declared.cells.Outcome.TheVariants as outcome
use Rattle.tree_model.specs.declared.cells.Report.{Report}

-- the cells that hold another value, or held one before objects were removed, in the order of cells
pub data Changes : List Cell → List Cell → List CellNo → Type 0 where
  none : Changes [] [] []
  same : {b a : Cell} {olds news : List Cell} {cs : List CellNo} → b.noted ≡ false → b.held ≡ a.held → Changes olds news cs → Changes (b ∷ olds) (a ∷ news) cs
  other : {b a : Cell} {olds news : List Cell} {cs : List CellNo} → (b.noted ≡ true) ⊎ (b.held ≢ a.held) → Changes olds news cs → Changes (b ∷ olds) (a ∷ news) (a.no ∷ cs)

-- what is told of an outcome that wasn't there before
abbrev pub told_of : Outcome → Option (Option Cause)
told_of outcome.Value = None
told_of (outcome.Threw why) = Some (Some why)
told_of outcome.Loop = Some None
told_of outcome.Past = None

-- the reports, in the order of cells
pub data Reports : List Cell → List Cell → List Report → Type 0 where
  no_report : Reports [] [] []
  kept : {b a : Cell} {olds news : List Cell} {rs : List Report} → b.outcome ≡ a.outcome → Reports olds news rs → Reports (b ∷ olds) (a ∷ news) rs
  silent : {b a : Cell} {olds news : List Cell} {rs : List Report} → told_of a.outcome ≡ None → Reports olds news rs → Reports (b ∷ olds) (a ∷ news) rs
  reported : {b a : Cell} {olds news : List Cell} {rs : List Report} {what : Option Cause} → b.outcome ≢ a.outcome → told_of a.outcome ≡ Some what → Reports olds news rs → Reports (b ∷ olds) (a ∷ news) (record { cell = a.no; cause = what } ∷ rs)
