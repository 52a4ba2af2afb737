-- What `print` shows of a tree by what its cells hold.
use Rattle.std.specs.Prelude.{List, [], ◌∷◌, Option, Some}
use Rattle.std.specs.Option.{option_map}
use Rattle.qml_base.specs.declared.numbers.CellNo.{CellNo}
use Rattle.qml_value.specs.declared.value.Value.{Value}
use Rattle.evaluation.specs.Evaluating.{is}
use Rattle.evaluation.specs.Hearing.{Views}
use Rattle.tree_model.specs.Settling.{place_of, held_at}
use Rattle.trace_print.specs.declared.entry.Entry.{Entry}
use Rattle.trace_print.specs.declared.entry.Entry.TheVariants as entry
use Rattle.qml_scope.specs.Shapes.{Known}
use Rattle.live_tree.specs.Live.{Live}
use Rattle.machine_model.specs.Showing.{named_cell}
use Rattle.machine_steps.specs.Telling.{onto}

-- of a hidden cell nothing is told
abbrev pub cell_told : Known → CellNo → Value → Option Entry
cell_told known c v = option_map (λ n. entry.PrintCell n v) (named_cell known c)

abbrev pub cells_told : Known → List (CellNo × Value) → List Entry
cells_told known [] = []
cells_told known (x ∷ rest) = onto (cell_told known (x.0) (x.1)) (cells_told known rest)

-- each cell gives what it holds
abbrev pub holding : Live → Views
holding live c = Some (is (held_at live.tree.cells (place_of live.tree.cells c)))
