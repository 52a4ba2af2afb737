-- How many steps a settling takes at most.
use Rattle.std.specs.Prelude.{ℕ, zero, suc, ◌+◌, ◌-◌, Bool, true, false, List, [], ◌∷◌, if◌then◌else◌, length, take, drop, slice_get}
use Rattle.std.specs.declared.option.Option.{Option}
use Rattle.std.specs.declared.option.Option.TheVariants.{None, Some}
use Rattle.evaluation.specs.declared.came.Came.{Came}
use Rattle.qml_base.specs.declared.numbers.CellNo.{CellNo}
use Rattle.tree_model.specs.declared.cells.Cell.{Cell}
use Rattle.tree_model.specs.declared.cells.Object.{Object}
use Rattle.tree_model.specs.declared.cells.Content.{Content}
use Rattle.tree_model.specs.declared.cells.Content.TheVariants.{Plain, Bound}
use Rattle.tree_model.specs.Settling.{Tree, is_active}
use Rattle.tree_settling.specs.Tables.{Table, is_loop, loops_in}

abbrev pub is_active_content : List Object → CellNo → Content → Bool
is_active_content objects c (Plain v) = false
is_active_content objects c (Bound binding) = is_active objects c binding

abbrev pub active_among : List Object → List Cell → ℕ
active_among objects [] = 0
active_among objects (cell ∷ cells) = (if is_active_content objects cell.no cell.content then 1 else 0) + active_among objects cells

-- how many active bindings there are
abbrev pub active_bindings : Tree → ℕ
active_bindings tree = active_among tree.objects tree.cells

-- the sum of the numbers up to n
abbrev pub sum_to : ℕ → ℕ
sum_to zero = 0
sum_to (suc n) = suc n + sum_to n

-- each evaluation is one step, and an active binding is evaluated again only after another one has come to something
abbrev pub most_steps : Tree → ℕ
most_steps tree = sum_to (active_bindings tree)

-- ---- by a table
abbrev pub loop_of : Option (Option Came) → ℕ
loop_of None = 0
loop_of (Some entry) = if is_loop entry then 1 else 0

-- 1 where the table says that the cell at the place loops
abbrev pub loops_at : Table → ℕ → ℕ
loops_at table i = loop_of (slice_get table i)

-- how many loop of those that a sweep hasn't visited yet, before its visit k
abbrev pub loops_left : Bool → ℕ → Table → ℕ
loops_left true k table = loops_in (drop k table)
loops_left false k table = loops_in (take (length table - k) table)
