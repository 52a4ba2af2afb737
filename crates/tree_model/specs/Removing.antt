-- Condemning objects, and taking the condemned ones away.
use Rattle.std.specs.Prelude.{ℕ, ◌<◌, ◌||◌, List, [], ◌∷◌, map, if◌then◌else◌}
use Rattle.qml_base.specs.declared.numbers.ObjNo.{ObjNo}
use Rattle.qml_base.specs.declared.numbers.CellNo.{CellNo}
use Rattle.qml_value.specs.declared.value.Value.{Value}
use Rattle.qml_value.specs.Scrubbing.{is_among, scrubbed, names_one}
use Rattle.tree_model.specs.declared.cells.Object.{Object}
use Rattle.tree_model.specs.declared.cells.Cell.{Cell}
use Rattle.tree_model.specs.declared.cells.Content.{Content}
use Rattle.tree_model.specs.declared.cells.Content.TheVariants.{Plain, Bound}
use Rattle.tree_model.specs.declared.cells.Outcome.{Outcome}
use Rattle.tree_model.specs.declared.cells.Outcome.TheVariants as outcome
use Rattle.tree_model.specs.Settling.{Tree, is_active, spare_of}
use Rattle.tree_model.specs.Doomed.{marked_from}

-- ---- condemning: a binding that isn't active any more has no outcome but that its cell holds a value
abbrev pub quiet_outcome : List Object → CellNo → Content → Outcome → Outcome
quiet_outcome objects c (Plain v) before = before
quiet_outcome objects c (Bound binding) before = if is_active objects c binding then before else outcome.Value

abbrev pub quiet : List Object → Cell → Cell
quiet objects cell = record { no = cell.no; kind = cell.kind; content = cell.content; held = cell.held; spare = cell.spare; outcome = quiet_outcome objects cell.no cell.content cell.outcome; noted = cell.noted }

-- the tree once an object is condemned with all that is doomed with it
abbrev pub with_objects : List Object → List Cell → Tree
with_objects objects cells = record { objects = objects; cells = map (quiet objects) cells }

abbrev pub condemned : ObjNo → Tree → Tree
condemned o tree = with_objects (marked_from o [] tree.objects) tree.cells

-- ---- removal
-- the numbers of the condemned objects, in order
abbrev pub doomed_of : List Object → List ObjNo
doomed_of [] = []
doomed_of (x ∷ xs) = if x.condemned then x.number ∷ doomed_of xs else doomed_of xs

-- the objects that aren't condemned
abbrev pub kept_of : List Object → List Object
kept_of [] = []
kept_of (x ∷ xs) = if x.condemned then kept_of xs else x ∷ kept_of xs

-- numbers that ascend
abbrev pub AscendsFrom : ℕ → List ObjNo → Type 0
AscendsFrom n [] = Unit {0}
AscendsFrom n (o ∷ os) = (n < o.0) × AscendsFrom o.0 os

-- the cells whose object isn't gone
abbrev pub cells_left : List ObjNo → List Cell → List Cell
cells_left gone [] = []
cells_left gone (cell ∷ cells) = if is_among gone cell.no.object then cells_left gone cells else cell ∷ cells_left gone cells

-- a content whose author is gone becomes what the cell holds
abbrev pub content_left : List ObjNo → Content → Value → Content
content_left gone (Plain v) held = Plain (scrubbed gone v)
content_left gone (Bound binding) held = if is_among gone binding.author then Plain (scrubbed gone held) else Bound binding

-- each reference to an object that is gone becomes null, and it is noted whether the cell held one
abbrev pub scrubbed_cell : List ObjNo → Cell → Cell
scrubbed_cell gone cell = record { no = cell.no; kind = cell.kind; content = content_left gone cell.content cell.held; held = scrubbed gone cell.held; spare = spare_of cell.no (content_left gone cell.content cell.held) (scrubbed gone cell.held); outcome = cell.outcome; noted = cell.noted || names_one gone cell.held }

-- the cells once these objects are gone
abbrev pub scrubbed_cells : List ObjNo → List Cell → List Cell
scrubbed_cells gone cells = map (scrubbed_cell gone) (cells_left gone cells)

-- the tree without its condemned objects
abbrev pub without_doomed : Tree → Tree
without_doomed tree = record { objects = kept_of tree.objects; cells = scrubbed_cells (doomed_of tree.objects) tree.cells }
