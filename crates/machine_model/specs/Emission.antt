-- Settling, writing and emitting. What is delivered is left to the level below.
use Rattle.std.specs.Prelude.{◌*◌, not, ◌&&◌, ◌||◌, Bool, List, [], slice_get, slice_set, Option, Some, None, Result, Ok, Err}
use Rattle.qml_base.specs.declared.numbers.ObjNo.{ObjNo}
use Rattle.qml_base.specs.declared.numbers.CellNo.{CellNo}
use Rattle.qml_value.specs.declared.value.Value.{Value}
use Rattle.tree_model.specs.declared.cells.Cell.{Cell}
use Rattle.tree_model.specs.declared.cells.Content.{Content}
use Rattle.tree_model.specs.Settling.{place_of, with_cells}
use Rattle.property_store.specs.Stores.{with_content}
use Rattle.machine_model.specs.Texts.{world_of}
use Rattle.machine_model.specs.State.{Machine, past, Signal, numbered, Delivery}
use Rattle.machine_model.specs.Acts.{Ran, goes, stops, Act, Done, ◌>>=◌, ◌>>◌, nothing, look, turn_into, each, by_test}
use Rattle.machine_model.specs.Settling.{Settled, settled_of}
use Rattle.machine_model.specs.Showing.{cell_site, tell_settled}
use Rattle.machine_model.specs.Dispatch.{is_condemned, is_enabled_on, deliveries}

-- what runs a delivery one level deeper
abbrev pub Below : Type 0
Below = Delivery → Done

abbrev pub with_settled : Machine → Result Settled CellNo → Ran Settled
with_settled m (Ok s) = goes s (record m { tree = with_cells m.tree s.cells })
with_settled m (Err c) = stops (past (cell_site m.known c)) m

-- all cells settle at once; a cell past the limit stops the run, and nothing of this settling is told
abbrev pub settle : Act Settled
settle m = with_settled m (settled_of (world_of m.units m.known) m.tree)

abbrev pub cells_with : List Cell → CellNo → Content → Option Cell → List Cell
cells_with cells c content None = cells
cells_with cells c content (Some cell) = slice_set cells (place_of cells c) (with_content cell content)

-- a content in place of the cell's
abbrev pub with_put : CellNo → Content → Machine → Machine
with_put c content m = record m {
  tree = with_cells m.tree (cells_with m.tree.cells c content (slice_get m.tree.cells (place_of m.tree.cells c)));
}

abbrev pub put : CellNo × Content → Done
put (c, content) = turn_into (with_put c content)

-- a delivery is left out where its object or the emitter is condemned, or a Connections isn't enabled on the emitter any more
abbrev pub is_left_out : Machine → ObjNo → Delivery → Bool
is_left_out m emitter d = is_condemned m d.object || (is_condemned m emitter || (d.is_aimed && not (is_enabled_on m d.object emitter)))

module _ (below : Below) where
  abbrev pub deliver_unless : ObjNo → Delivery → Done
  deliver_unless emitter d m = by_test (is_left_out m emitter d) nothing (below d) m

  -- the list is taken at the start, and each delivery is tested at its own turn
  abbrev pub emit : ObjNo → Signal → List Value → Done
  emit o s args = look (λ m. deliveries m o s args) >>= (λ list. each (deliver_unless o) list)

  -- the signal of a cell's change has twice the number of its place
  abbrev pub emit_change : CellNo → Done
  emit_change c = emit c.object (numbered (2 * c.place)) []

  -- changes are told, then reports; then the signals of the changes are emitted
  abbrev pub after_settling : Settled → Done
  after_settling s = tell_settled s >> each emit_change s.changed

  abbrev pub settle_and_emit : Done
  settle_and_emit = settle >>= after_settling

  -- a write replaces one content or several
  abbrev pub write : List (CellNo × Content) → Done
  write contents = each put contents >> settle_and_emit
