-- Contents that are put, and cells that are read.
use Rattle.std.proofs.Common.{◌≡◌, ◌∙◌, ap, sym, refl, ℕ, suc, zero, ◌<◌, List, [], ◌∷◌, length, slice_get, arith}
use Rattle.std.specs.declared.option.Option.{Option}
use Rattle.std.specs.declared.option.Option.TheVariants.{None, Some}
use Rattle.qml_base.specs.declared.numbers.CellNo.{CellNo}
use Rattle.qml_value.specs.declared.value.Value.{Value, Undefined}
use Rattle.tree_model.specs.declared.cells.Cell.{Cell}
use Rattle.tree_model.specs.declared.cells.Content.{Content}
use Rattle.tree_model.specs.Settling.{Tree, with_cells, place_of, held_at, held_in}
use Rattle.live_tree.specs.Live.{Live, HasCell, Replaces}
use Rattle.std.specs.Option.{option_map}
use Rattle.trace_print.specs.declared.entry.Entry.{Entry}
use Rattle.trace_print.specs.declared.entry.Entry.TheVariants as entry
use Rattle.machine_model.specs.Showing.{named_cell}
use Rattle.machine_steps.specs.Telling.{change_of}
use Rattle.machine_model.specs.State.{Machine}
use Rattle.machine_model.specs.Emission.{with_put, cells_with}

cell_below : (cells : List Cell) (i : ℕ) → i < length cells → (cell : Cell) × (slice_get cells i ≡ Some cell)
cell_below [] i h = absurd (omega arith)
cell_below (x ∷ xs) zero h = (x, refl)
cell_below (x ∷ xs) (suc i) h = cell_below xs i (omega arith)

none_above : (cells : List Cell) (i : ℕ) → (i < length cells → ⊥) → slice_get cells i ≡ None
none_above [] i h = refl
none_above (x ∷ xs) zero h = absurd (h (omega arith))
none_above (x ∷ xs) (suc i) h = none_above xs i (λ l. h (omega arith))

replaced : (old new : Tree) (c : CellNo) (content : Content) → HasCell old c → Replaces old c content new →
    with_cells old (cells_with old.cells c content (slice_get old.cells (place_of old.cells c))) ≡ new
replaced old new c content here (objects, cells) =
    let found = cell_below old.cells (place_of old.cells c) here in
    ap (λ o. with_cells old (cells_with old.cells c content o)) found.1 ∙
    ap (λ cs. record { objects = old.objects; cells = cs }) (sym (cells found.0 found.1)) ∙
    ap (λ os. record { objects = os; cells = new.cells }) (sym objects)

pub puts_in : (m : Machine) (old new : Live) (c : CellNo) (content : Content) → HasCell old.tree c → Replaces old.tree c content new.tree →
    m.tree ≡ old.tree → with_put c content m ≡ record m { tree = new.tree }
puts_in m old new c content here replaces e =
    ap (λ t. record m { tree = with_cells t (cells_with t.cells c content (slice_get t.cells (place_of t.cells c))) }) e ∙
    ap (λ t. record m { tree = t }) (replaced old.tree new.tree c content here replaces)

pub read_is : (tree : Tree) (c : CellNo) (v : Value) → HasCell tree c →
    ((cell : Cell) → slice_get tree.cells (place_of tree.cells c) ≡ Some cell → v ≡ cell.held) → v ≡ held_at tree.cells (place_of tree.cells c)
read_is tree c v here h =
    let found = cell_below tree.cells (place_of tree.cells c) here in
    h found.0 found.1 ∙ ap held_in (sym found.1)

pub nothing_read : (tree : Tree) (c : CellNo) → (HasCell tree c → ⊥) → Undefined ≡ held_at tree.cells (place_of tree.cells c)
nothing_read tree c h = ap held_in (sym (none_above tree.cells (place_of tree.cells c) h))

pub held_is : (live : Live) (c : CellNo) (v : Value) (told : Option Entry) → HasCell live.tree c →
    ((cell : Cell) → slice_get live.tree.cells (place_of live.tree.cells c) ≡ Some cell → v ≡ cell.held) →
    told ≡ option_map (λ n. entry.Change n v) (named_cell live.known c) → told ≡ change_of live c
held_is live c v told here h e = e ∙ ap (λ w. option_map (λ n. entry.Change n w) (named_cell live.known c)) (read_is live.tree c v here h)

pub nothing_held : (live : Live) (c : CellNo) (told : Option Entry) → (HasCell live.tree c → ⊥) →
    told ≡ option_map (λ n. entry.Change n Undefined) (named_cell live.known c) → told ≡ change_of live c
nothing_held live c told h e = e ∙ ap (λ w. option_map (λ n. entry.Change n w) (named_cell live.known c)) (nothing_read live.tree c h)
