-- What cells hold, and whether a Connections listens.
use Rattle.std.proofs.Common.{◌≡◌, ◌∙◌, ap, sym, refl, Bool, true, false, not, ◌&&◌, slice_get, Some}
use Rattle.qml_base.specs.declared.numbers.ObjNo.{ObjNo}
use Rattle.qml_base.specs.declared.numbers.CellNo.{CellNo}
use Rattle.qml_value.specs.declared.value.Value.{Value}
use Rattle.tree_model.specs.declared.cells.Cell.{Cell}
use Rattle.tree_model.specs.Rules.{is_set}
use Rattle.tree_model.specs.Settling.{Tree, place_of, held_at}
use Rattle.live_tree.specs.Live.{HasCell}
use Rattle.machine_steps.proofs.WriteLemmas.{read_is, nothing_read}
use Rattle.signal_dispatch.specs.Hearing.{is_object}

abbrev Reads : Tree → CellNo → Value → Type 0
Reads tree c v = (cell : Cell) → slice_get tree.cells (place_of tree.cells c) ≡ Some cell → v ≡ cell.held

pub set_is : (tree : Tree) (c : CellNo) (v : Value) (b : Bool) → HasCell tree c → Reads tree c v → b ≡ is_set v → b ≡ is_set (held_at tree.cells (place_of tree.cells c))
set_is tree c v b here reads is = is ∙ ap is_set (read_is tree c v here reads)

pub none_set : (tree : Tree) (c : CellNo) → (HasCell tree c → ⊥) → false ≡ is_set (held_at tree.cells (place_of tree.cells c))
none_set tree c h = ap is_set (nothing_read tree c h)

pub object_is : (tree : Tree) (c : CellNo) (o : ObjNo) (v : Value) (b : Bool) → HasCell tree c → Reads tree c v → b ≡ is_object o v → b ≡ is_object o (held_at tree.cells (place_of tree.cells c))
object_is tree c o v b here reads is = is ∙ ap (is_object o) (read_is tree c v here reads)

pub no_object : (tree : Tree) (c : CellNo) (o : ObjNo) → (HasCell tree c → ⊥) → false ≡ is_object o (held_at tree.cells (place_of tree.cells c))
no_object tree c o h = ap (is_object o) (nothing_read tree c h)

-- ---- in any order of asking

pub is_off : (t d e : Bool) → e ≡ false → false ≡ (t && (not d && e))
is_off false d e off = refl
is_off true false e off = sym off
is_off true true e off = refl

pub is_gone : (t d e : Bool) → d ≡ true → false ≡ (t && (not d && e))
is_gone false d e gone = refl
is_gone true false e gone = absurd (cc)
is_gone true true e gone = refl

pub is_on : (b t d e : Bool) → d ≡ false → e ≡ true → b ≡ t → b ≡ (t && (not d && e))
is_on b false d e here on is = is
is_on b true false e here on is = is ∙ sym on
is_on b true true e here on is = is ∙ here
