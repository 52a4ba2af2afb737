-- Contents and spares where objects are gone.
use Rattle.std.specs.Prelude.{◌≡◌, false, List, [], ◌∷◌, Option, Some, None, if◌then◌else◌}
use Rattle.qml_base.specs.declared.numbers.ObjNo.{ObjNo}
use Rattle.qml_value.specs.declared.value.Value.{Value}
use Rattle.qml_value.specs.Scrubbing.{is_among, scrubbed}
use Rattle.tree_model.specs.declared.cells.Cell.{Cell}
use Rattle.tree_model.specs.declared.cells.Content.{Content}
use Rattle.tree_model.specs.declared.cells.Content.TheVariants.{Plain, Bound}
use Rattle.tree_model.specs.Settling.{IsSpared}

abbrev pub plain_or : List ObjNo → Option Value → Content → Content
plain_or gone None content = content
plain_or gone (Some spare) content = Plain (scrubbed gone spare)

-- a content whose author is gone becomes its spare
abbrev pub content_after : List ObjNo → Content → Option Value → Content
content_after gone (Plain v) spare = Plain (scrubbed gone v)
content_after gone (Bound b) spare = if is_among gone b.author then plain_or gone spare (Bound b) else Bound b

abbrev pub scrubbed_spare : List ObjNo → Option Value → Option Value
scrubbed_spare gone None = None
scrubbed_spare gone (Some spare) = Some (scrubbed gone spare)

abbrev pub spare_after : List ObjNo → Content → Option Value → Option Value
spare_after gone (Plain v) spare = None
spare_after gone (Bound b) spare = if is_among gone b.author then None else scrubbed_spare gone spare

-- cells that have the spares they need, of objects that aren't gone
abbrev pub AllLeft : List ObjNo → List Cell → Type 0
AllLeft gone [] = Unit {0}
AllLeft gone (cell ∷ cells) = (IsSpared cell × (is_among gone cell.no.object ≡ false)) × AllLeft gone cells
