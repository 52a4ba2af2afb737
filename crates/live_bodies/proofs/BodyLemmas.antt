-- What bodies of a tree do next.
use Rattle.std.proofs.Common.{◌≡◌, ◌∙◌, ap, refl, Option, Some}
use Rattle.qml_base.specs.declared.numbers.CellNo.{CellNo}
use Rattle.qml_value.specs.declared.value.Value.{Value, Undefined}
use Rattle.evaluation.specs.Evaluating.{is}
use Rattle.tree_model.specs.Settling.{place_of}
use Rattle.std.specs.Prelude.{slice_get}
use Rattle.qml_scope.specs.Shapes.{names_of}
use Rattle.live_tree.specs.Live.{Live}
use Rattle.js_frames.specs.Meant.{World}
use Rattle.machine_bodies.specs.Doing.{sight_of}
use Rattle.js_acting.specs.Acting.{Sees}
use Rattle.live_bodies.specs.Seeing.{held_or}
use Rattle.live_bodies.proofs.SightLemmas.{shown_as}

-- a tree is seen as it is
pub sees : (live : Live) (nothing : Value) → nothing ≡ Undefined
    → Sees (record { names = names_of live.known; view = λ c. Some (is (held_or nothing (slice_get live.tree.cells (place_of live.tree.cells c)))) }) (sight_of live)
sees live nothing e = record { names = refl; view = λ c. ap (λ v. Some (is v)) (shown_as live.tree.cells c nothing e) }
