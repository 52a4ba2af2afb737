-- What the latest frame awaits.
use Rattle.std.specs.Prelude.{Bool as 𝔹, true, false, List, [], ◌∷◌}
use Rattle.js_frames.specs.declared.frames.Frame.{Frame}
use Rattle.js_frames.specs.declared.frames.Frame.TheVariants as frame

-- whether it awaits what is assigned to
abbrev pub awaits_spot : List Frame → 𝔹
awaits_spot (frame.Target q ∷ fs) = true
awaits_spot (frame.Bump z g ∷ fs) = true
awaits_spot fs = false
