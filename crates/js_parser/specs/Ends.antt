-- A frame that a statement ends, and what ending it does.
use Rattle.std.specs.Prelude.{◌≡◌, ◌∷◌, Bool, true, false, None}
use Rattle.qml_syntax.specs.Nodes.{Table}
use Rattle.js_machine.specs.declared.open.Frame as code
use Rattle.js_machine.specs.declared.open.Frame.TheVariants as f
use Rattle.js_machine.specs.Moves.{Open, is_over, over_at, move_else}

abbrev pub IsWhen : code.Frame → Type 0
IsWhen (f.When p) = Unit {0}
IsWhen _ = ⊥

-- what is open around a frame is ended next, or nothing is
abbrev pub Passes : code.Frame → Table → Table → Bool → Type 0
Passes frame s after true = (fs : Open) → (is_over (frame ∷ fs) s ≡ is_over fs after) × ((IsWhen frame → ⊥) → move_else (frame ∷ fs) s ≡ move_else fs after)
Passes frame s after false = (after ≡ s) × ((fs : Open) → is_over (frame ∷ fs) s ≡ over_at s (frame ∷ fs)) × ((fs : Open) → move_else (frame ∷ fs) s ≡ None)
