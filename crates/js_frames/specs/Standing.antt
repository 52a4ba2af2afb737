-- A machine as it stands, and what changes of it.
use Rattle.std.specs.Prelude.{ℕ, ◌+◌, ◌-◌, List, [], ◌∷◌, ◌++◌}
use Rattle.qml_base.specs.declared.numbers.CellNo.{CellNo}
use Rattle.js_meaning.specs.Locals.{State}
use Rattle.js_frames.specs.declared.frames.Frame.{Frame}
use Rattle.js_locals.specs.declared.locals.Local.{Local}
use Rattle.js_frames.specs.declared.machine.Machine.{Machine}
use Rattle.js_locals.specs.Laid.{Laid}
use Rattle.js_locals.specs.Scopes.{scopes_of}

pub record Standing : Type 0 where
  pub frames : List Frame
  pub reads : List CellNo
  pub left : ℕ
  pub locals : List Local

abbrev pub standing : Machine → Standing
standing m = record { frames = m.frames; reads = m.reads.items; left = m.left; locals = m.locals }

abbrev pub with_frame : Frame → Standing → Standing
with_frame f m = record { frames = f ∷ m.frames; reads = m.reads; left = m.left; locals = m.locals }

abbrev pub with_read : CellNo → Standing → Standing
with_read c m = record { frames = m.frames; reads = m.reads ++ c ∷ []; left = m.left; locals = m.locals }

-- with one node less that may be begun
abbrev pub without_node : Standing → Standing
without_node m = record { frames = m.frames; reads = m.reads; left = m.left - 1; locals = m.locals }

abbrev pub with_locals : List Local → Standing → Standing
with_locals ls m = record { frames = m.frames; reads = m.reads; left = m.left; locals = ls }

-- the state of code with this many nodes left
abbrev pub kept : Laid → Standing → ℕ → State
kept c m n = record { scopes = scopes_of c m.locals; left = n }

abbrev pub state_of : Laid → Standing → State
state_of c m = kept c m m.left
