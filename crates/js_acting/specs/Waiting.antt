-- A body that waits for what its effect comes to.
use Rattle.std.specs.Prelude.{ℕ, ◌<◌, []}
use Rattle.qml_base.specs.declared.numbers.ExprNo.{ExprNo}
use Rattle.qml_base.specs.declared.numbers.ObjNo.{ObjNo}
use Rattle.qml_syntax.specs.Nodes.{Table}
use Rattle.qml_value.specs.declared.value.Value.{Value}
use Rattle.evaluation.specs.Ask.{Ask}
use Rattle.js_meaning.specs.Eval.{Code}
use Rattle.js_meaning.specs.Resuming.{Action, an_effect, an_end}
use Rattle.js_frames.specs.declared.frames.Before.TheVariants as stands
use Rattle.js_frames.specs.declared.frames.Here.{Here}
use Rattle.js_frames.specs.declared.frames.Next.{Next}
use Rattle.js_frames.specs.declared.frames.Next.TheVariants as next
use Rattle.js_locals.specs.Laid.{laid}
use Rattle.js_frames.specs.Standing.{Standing}
use Rattle.js_frames.specs.Meant.{meant}
use Rattle.js_frames.specs.Stepping.{where_of}
use Rattle.js_acting.specs.declared.waiting.Acted.{Acted}
use Rattle.js_acting.specs.declared.waiting.Acted.TheVariants as acted_as
use Rattle.js_acting.specs.declared.waiting.Behind.{Behind}
use Rattle.js_acting.specs.declared.waiting.Behind.TheVariants as behind
use Rattle.js_acting.specs.declared.waiting.Stopped.{Stopped}
use Rattle.js_acting.specs.Acting.{acting}

-- what comes next with the answer
abbrev pub next_behind : Behind → Value → Next
next_behind (behind.Step q) v = next.Step (stands.Value v) q
next_behind (behind.Back back) v = next.Back back

abbrev pub standing_of : Stopped → Standing
standing_of w = record { frames = w.frames; reads = []; left = w.left; locals = w.locals }

-- how it goes on by the answer
abbrev pub goes_on : Code → (ExprNo → Table) → Stopped → Value → Ask
goes_on code tables w v = meant (laid (tables w.here.text)) (where_of code tables (acting w.author) w.here) (standing_of w) (next_behind w.behind v)

-- what is done next
abbrev pub meant_by : Code → (ExprNo → Table) → Acted → Action
meant_by code tables (acted_as.Effect e w) = an_effect e w.left (goes_on code tables w)
meant_by code tables (acted_as.End o) = an_end o

-- fewer nodes are left behind an effect
abbrev pub HasFewer : ℕ → Acted → Type 0
HasFewer n (acted_as.Effect e w) = w.left < n
HasFewer n (acted_as.End o) = Unit {0}
