-- What is told of code by what it sees, up to what goes by effects: its outcome, or what is left to be asked.
use Rattle.std.specs.Prelude.{List, [], ◌∷◌, ◌++◌, Option, Some, None}
use Rattle.qml_base.specs.declared.numbers.CellNo.{CellNo}
use Rattle.qml_value.specs.declared.value.Value.{Value}
use Rattle.evaluation.specs.declared.came.Came.{Came}
use Rattle.evaluation.specs.declared.came.Came.TheVariants as came
use Rattle.evaluation.specs.Ask.{Ask, ended, reads, finds, has, by_id, condemned, does, Names}
use Rattle.evaluation.specs.Evaluating.{Seen, is, looped, past, came_of}
use Rattle.evaluation.specs.Hearing as hearing
use Rattle.evaluation.specs.Hearing.{Views, Heard, heard}

-- what the code comes to, the first cell that isn't ready, or an effect or the question whether an object is condemned, with
-- all that is left behind it
pub data Telling : Type 0 where
  comes : Came → Telling
  needs : CellNo → Telling
  waits : Ask → Telling

pub record Told : Type 0 where
  pub outcome : Telling
  pub reads : List CellNo

abbrev pub only : Telling → Told
only o = record { outcome = o; reads = [] }

abbrev pub noted : CellNo → Told → Told
noted c t = record { outcome = t.outcome; reads = c ∷ t.reads }

abbrev pub by_reading : Option Seen → CellNo → (Value → Told) → Told
by_reading (Some (is v)) c go = go v
by_reading (Some looped) c go = only (comes came.Loop)
by_reading (Some past) c go = only (comes came.Past)
by_reading None c go = only (needs c)

abbrev pub tells : Names → Views → Ask → Told
tells n view (ended o) = only (comes (came_of o))
tells n view (reads c go) = noted c (by_reading (view c) c (λ v. tells n view (go v)))
tells n view (finds h name go) = tells n view (go (n.resolve h name))
tells n view (has o name go) = tells n view (go (n.member o name))
tells n view (by_id h name go) = tells n view (go (n.is_id h name))
tells n view (condemned o go) = only (waits (condemned o go))
tells n view (does e left go) = only (waits (does e left go))

-- what is heard of it, where effects throw in place of being done and nothing is condemned
abbrev pub finished : Names → Views → List CellNo → Telling → Heard
finished n view rs (comes o) = record { outcome = hearing.comes o; reads = rs }
finished n view rs (needs c) = record { outcome = hearing.needs c; reads = rs }
finished n view rs (waits ask) = record { outcome = (heard n view ask).outcome; reads = rs ++ (heard n view ask).reads }
