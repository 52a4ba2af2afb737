-- An evaluation by a view in which some cells aren't ready: what is heard of it up to the first of these.
use Rattle.std.specs.Prelude.{◌≡◌, false, List, [], ◌∷◌, ◌++◌, Option, Some, None}
use Rattle.qml_base.specs.declared.numbers.CellNo.{CellNo}
use Rattle.qml_base.specs.declared.cause.Cause.TheVariants as cause
use Rattle.qml_value.specs.declared.value.Value.{Value}
use Rattle.evaluation.specs.declared.came.Came.{Came}
use Rattle.evaluation.specs.declared.came.Came.TheVariants as came
use Rattle.evaluation.specs.declared.came.Evaluated.{Evaluated}
use Rattle.evaluation.specs.declared.came.Evaluated.TheVariants as answer
use Rattle.evaluation.specs.declared.came.Seen.{Seen as Given}
use Rattle.evaluation.specs.declared.came.Seen.TheVariants as given
use Rattle.evaluation.specs.Ask.{Ask, ended, reads, finds, has, by_id, condemned, does, Names}
use Rattle.evaluation.specs.Evaluating.{Seen, is, looped, past, Reading, Evaluation, came_of}

-- what reading gives where a cell is ready
abbrev pub Views : Type 0
Views = CellNo → Option Seen

-- what is heard: what the evaluation comes to, or that the last cell read isn't ready; and the cells that were read, in order
pub data Hearing : Type 0 where
  comes : Came → Hearing
  needs : CellNo → Hearing

pub record Heard : Type 0 where
  pub outcome : Hearing
  pub reads : List CellNo

abbrev pub only : Hearing → Heard
only o = record { outcome = o; reads = [] }

abbrev pub noted : CellNo → Heard → Heard
noted c h = record { outcome = h.outcome; reads = c ∷ h.reads }

abbrev pub by_reading : Option Seen → CellNo → (Value → Heard) → Heard
by_reading (Some (is v)) c go = go v
by_reading (Some looped) c go = only (comes came.Loop)
by_reading (Some past) c go = only (comes came.Past)
by_reading None c go = only (needs c)

-- an effect throws in place of being done; nothing is condemned for an evaluation
abbrev pub heard : Names → Views → Ask → Heard
heard n view (ended o) = only (comes (came_of o))
heard n view (reads c go) = noted c (by_reading (view c) c (λ v. heard n view (go v)))
heard n view (finds h name go) = heard n view (go (n.resolve h name))
heard n view (has o name go) = heard n view (go (n.member o name))
heard n view (by_id h name go) = heard n view (go (n.is_id h name))
heard n view (condemned o go) = heard n view (go false)
heard n view (does e left go) = only (comes (came.Threw cause.Call))

-- what reading answers, as what is seen
abbrev pub Sees : Given → Option Seen → Type 0
Sees (given.Is v) s = s ≡ Some (is v.now)
Sees given.Loop s = s ≡ Some looped
Sees given.Past s = s ≡ Some past
Sees given.Need s = s ≡ None

-- the answer of a call that evaluates, with the cells that were noted before it and those that are noted behind it;
-- without memory nothing is said
abbrev pub Answers : Heard → List CellNo → List CellNo → Evaluated → Type 0
Answers h old new (answer.Value v) = (h.outcome ≡ comes (came.Value v)) × (new ≡ old ++ h.reads)
Answers h old new (answer.Threw c) = (h.outcome ≡ comes (came.Threw c)) × (new ≡ old ++ h.reads)
Answers h old new answer.Loop = (h.outcome ≡ comes came.Loop) × (new ≡ old ++ h.reads)
Answers h old new answer.Past = (h.outcome ≡ comes came.Past) × (new ≡ old ++ h.reads)
Answers h old new (answer.Need c) = (h.outcome ≡ needs c) × (new ≡ old ++ h.reads)
Answers h old new answer.NoMemory = Unit {0}

-- a view that gives what the reading gives where it is ready
abbrev pub Completes : Views → Reading → Type 0
Completes view r = (c : CellNo) (s : Seen) → view c ≡ Some s → r c ≡ s

-- the evaluation as it is heard where each cell that it reads is ready
abbrev pub in_full : Evaluation → Heard
in_full e = record { outcome = comes e.came; reads = e.reads }

-- these cells are ready up to the last
abbrev pub AllReady : Views → List CellNo → Type 0
AllReady view [] = Unit {0}
AllReady view (c ∷ cs) = ((s : Seen) × (view c ≡ Some s)) × AllReady view cs

-- the cells before the first that isn't ready are heard, and that one as the last
pub data FirstUnready (view : Views) (c : CellNo) : List CellNo → List CellNo → Type 0 where
  here : {rest : List CellNo} → view c ≡ None → FirstUnready view c (c ∷ rest) (c ∷ [])
  later : {d : CellNo} {s : Seen} {cs heard : List CellNo} → view d ≡ Some s → FirstUnready view c cs heard → FirstUnready view c (d ∷ cs) (d ∷ heard)

-- what is heard of an evaluation: all of it, where each cell that it reads is ready; else that the first that isn't is needed
abbrev pub HearsBy : Views → Evaluation → Heard → Hearing → Type 0
HearsBy view e h (comes o) = (h ≡ in_full e) × AllReady view e.reads
HearsBy view e h (needs c) = FirstUnready view c e.reads h.reads

abbrev pub Hears : Views → Evaluation → Heard → Type 0
Hears view e h = HearsBy view e h h.outcome
