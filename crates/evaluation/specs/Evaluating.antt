-- An evaluation: what its questions come to where each cell gives a value, loops or is past the limit.
use Rattle.std.specs.Prelude.{◌≡◌, ◌≢◌, false, List, [], ◌∷◌}
use Rattle.qml_base.specs.declared.numbers.CellNo.{CellNo}
use Rattle.qml_base.specs.declared.cause.Cause.TheVariants as cause
use Rattle.qml_value.specs.declared.value.Value.{Value}
use Rattle.evaluation.specs.declared.came.Came.{Came}
use Rattle.evaluation.specs.declared.came.Came.TheVariants as came
use Rattle.evaluation.specs.declared.came.Ended.{Ended}
use Rattle.evaluation.specs.declared.came.Ended.TheVariants as by
use Rattle.evaluation.specs.Ask.{Ask, ended, reads, finds, has, by_id, condemned, does, Names}

-- what code ended with, as what an evaluation comes to
abbrev pub came_of : Ended → Came
came_of (by.Value v) = came.Value v
came_of (by.Threw c) = came.Threw c
came_of by.Past = came.Past

-- what reading a cell gives
pub data Seen : Type 0 where
  is : Value → Seen
  looped : Seen
  past : Seen

abbrev pub Reading : Type 0
Reading = CellNo → Seen

-- what an evaluation comes to, and the cells that it read, in order
pub record Evaluation : Type 0 where
  pub came : Came
  pub reads : List CellNo

abbrev pub behind : CellNo → Evaluation → Evaluation
behind c e = record { came = e.came; reads = c ∷ e.reads }

-- a reading of Loop or Past ends the evaluation with it
abbrev pub after_reading : CellNo → (Value → Evaluation) → Seen → Evaluation
after_reading c go_on (is v) = behind c (go_on v)
after_reading c go_on looped = record { came = came.Loop; reads = c ∷ [] }
after_reading c go_on past = record { came = came.Past; reads = c ∷ [] }

-- an effect throws in place of being done; nothing is condemned for an evaluation
abbrev pub evaluated : Names → Reading → Ask → Evaluation
evaluated n r (ended o) = record { came = came_of o; reads = [] }
evaluated n r (reads c go) = after_reading c (λ v. evaluated n r (go v)) (r c)
evaluated n r (finds h name go) = evaluated n r (go (n.resolve h name))
evaluated n r (has o name go) = evaluated n r (go (n.member o name))
evaluated n r (by_id h name go) = evaluated n r (go (n.is_id h name))
evaluated n r (condemned o go) = evaluated n r (go false)
evaluated n r (does e left go) = record { came = came.Threw cause.Call; reads = [] }

-- two readings give the same of these cells
abbrev pub AgreeOn : List CellNo → Reading → Reading → Type 0
AgreeOn [] r s = Unit {0}
AgreeOn (c ∷ cs) r s = (s c ≡ r c) × AgreeOn cs r s

-- none of these cells loops
abbrev pub NoneLoops : List CellNo → Reading → Type 0
NoneLoops [] r = Unit {0}
NoneLoops (c ∷ cs) r = (r c ≢ looped) × NoneLoops cs r

-- the last of these cells loops
abbrev pub LastLoops : List CellNo → Reading → Type 0
LastLoops [] r = ⊥
LastLoops (c ∷ []) r = r c ≡ looped
LastLoops (c ∷ d ∷ cs) r = LastLoops (d ∷ cs) r
