-- What is heard of code is what is told of it, gone on with to its end.
use Rattle.std.proofs.Common.{◌≡◌, ◌∙◌, ap, refl, List, [], ◌∷◌, Option, Some, None}
use Rattle.qml_base.specs.declared.numbers.CellNo.{CellNo}
use Rattle.qml_value.specs.declared.value.Value.{Value}
use Rattle.evaluation.specs.Ask.{Ask, ended, reads, finds, has, by_id, condemned, does, Names}
use Rattle.evaluation.specs.Evaluating.{Seen, is, looped, past}
use Rattle.evaluation.specs.Hearing as hearing
use Rattle.evaluation.specs.Hearing.{Views, heard}
use Rattle.js_frames.specs.Telling.{Telling, comes, needs, waits, noted, by_reading, tells, finished}

noted_first : (n : Names) (view : Views) (c : CellNo) (rs : List CellNo) (o : Telling) → hearing.noted c (finished n view rs o) ≡ finished n view (c ∷ rs) o
noted_first n view c rs (comes o) = refl
noted_first n view c rs (needs d) = refl
noted_first n view c rs (waits ask) = refl

read_finished : (n : Names) (view : Views) (c : CellNo) (go : Value → Ask) → ((v : Value) → heard n view (go v) ≡ finished n view (tells n view (go v)).reads (tells n view (go v)).outcome)
    → (o : Option Seen) → hearing.noted c (hearing.by_reading o c (λ v. heard n view (go v)))
    ≡ finished n view (noted c (by_reading o c (λ v. tells n view (go v)))).reads (noted c (by_reading o c (λ v. tells n view (go v)))).outcome
read_finished n view c go behind (Some (is v)) = ap (hearing.noted c) (behind v) ∙ noted_first n view c (tells n view (go v)).reads (tells n view (go v)).outcome
read_finished n view c go behind (Some looped) = refl
read_finished n view c go behind (Some past) = refl
read_finished n view c go behind None = refl

pub told_to_its_end : (n : Names) (view : Views) (ask : Ask) → heard n view ask ≡ finished n view (tells n view ask).reads (tells n view ask).outcome
told_to_its_end n view (ended o) = refl
told_to_its_end n view (reads c go) = read_finished n view c go (λ v. told_to_its_end n view (go v)) (view c)
told_to_its_end n view (finds h name go) = told_to_its_end n view (go (n.resolve h name))
told_to_its_end n view (has o name go) = told_to_its_end n view (go (n.member o name))
told_to_its_end n view (by_id h name go) = told_to_its_end n view (go (n.is_id h name))
told_to_its_end n view (condemned o go) = refl
told_to_its_end n view (does e left go) = refl
