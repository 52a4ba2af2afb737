-- Cells that are computed from one another, by number: to a depth, and without any.
use Rattle.std.specs.Prelude.{◌≡◌, ◌≢◌, ℕ, suc, zero, Bool, true, false, List, None, Some, slice_get}
use Rattle.std.specs.declared.option.Option.{Option}
use Rattle.qml_value.specs.declared.value.Value.{Value}
use Rattle.evaluation.specs.declared.came.Came.{Came}
use Rattle.evaluation.specs.declared.came.Came.TheVariants as came

-- what each cell comes to
abbrev pub Outcomes : Type 0
Outcomes = ℕ → Came

-- a cell's value is given, or it is computed from what the cells come to
pub data Step : Type 0 where
  given : Value → Step
  ruled : (Outcomes → Came) → Step

abbrev pub is_ruled : Step → Bool
is_ruled (given v) = false
is_ruled (ruled rule) = true

-- what a step comes to by what is read, and at depth 0, where each rule loops
abbrev pub step_of : Outcomes → Step → Came
step_of read (given v) = came.Value v
step_of read (ruled rule) = rule read

abbrev pub shallow_of : Step → Came
shallow_of (given v) = came.Value v
shallow_of (ruled rule) = came.Loop

-- a cell that isn't there loops
abbrev pub if_there : (Step → Came) → Option Step → Came
if_there give None = came.Loop
if_there give (Some step) = give step

-- what a cell comes to, evaluated to a depth
abbrev pub pull : List Step → ℕ → Outcomes
pull steps zero c = if_there shallow_of (slice_get steps c)
pull steps (suc n) c = if_there (step_of (pull steps n)) (slice_get steps c)

-- whatever doesn't loop by r is the same by s
abbrev pub Keeps : Outcomes → Outcomes → Type 0
Keeps r s = (d : ℕ) → r d ≢ came.Loop → s d ≡ r d

-- what a rule comes to stays where more cells are known
abbrev pub IsSteady : (Outcomes → Came) → Type 0
IsSteady rule = (r s : Outcomes) → Keeps r s → rule r ≢ came.Loop → rule s ≡ rule r

abbrev pub AllSteady : List Step → Type 0
AllSteady steps = (c : ℕ) (rule : Outcomes → Came) → slice_get steps c ≡ Some (ruled rule) → IsSteady rule

-- what is read of each cell is what its step comes to by these very reads
abbrev pub Solves : List Step → Outcomes → Type 0
Solves steps read = (c : ℕ) → if_there (step_of read) (slice_get steps c) ≡ read c
