-- The form in which examples of loading are written: files with what they hold, and what loading a path tells.
use Rattle.std.specs.Prelude.{[]}
use Rattle.qml_base.specs.declared.numbers.Place.{Place}
use Rattle.qml_base.specs.declared.load_cause.LoadCause.{LoadCause}
use Rattle.program_names.specs.Paths.{Path}
use Rattle.program_names.specs.Reading.{Sources}
use Rattle.load_faults.specs.Loading.{Loading, unending, refuses, loads, loading}
pub use Rattle.program_names.proofs.ExampleFiles.{at, file, held, sources}

pub data Answer : Type 0 where
  accepted : Answer
  without_end : Answer
  refusal : Path → Place → LoadCause → Answer

abbrev answer_of : Loading → Answer
answer_of unending = without_end
answer_of (refuses path f) = refusal path f.at f.cause
answer_of (loads known order) = accepted

-- what loading a path tells, where its files are at most twenty
abbrev pub told_by : Sources → Path → Answer
told_by files path = answer_of (loading files [] 20 path)
