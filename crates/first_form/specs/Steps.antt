-- What private steps of the reading give.
use Rattle.std.specs.Prelude.{◌≡◌, ℕ, Bool, true, false, List, ◌++◌, None, Some}
use Rattle.std.specs.declared.alloc.Global.{Global}
use Rattle.std.specs.declared.option.Option.{Option}
use Rattle.std.specs.declared.result.Result.{Result}
use Rattle.std.specs.declared.result.Result.TheVariants.{Ok, Err}
use Rattle.std.specs.declared.vec.Vec.{Vec}
use Rattle.qml_model.specs.declared.text.ScriptLine.{ScriptLine}
use Rattle.first_form.specs.declared.members.Member.{Member}
use Rattle.first_form.specs.Script.{with_line}

-- the members were added after the others, or there are none
abbrev pub AddsMembers : Bool → List Member → List Member → Option (List Member) → Type 0
AddsMembers true old new found = (ms : List Member) × (found ≡ Some ms) × (new ≡ old ++ ms)
AddsMembers false old new found = found ≡ None

-- the lines, without where they lie in memory
abbrev pub lines_in : Result (Vec ScriptLine Global) ℕ → Result (List ScriptLine) ℕ
lines_in (Ok lines) = Ok lines.items
lines_in (Err bad) = Err bad

-- these lines, or the number of the first bad one
abbrev pub GivesLines : Result (Vec ScriptLine Global) ℕ → Result (List ScriptLine) ℕ → Type 0
GivesLines result read = read ≡ lines_in result

-- the lines so far, and those that follow
abbrev pub prepend : List ScriptLine → Result (List ScriptLine) ℕ → Result (List ScriptLine) ℕ
prepend front (Ok lines) = Ok (front ++ lines)
prepend front (Err bad) = Err bad

-- the line was added after the others or is left out, or it is the bad one, whatever its number and what follows
abbrev pub AddsLine : Bool → List (List ℕ) → List ScriptLine → List ScriptLine → List ℕ → Type 0
AddsLine true names old new line = (n : ℕ) (rest : Result (List ScriptLine) ℕ) → prepend old (with_line names n line rest) ≡ prepend new rest
AddsLine false names old new line = (n : ℕ) (rest : Result (List ScriptLine) ℕ) → prepend old (with_line names n line rest) ≡ Err n
