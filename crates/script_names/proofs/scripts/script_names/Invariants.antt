use Rattle.std.proofs.Common.{length}
use Rattle.script_names.proofs.ScriptLemmas.{Left}
use Rattle.script_names.proofs.scripts.script_names.Given as goal

-- what is put and what is left
abbrev pub invariant-imports : goal.invariant-imports
invariant-imports l = Left l.files l.imports l.left l.names

abbrev pub decreases-imports : goal.decreases-imports
decreases-imports l = length l.left
