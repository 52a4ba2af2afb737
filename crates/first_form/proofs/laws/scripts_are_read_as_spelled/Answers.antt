use Rattle.first_form.proofs.ScriptLemmas.{script_found, script_only}
use Rattle.first_form.proofs.laws.scripts_are_read_as_spelled.Goals as goal

pub returns-clause-found : goal.returns-clause-found
returns-clause-found c = script_found

pub returns-clause-only : goal.returns-clause-only
returns-clause-only c = script_only
