use Rattle.first_form.proofs.ScriptLemmas.{bad_found, bad_only}
use Rattle.first_form.proofs.laws.first_bad_line_is_told.Goals as goal

pub returns-clause-found : goal.returns-clause-found
returns-clause-found c = bad_found

pub returns-clause-only : goal.returns-clause-only
returns-clause-only c = bad_only
