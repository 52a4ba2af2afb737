use Rattle.first_form.proofs.BoundLemmas.{cells_below}
use Rattle.first_form.proofs.script.read_script.Goals as goal

pub returns-clause-below : goal.returns-clause-below
returns-clause-below c = cells_below c.args.program.now c.args.bytes.now c.script_lines.result c.script_lines.ensures
