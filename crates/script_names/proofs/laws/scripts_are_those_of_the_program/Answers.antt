use Rattle.program_names.specs.Loaded.{unit_at}
use Rattle.script_names.proofs.ScriptLemmas.{scripts_as_meant}
use Rattle.script_names.proofs.laws.scripts_are_those_of_the_program.Goals as goal

pub returns : goal.returns
returns c p d name = scripts_as_meant p d name (unit_at p d).imports
