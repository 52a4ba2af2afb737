use Rattle.program_tables.proofs.DefaultLemmas.{default_as_meant}
use Rattle.program_tables.proofs.laws.defaults_are_as_in_the_program.Goals as goal

pub returns : goal.returns
returns c p units h d o i = default_as_meant p units h d o i
