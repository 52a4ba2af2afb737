use Rattle.program_tables.proofs.TypeLemmas.{types_as_meant}
use Rattle.program_tables.proofs.laws.types_are_as_in_the_program.Goals as goal

pub returns : goal.returns
returns c p units h d o i wanted = types_as_meant p units h d o i wanted
