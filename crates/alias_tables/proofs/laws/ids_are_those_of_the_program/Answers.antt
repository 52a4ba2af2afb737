use Rattle.alias_tables.proofs.IdLemmas.{ids_as_meant}
use Rattle.alias_tables.proofs.laws.ids_are_those_of_the_program.Goals as goal

pub returns : goal.returns
returns c p roots d t rows numbers says knows component less name = ids_as_meant p roots d t rows numbers says knows component less name
