use Rattle.alias_tables.proofs.RootLemmas.{roots_as_meant}
use Rattle.alias_tables.proofs.laws.roots_are_those_of_the_program.Goals as goal

pub returns : goal.returns
returns c p roots d owners known l s b e o h = roots_as_meant p roots d owners known l s b e o h
