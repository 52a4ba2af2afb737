use Rattle.program_tables.proofs.TreeLemmas.{tree_says}
use Rattle.program_tables.proofs.laws.rows_of_a_tree_say_its_document.Goals as goal

pub returns : goal.returns
returns c p d file t objects rows bases unit all e r k b types = tree_says p d file t objects rows bases unit all e r k b types
