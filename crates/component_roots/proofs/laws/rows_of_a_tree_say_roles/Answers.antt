use Rattle.component_roots.proofs.RoleLemmas.{objects_say}
use Rattle.component_roots.proofs.laws.rows_of_a_tree_say_roles.Goals as goal

pub returns : goal.returns
returns c p names d file t objects rows all same read here there = objects_say p names d file t objects rows all same read here there
