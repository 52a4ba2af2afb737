use Rattle.tree_settling_tests.proofs.limit.past_the_limit_names_the_lowest_cell.Given as goal

abbrev pub ghosts-begun : goal.ghosts-begun
ghosts-begun g a = record { name = a.blank.name; parts = a.blank.parts }
