use Rattle.eval_tests.proofs.tests.begins_100_000_nodes_and_no_more.Given as goal

abbrev pub ghosts-long_chains : goal.ghosts-long_chains
ghosts-long_chains g a = record { name = a.blank.name; parts = a.blank.parts }
