use Rattle.eval_tests.proofs.tests.evaluates_large_and_deep_ones.Given as goal

abbrev pub ghosts-each_large : goal.ghosts-each_large
ghosts-each_large g a = record { name = a.blank.name; parts = a.blank.parts }
