use Rattle.eval_tests.proofs.tests.rules_evaluate_and_add_to_the_reads.Given as goal

abbrev pub ghosts-by_rules : goal.ghosts-by_rules
ghosts-by_rules g a = record { name = a.blank.name; parts = a.blank.parts }
