use Rattle.eval_tests.proofs.tests.evaluates_each_expression.Given as goal

abbrev pub ghosts-each_expression : goal.ghosts-each_expression
ghosts-each_expression g a = record { name = a.blank.name; parts = a.blank.parts }
