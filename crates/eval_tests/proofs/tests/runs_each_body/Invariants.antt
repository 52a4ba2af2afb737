use Rattle.eval_tests.proofs.tests.runs_each_body.Given as goal

abbrev pub ghosts-each_body : goal.ghosts-each_body
ghosts-each_body g a = record { name = a.blank.name; parts = a.blank.parts }
