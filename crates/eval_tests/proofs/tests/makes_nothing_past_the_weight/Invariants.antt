use Rattle.eval_tests.proofs.tests.makes_nothing_past_the_weight.Given as goal

abbrev pub ghosts-long_text : goal.ghosts-long_text
ghosts-long_text g a = record { name = a.blank.name; parts = a.blank.parts }
