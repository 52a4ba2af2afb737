use Rattle.first_tree.proofs.tests.example_settles.Given as goal

abbrev pub ghosts-settles_example : goal.ghosts-settles_example
ghosts-settles_example g a = record { name = a.blank.name; parts = a.blank.parts }
