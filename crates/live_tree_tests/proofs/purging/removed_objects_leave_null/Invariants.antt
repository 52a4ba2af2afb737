use Rattle.live_tree_tests.proofs.purging.removed_objects_leave_null.Given as goal

abbrev pub ghosts-both : goal.ghosts-both
ghosts-both g a = record { name = a.blank.name; parts = a.blank.parts }
