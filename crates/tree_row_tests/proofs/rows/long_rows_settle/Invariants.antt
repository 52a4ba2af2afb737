use Rattle.tree_row_tests.proofs.rows.long_rows_settle.Given as goal

abbrev pub ghosts-rows : goal.ghosts-rows
ghosts-rows g a = record { name = a.blank.name; parts = a.blank.parts }
