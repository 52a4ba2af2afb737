use Rattle.row_tests.proofs.tests.a_directory_is_no_file.Given as goal

abbrev pub ghosts-run-L-Ledger : goal.ghosts-run-L-Ledger
ghosts-run-L-Ledger g a = record { name = a.steps.name; parts = a.steps.parts }

abbrev pub ghosts-run-M-Ledger : goal.ghosts-run-M-Ledger
ghosts-run-M-Ledger g a = record { name = a.given.name; parts = a.given.parts }
