use Rattle.row_tests.proofs.tests.a_run_in_memory_is_done.Given as goal

abbrev pub ghosts-in_memory-L-Ledger : goal.ghosts-in_memory-L-Ledger
ghosts-in_memory-L-Ledger g a = record { name = a.steps.name; parts = a.steps.parts }

abbrev pub ghosts-in_memory-M-Ledger : goal.ghosts-in_memory-M-Ledger
ghosts-in_memory-M-Ledger g a = record { name = a.given.name; parts = a.given.parts }
