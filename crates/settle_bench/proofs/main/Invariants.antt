use Rattle.settle_bench.proofs.main.Given as goal

abbrev pub ghosts-begun : goal.ghosts-begun
ghosts-begun a = record { name = a.blank.name; parts = a.blank.parts }
