use Rattle.tree_rule_tests.proofs.built_in.built_in_rules_settle.Given as goal

abbrev pub ghosts-begun : goal.ghosts-begun
ghosts-begun g a = record { name = a.blank.name; parts = a.blank.parts }
