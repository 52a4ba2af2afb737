use Rattle.tree_settling.proofs.built_in.of_parent.Goals as goal

pub returns-in-Object : goal.returns-in-Object
returns-in-Object g c = λ names. rw c.in-Object.is (c.value_of.ensures names)
