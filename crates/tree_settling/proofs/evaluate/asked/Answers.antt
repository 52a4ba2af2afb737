use Rattle.tree_settling.proofs.evaluate.asked.Goals as goal

pub returns-in-Visible-clause-answers : goal.returns-in-Visible-clause-answers
returns-in-Visible-clause-answers g c = rw c.in-Visible.is (c.shown.ensures (g.V.View.names c.args.view.now))

pub returns-in-Enabled-clause-answers : goal.returns-in-Enabled-clause-answers
returns-in-Enabled-clause-answers g c = rw c.in-Enabled.is (c.shown-in-Enabled.ensures (g.V.View.names c.args.view.now))

pub returns-in-Count-clause-answers : goal.returns-in-Count-clause-answers
returns-in-Count-clause-answers g c = rw c.in-Count.is (c.count.ensures (g.V.View.names c.args.view.now))

pub returns-in-Follow-clause-answers : goal.returns-in-Follow-clause-answers
returns-in-Follow-clause-answers g c = rw c.in-Follow.is (c.value_of.ensures (g.V.View.names c.args.view.now))
