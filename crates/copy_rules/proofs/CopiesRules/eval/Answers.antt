use Rattle.copy_rules.proofs.CopiesRules.eval.Goals as goal

pub returns-in-0-clause-answers : goal.returns-in-0-clause-answers
returns-in-0-clause-answers g c = rw c.in-0.is (c.value_of.ensures (g.V.View.names c.args.view.now))
